use Rattle.std.proofs.Common.{ℕ, ap, ◌∙◌, arith, length, get_or}
use Rattle.std.proofs.lemmas.Bool.{eq-eqb, ne_eqb}
use Rattle.net_graph.specs.Found.{flags_of_marks}
use Rattle.net_graph.proofs.lemmas.ApartLemmas.{MarksReached, first_unmarked, reached_more, reached_all}
use Rattle.net_graph.proofs.lemmas.LentRoomLemmas.{flag_of_mark}
use Rattle.net_graph.proofs.lemmas.NetworkLemmas.{marks_reached}
use Rattle.net_graph.proofs.network.first_apart_within.Goals as goal

pub returns-then-marks-terminal-ne1-clause-first : goal.returns-then-marks-terminal-ne1-clause-first
returns-then-marks-terminal-ne1-clause-first c =
    let terminal : ℕ = get_or c.terminals-terminal-items.result.now c.loop-place.place 0 in
    let marks = c.mark_reached.new.marks in
    let reached : MarksReached c.args.g.now c.args.set.now (flags_of_marks marks) =
    marks_reached c.args.g.now c.args.set.now (flags_of_marks marks) c.root.result c.root.ensures.root c.mark_reached.ensures in
    first_unmarked c.args.g.now c.args.set.now (flags_of_marks marks) c.terminals-terminal-items.result.now c.loop-place.place
    c.terminals-terminal-items.ensures.terminals reached c.loop-place-test.true (flag_of_mark marks terminal ∙ ne_eqb (get_or marks terminal 0) 1 c.if-marks-terminal-ne1.true) c.loop-place.invariant

pub loop-place-preserved : goal.loop-place-preserved
loop-place-preserved c =
    let terminal : ℕ = get_or c.terminals-terminal-items.result.now c.loop-place.place 0 in
    let marks = c.mark_reached.new.marks in
    let reached : MarksReached c.args.g.now c.args.set.now (flags_of_marks marks) =
    marks_reached c.args.g.now c.args.set.now (flags_of_marks marks) c.root.result c.root.ensures.root c.mark_reached.ensures in
    reached_more c.args.g.now c.args.set.now (flags_of_marks marks) c.terminals-terminal-items.result.now c.loop-place.place
    c.terminals-terminal-items.ensures.terminals reached (flag_of_mark marks terminal ∙ eq-eqb (get_or marks terminal 0) 1 c.if-marks-terminal-ne1.false) c.loop-place.invariant

pub returns-clause-none : goal.returns-clause-none
returns-clause-none c =
    let same = ap length c.terminals-terminal-items.ensures.terminals in
    reached_all c.args.g.now c.args.set.now c.loop-place.place (omega arith) c.loop-place.invariant
