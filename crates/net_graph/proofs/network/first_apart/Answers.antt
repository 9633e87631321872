use Rattle.std.proofs.Common.{ap, sym, ◌∙◌, arith, length}
use Rattle.net_graph.proofs.lemmas.ApartLemmas.{first_unmarked, reached_more, reached_all}
use Rattle.net_graph.proofs.network.first_apart.Goals as goal

pub returns-then-not-has-clause-first : goal.returns-then-not-has-clause-first
returns-then-not-has-clause-first c =
    first_unmarked c.args.g.now c.args.set.now c.in_ok-marks.marks c.terminals-terminal-items.result.now c.loop-place.place
    c.terminals-terminal-items.ensures.terminals c.in_ok-marks.ensures.reached c.loop-place-test.true (sym c.has.ensures.within ∙ c.if-not-has.true) c.loop-place.invariant

pub loop-place-preserved : goal.loop-place-preserved
loop-place-preserved c =
    reached_more c.args.g.now c.args.set.now c.in_ok-marks.marks c.terminals-terminal-items.result.now c.loop-place.place
    c.terminals-terminal-items.ensures.terminals c.in_ok-marks.ensures.reached (sym c.has.ensures.within ∙ c.if-not-has.false) c.loop-place.invariant

pub returns-clause-none : goal.returns-clause-none
returns-clause-none c =
    let same = ap length c.terminals-terminal-items.ensures.terminals in
    reached_all c.args.g.now c.args.set.now c.loop-place.place (omega arith) c.loop-place.invariant
