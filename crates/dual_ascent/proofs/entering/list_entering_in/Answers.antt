use Rattle.std.proofs.Common.{ℕ, ◌+◌, ◌*◌, ◌≤◌, min, length, arith, w64}
use Rattle.std.specs.Int.{trailing_zeros}
use Rattle.dual_ascent.proofs.lemmas.EnteringLemmas.{AreEnteringBelow-skip, AreEnteringBelow-past}
use Rattle.dual_ascent.proofs.lemmas.MarkLemmas.{mark_within, mark_is_member, none_before, marks_behind, none_behind}
use Rattle.dual_ascent.proofs.entering.list_entering_in.Goals as goal

pub loop-marks-init : goal.loop-marks-init
loop-marks-init c = grind arith

pub overflow_add-v : goal.overflow_add-v
overflow_add-v c =
    let inside = mark_within c.args.members.now c.loop-marks.marks c.loop-marks.v (64 * (c.args.place + 1)) c.loop-marks.invariant.marks (omega arith) (omega arith) in
    omega (arith, inside, c.requires.within, c.len.ensures, c.len.type_inv)

pub returns-then-v-bound : goal.returns-then-v-bound
returns-then-v-bound c =
    let members = c.args.members.now in
    let next : ℕ = c.loop-marks.v + trailing_zeros w64 c.loop-marks.marks in
    let apart = none_before members c.loop-marks.marks c.loop-marks.v (64 * (c.args.place + 1)) c.loop-marks.invariant.marks (omega arith) (omega arith) in
    let so_far = AreEnteringBelow-skip c.args.costs.now members c.loop-marks.v next c.loop-marks.list.items c.loop-marks.invariant.listed apart in
    let past : min (length members) c.args.g.now.vertices ≤ next = omega (arith, c.len.ensures, c.vertex_count.ensures.count, c.min-bound.ensures, c.if-v-bound.true) in
    AreEnteringBelow-past c.args.g.now c.args.costs.now members next (64 * (c.args.place + 1)) c.loop-marks.list.items
    c.vertex_count.ensures.graph c.requires.edges past so_far

pub list_entering_at-requires-clause-member : goal.list_entering_at-requires-clause-member
list_entering_at-requires-clause-member c = grind (arith, mark_is_member)

pub list_entering_at-requires-clause-below : goal.list_entering_at-requires-clause-below
list_entering_at-requires-clause-below c =
    let next : ℕ = c.loop-marks.v + trailing_zeros w64 c.loop-marks.marks in
    AreEnteringBelow-skip c.args.costs.now c.args.members.now c.loop-marks.v next c.loop-marks.list.items c.loop-marks.invariant.listed
    (none_before c.args.members.now c.loop-marks.marks c.loop-marks.v (64 * (c.args.place + 1)) c.loop-marks.invariant.marks (omega arith) (omega arith))

pub loop-marks-preserved : goal.loop-marks-preserved
loop-marks-preserved c = record {
  listed = c.in_ok-list_entering_at.ensures;
  marks = marks_behind c.args.members.now c.loop-marks.marks c.loop-marks.v (64 * (c.args.place + 1)) (trailing_zeros w64 c.loop-marks.marks)
      c.loop-marks.invariant.marks
      (mark_within c.args.members.now c.loop-marks.marks c.loop-marks.v (64 * (c.args.place + 1)) c.loop-marks.invariant.marks (omega arith) (omega arith));
}

pub returns : goal.returns
returns c = grind (arith, AreEnteringBelow-skip, none_behind)
