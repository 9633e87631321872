-- How a leaf is opened on what it may be split on.
use Rattle.std.proofs.Common.{◌<◌, ◌^◌, length, refl, rules, arith}
use Rattle.std.proofs.lemmas.Option.{slice_get_within}
use Rattle.branch.proofs.lemmas.ListLemmas.{beside_left}
use Rattle.branch.proofs.lemmas.OpeningLemmas.{decided, undecided, place_within, place_small, parent_costs, parent_feasible}
use Rattle.branch.proofs.lemmas.OpeningLemmas.{one_more_outside, one_more_inside, opened}
use Rattle.branch.proofs.next_opening.opening_on.Goals as goal

pub index-note-requires : goal.index-note-requires
index-note-requires _ c =
    let within : c.args.place < length c.args.kept.now.notes.items =
    grind (arith, beside_left, slice_get_within) in
    search rules

pub overflow_cast-place : goal.overflow_cast-place
overflow_cast-place _ c =
    let small : c.args.place < 2 ^ 31 =
    place_small _ _ _ _ _ c.requires.search c.requires.can c.index-note.ensures c.requires.few in
    omega arith

pub packing-parent-requires : goal.packing-parent-requires
packing-parent-requires _ c = place_within _ _ _ _ _ c.requires.search c.requires.can c.index-note.ensures

pub decided_outside-requires-clause-decision : goal.decided_outside-requires-clause-decision
decided_outside-requires-clause-decision _ c = decided _ _ _ _ _ c.requires.search c.requires.can c.index-note.ensures

pub decided_outside-requires-clause-undecided : goal.decided_outside-requires-clause-undecided
decided_outside-requires-clause-undecided _ c = undecided _ _ _ _ _ c.requires.search c.requires.can c.index-note.ensures

pub child_of-requires-clause-before : goal.child_of-requires-clause-before
child_of-requires-clause-before _ c = decided _ _ _ _ _ c.requires.search c.requires.can c.index-note.ensures

pub child_of-requires-clause-one_more : goal.child_of-requires-clause-one_more
child_of-requires-clause-one_more _ c =
    one_more_outside _ _ _ c.args.on (undecided _ _ _ _ _ c.requires.search c.requires.can c.index-note.ensures)
    c.in_ok-decided_outside.ensures.value

pub child_of-requires-clause-feasible : goal.child_of-requires-clause-feasible
child_of-requires-clause-feasible _ c =
    parent_feasible _ _ _ _ _ c.requires.search c.requires.can c.index-note.ensures _ c.packing-parent.ensures

pub child_of-requires-clause-costs : goal.child_of-requires-clause-costs
child_of-requires-clause-costs _ c =
    parent_costs _ _ _ _ _ c.requires.search c.requires.can c.index-note.ensures _ c.packing-parent.ensures

pub decided_inside-requires-clause-decision : goal.decided_inside-requires-clause-decision
decided_inside-requires-clause-decision _ c = decided _ _ _ _ _ c.requires.search c.requires.can c.index-note.ensures

pub decided_inside-requires-clause-undecided : goal.decided_inside-requires-clause-undecided
decided_inside-requires-clause-undecided _ c = undecided _ _ _ _ _ c.requires.search c.requires.can c.index-note.ensures

pub child_of-requires-2-clause-before : goal.child_of-requires-2-clause-before
child_of-requires-2-clause-before _ c = decided _ _ _ _ _ c.requires.search c.requires.can c.index-note.ensures

pub child_of-requires-2-clause-one_more : goal.child_of-requires-2-clause-one_more
child_of-requires-2-clause-one_more _ c =
    one_more_inside _ _ _ c.args.on (undecided _ _ _ _ _ c.requires.search c.requires.can c.index-note.ensures)
    c.in_ok-decided_inside.ensures.value

pub child_of-requires-2-clause-feasible : goal.child_of-requires-2-clause-feasible
child_of-requires-2-clause-feasible _ c =
    parent_feasible _ _ _ _ _ c.requires.search c.requires.can c.index-note.ensures _ c.packing-parent.ensures

pub child_of-requires-2-clause-costs : goal.child_of-requires-2-clause-costs
child_of-requires-2-clause-costs _ c =
    parent_costs _ _ _ _ _ c.requires.search c.requires.can c.index-note.ensures _ c.packing-parent.ensures

pub overflow_cast-result : goal.overflow_cast-result
overflow_cast-result _ c =
    let small : c.args.place < 2 ^ 31 =
    place_small _ _ _ _ _ c.requires.search c.requires.can c.index-note.ensures c.requires.few in
    omega arith

pub child_of-requires-clause-sizes : goal.child_of-requires-clause-sizes
child_of-requires-clause-sizes _ c = rw c.for_each-for_outside.ensures.outside (grind arith)

pub child_of-requires-2-clause-sizes : goal.child_of-requires-2-clause-sizes
child_of-requires-2-clause-sizes _ c = rw c.for_each-for_outside.ensures.inside (grind arith)

pub returns : goal.returns
returns _ c =
    let (opening, carried) = opened _ _ _ _ _ c.requires.search c.requires.can c.index-note.ensures _ _ _ _ _ _
    c.in_ok-decided_outside.ensures.value c.in_ok-decided_inside.ensures.value c.packing-parent.ensures
    c.in_ok-outside.ensures.begins c.in_ok-inside.ensures.begins c.args.offered _ _ c.requires.offered
    c.for_each-for_outside.ensures.outside c.for_each-for_outside.ensures.inside
    c.in_ok-outside.ensures.anew c.in_ok-inside.ensures.anew c.in_ok-outside.ensures.note c.in_ok-inside.ensures.note
    c.in_ok-best.ensures.best c.in_ok-best.ensures.which c.in_ok-best.ensures.outside c.in_ok-best.ensures.inside in
    record { opening = opening; carried = carried; leaf = refl; on = refl }
