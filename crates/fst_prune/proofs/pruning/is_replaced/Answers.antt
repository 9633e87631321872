use Rattle.std.proofs.Common.{List, subst, sym, ◌∙◌, arith}
use Rattle.std.specs.Prelude.{length}
use Rattle.std.proofs.lemmas.Bool.Decides.{nat_tests}
use Rattle.spanning.specs.declared.pair.Pair.{Pair}
use Rattle.full_tree.specs.MembersLaws.{Climbs}
use Rattle.fst_prune.proofs.lemmas.Replaced.{pairs_below, told_by_joining, not_replaced}
use Rattle.std.specs.Prelude.{IfNone}
use Rattle.std.proofs.lemmas.Option.{same_Some}
use Rattle.spanning.specs.Joining.{JoinsBelow, all_of}
use Rattle.spanning.specs.JoiningLaws.{JoinsBelow-all}
use Rattle.fst_prune.proofs.lemmas.Firsts.{members_climb}
use Rattle.fst_prune.proofs.pruning.is_replaced.Goals as goal

pub pairs_within-pairs-requires-clause-ascending : goal.pairs_within-pairs-requires-clause-ascending
pairs_within-pairs-requires-clause-ascending c =
    subst Climbs (sym c.requires.members.members) (members_climb c.requires.members.tree)

pub least_joining-requires-clause-ends : goal.least_joining-requires-clause-ends
least_joining-requires-clause-ends c =
    grind (arith, pairs_below c.args.trees.now c.args.members.now c.pairs_within-pairs.result c.pairs_within-pairs.ensures)

pub returns-in-Some : goal.returns-in-Some
returns-in-Some c =
    grind (arith, same_Some c.get.result.now (c.requires.members).tree (sym c.get.ensures ∙ (c.requires.members).at), told_by_joining, nat_tests)

pub returns-in-None : goal.returns-in-None
returns-in-None c =
    let has = c.requires.members in
    let none : ¬ JoinsBelow (length c.args.members.now) c.pairs_within-pairs.result (all_of c.pairs_within-pairs.result) =
    subst (λ (pairs : List Pair). ¬ JoinsBelow (length c.args.members.now) pairs (all_of pairs)) c.as_slice.ensures
    (subst (λ o. IfNone o (¬ JoinsBelow (length c.args.members.now) c.as_slice.result.now (all_of c.as_slice.result.now))) c.in-None.is c.in_ok-joined.ensures.none) in
    not_replaced c.args.trees.now c.args.members.now c.pairs_within-pairs.result c.pairs_within-pairs.ensures c.args.place has.tree has.at has.members
    (omega (arith, c.requires.three)) (λ other joins. absurd (none (JoinsBelow-all (length c.args.members.now) c.pairs_within-pairs.result other joins)))
