-- Each choice fits: an open tree takes no more than its length, and a taken one lies in one part of each level.
use Rattle.std.proofs.Common.{arith}
use Rattle.std.proofs.lemmas.Option.{slice_get_within}
use Rattle.concatenation.specs.declared.choice.Choice.TheVariants.{Open, Taken}
use Rattle.fst_concat.proofs.bound.packs.Goals as goal

pub returns : goal.returns
returns c = λ yes. record {
  sizes = c.are_sized.ensures c.if-not-are_sized.false;
  taken = λ k tree at at_tree. c.loop-place.invariant k Taken tree (omega (arith, slice_get_within c.args.trees.now k tree at_tree)) at at_tree;
  loads = λ k tree at at_tree. c.loop-place.invariant k Open tree (omega (arith, slice_get_within c.args.trees.now k tree at_tree)) at at_tree;
}
