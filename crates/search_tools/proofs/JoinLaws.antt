-- The trees that were generated for points, and trees that are no worse, join all points.
use Rattle.std.proofs.Common.{ℕ, true, List, length, Some, ap, ◌∙◌, arith, zero, suc}
use Rattle.std.proofs.lemmas.List.{get_or-replicate, length-replicate}
use Rattle.std.proofs.lemmas.Option.{slice_get-get_or}
use Rattle.net_graph.specs.Search.{StepWalk}
use Rattle.full_tree.specs.declared.code.Tree.{Tree}
use Rattle.concatenation.specs.Concatenation.{SharesTree, IsConcatenation, all_of}
use Rattle.concatenation.specs.SetLaws.{AllJoin}
use Rattle.fst_concat.specs.Chosen.{IsFirstApart}
use Rattle.fst_gen.specs.Joins as gen
use Rattle.fst_prune.specs.LeastTotal.{IsNoWorse}

-- a tree of the list is one of the set of all
shares_all : (trees : List Tree) (i j : ℕ) → gen.SharesTree trees i j → SharesTree trees (all_of trees) i j
shares_all trees i j shares =
    let (k, inside, is) = shares.listed in (
      k,
      shares.tree,
      slice_get-get_or (all_of trees) k true (omega (arith, length-replicate (length trees) true)) ∙ ap (λ flag. Some flag) (get_or-replicate (length trees) k true true inside),
      slice_get-get_or trees k shares.tree inside ∙ ap (λ t. Some t) is,
      shares.first,
      shares.second,
    )

walk_all : (trees : List Tree) (i j n : ℕ) → StepWalk (gen.SharesTree trees) i j n → StepWalk (SharesTree trees (all_of trees)) i j n
walk_all trees i j zero walk = walk
walk_all trees i j (suc n) (u, walk, step) = (u, walk_all trees i u n walk, shares_all trees u j step)

-- trees that join all terminals are a concatenation
all_joined : (n : ℕ) (trees : List Tree) → gen.JoinsAll n trees → IsConcatenation n trees (all_of trees)
all_joined n trees joins = record {
  size = length-replicate (length trees) true;
  joins = λ i inside. let (m, walk) = joins 0 i (omega (arith, inside)) inside in (m, walk_all trees 0 i m walk);
}

-- Where the trees of a list join all terminals, and others are no worse, these leave none apart.
pub others_join : AllJoin → (n : ℕ) (trees others : List Tree) (place : ℕ) → gen.JoinsAll n trees → IsNoWorse trees others →
    IsFirstApart n others (all_of others) place → ⊥
others_join all n trees others place joins no_worse apart =
    grind (arith, all n others (no_worse n (all_of trees) (all_joined n trees joins)).set (no_worse n (all_of trees) (all_joined n trees joins)).is)
