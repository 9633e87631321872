-- A set of trees within another: what it joins the other joins, and its total is no greater.
use Rattle.std.proofs.Common.{ℕ, suc, ◌≡◌, Bool, true, false, List, [], ◌∷◌, length, arith, refl}
use Rattle.std.proofs.lemmas.List.{length-replicate}
use Rattle.std.proofs.lemmas.Option.{slice_get_within}
use Rattle.lists.specs.ListLaws.{slice_get-repeated}
use Rattle.net_graph.specs.SearchLaws.{Leads-weaker}
use Rattle.full_tree.specs.declared.code.Tree.{Tree}
use Rattle.concatenation.specs.Concatenation.{SharesTree, all_of, total_of}
use Rattle.concatenation.specs.SetLaws.{IsWithin, MoreTreesJoin, AllJoin, TotalsRise}

-- two members of a tree of the set are members of a tree of a set that holds it
SharesTree-within : (trees : List Tree) (few more : List Bool) → IsWithin few more → (i j : ℕ) → SharesTree trees few i j →
    SharesTree trees more i j
SharesTree-within trees few more within i j (k, tree, in_set, in_list, first, second) =
    (k, tree, within k in_set, in_list, first, second)

pub more_trees_join_lem : MoreTreesJoin
more_trees_join_lem n trees few more within size joined = record {
  size = size;
  joins = λ i below. Leads-weaker (SharesTree trees few) (SharesTree trees more) (SharesTree-within trees few more within) 0 i
      (joined.joins i below);
}

pub all_join_lem : AllJoin
all_join_lem n trees set joined =
    more_trees_join_lem n trees set (all_of trees)
    (λ k in_set. let within = slice_get_within set k true in_set in
    slice_get-repeated (length trees) k true (omega (arith, within, joined.size)))
    (length-replicate (length trees) true) joined

-- the rest of a set is within the rest of another
IsWithin-rest : (flag other : Bool) (few more : List Bool) → IsWithin (flag ∷ few) (other ∷ more) → IsWithin few more
IsWithin-rest flag other few more within k = within (suc k)

-- a set that is within no trees has no total
total_of-none : (trees : List Tree) (few : List Bool) → IsWithin few [] → total_of trees few ≡ 0
total_of-none [] few within = refl
total_of-none (tree ∷ trees) [] within = refl
total_of-none (tree ∷ trees) (true ∷ few) within = let none = within 0 refl in cc
total_of-none (tree ∷ trees) (false ∷ few) within = omega (arith, total_of-none trees few (λ k. within (suc k)))

pub totals_rise_lem : TotalsRise
totals_rise_lem [] few more within = omega arith
totals_rise_lem (tree ∷ trees) [] more within = omega arith
totals_rise_lem (tree ∷ trees) (flag ∷ few) [] within = omega (arith, total_of-none (tree ∷ trees) (flag ∷ few) within)
totals_rise_lem (tree ∷ trees) (false ∷ few) (other ∷ more) within =
    omega (arith, totals_rise_lem trees few more (IsWithin-rest false other few more within))
totals_rise_lem (tree ∷ trees) (true ∷ few) (false ∷ more) within = let both = within 0 refl in cc
totals_rise_lem (tree ∷ trees) (true ∷ few) (true ∷ more) within =
    omega (arith, totals_rise_lem trees few more (IsWithin-rest true true few more within))
