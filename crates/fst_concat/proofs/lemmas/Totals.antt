-- Totals of sets of trees, from a place on; and lists made from trees.
use Rattle.std.specs.Prelude.{slice_get}
use Rattle.std.proofs.Common.{ℕ, zero, suc, ◌≡◌, ◌+◌, ◌<◌, Bool, true, false, Some, List, [], ◌∷◌, All, length, map, drop, refl, ap, sym, subst, ◌∙◌, add-one, arith}
use Rattle.std.proofs.lemmas.Option.{slice_get_within, slice_get-map, get_or_from_slice_get}
use Rattle.full_tree.specs.declared.code.Tree.{Tree}
use Rattle.full_tree.specs.Code.{named_places}
use Rattle.full_tree.specs.MembersLaws.{length-ascending_places}
use Rattle.concatenation.specs.Concatenation.{total_of}
use Rattle.fst_concat.specs.Chosen.{HasMembersBelow}
use Rattle.fst_concat.specs.Listed.{tree_members, IsListed}
use Rattle.fst_concat.proofs.lemmas.Parts.{tree_of}

total-here : (trees : List Tree) (set : List Bool) (k : ℕ) (tree : Tree) → slice_get trees k ≡ Some tree → slice_get set k ≡ Some true
    → total_of (drop k trees) (drop k set) ≡ tree.length + total_of (drop (suc k) trees) (drop (suc k) set)
total-here [] set k tree at inside = (cc)
total-here (t ∷ trees) [] k tree at inside = (cc)
total-here (t ∷ trees) (true ∷ set) zero tree at inside = let same : t ≡ tree = (cc) in omega (arith, ap (λ (x : Tree). x.length) same)
total-here (t ∷ trees) (false ∷ set) zero tree at inside = (cc)
total-here (t ∷ trees) (flag ∷ set) (suc k) tree at inside = total-here trees set k tree at inside

total-none : (trees : List Tree) (set : List Bool) (k : ℕ) → slice_get set k ≡ Some false
    → total_of (drop k trees) (drop k set) ≡ total_of (drop (suc k) trees) (drop (suc k) set)
total-none [] set zero outside = refl
total-none [] set (suc k) outside = refl
total-none (t ∷ trees) [] k outside = (cc)
total-none (t ∷ trees) (true ∷ set) zero outside = (cc)
total-none (t ∷ trees) (false ∷ set) zero outside = omega arith
total-none (t ∷ trees) (flag ∷ set) (suc k) outside = total-none trees set k outside

-- a tree of the set adds its length
pub total-in : (trees : List Tree) (set : List Bool) (k : ℕ) (tree : Tree) → slice_get trees k ≡ Some tree → slice_get set k ≡ Some true
    → total_of (drop k trees) (drop k set) ≡ tree.length + total_of (drop (k + 1) trees) (drop (k + 1) set)
total-in trees set k tree at inside = rw add-one (total-here trees set k tree at inside)

-- any other adds nothing
pub total-out : (trees : List Tree) (set : List Bool) (k : ℕ) → slice_get set k ≡ Some false
    → total_of (drop k trees) (drop k set) ≡ total_of (drop (k + 1) trees) (drop (k + 1) set)
total-out trees set k outside = rw add-one (total-none trees set k outside)

-- a tree's facts, where all trees have them
pub usable_at : (n : ℕ) (trees : List Tree) (k : ℕ) (tree : Tree) → All (HasMembersBelow n) trees → slice_get trees k ≡ Some tree
    → HasMembersBelow n tree
usable_at n trees k tree all at =
    subst (HasMembersBelow n) (get_or_from_slice_get trees k tree tree at) (all k tree (slice_get_within trees k tree at))

-- the members of usable trees
pub IsListed-map : (n : ℕ) (trees : List Tree) (listed : List (List ℕ)) → listed ≡ map tree_members trees → All (HasMembersBelow n) trees
    → IsListed n trees listed
IsListed-map n trees listed same all = record {
  same = same;
  below = λ k members at.
      let (tree, at_tree, is) = tree_of (slice_get trees k) members (sym (slice_get-map tree_members trees k) ∙ ap (λ xs. slice_get xs k) (sym same) ∙ at) in
      subst (λ xs. All (λ i. i < n) xs) is (usable_at n trees k tree all at_tree).below;
  few = λ k members at.
      let (tree, at_tree, is) = tree_of (slice_get trees k) members (sym (slice_get-map tree_members trees k) ∙ ap (λ xs. slice_get xs k) (sym same) ∙ at) in
      let few = (usable_at n trees k tree all at_tree).few in
      omega (arith, few.few, length-ascending_places (named_places tree.code) few.distinct, ap length is);
}
