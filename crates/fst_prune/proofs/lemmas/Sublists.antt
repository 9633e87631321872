-- Sets of a list's trees as sets of the trees of a sublist, and the other way round.
use Rattle.std.proofs.Common.{ℕ, zero, suc, ◌≡◌, Bool, true, false, List, [], ◌∷◌, length, refl, ◌∙◌, arith, Some}
use Rattle.std.specs.Prelude.{slice_get}
use Rattle.net_graph.specs.SearchLaws.{Leads-weaker}
use Rattle.full_tree.specs.declared.code.Tree.{Tree}
use Rattle.concatenation.specs.Concatenation.{SharesTree, IsConcatenation, total_of}
use Rattle.fst_prune.specs.Kept.{trees_of}

-- of a set, the flags of the trees of the sublist
abbrev pub restrict : List Bool → List Bool → List Bool
restrict [] set = []
restrict (flag ∷ flags) [] = []
restrict (true ∷ flags) (x ∷ set) = x ∷ restrict flags set
restrict (false ∷ flags) (x ∷ set) = restrict flags set

-- a set of the trees of the sublist as one of the list
abbrev pub expand : List Bool → List Bool → List Bool
expand [] set = []
expand (true ∷ flags) [] = false ∷ expand flags []
expand (true ∷ flags) (x ∷ set) = x ∷ expand flags set
expand (false ∷ flags) set = false ∷ expand flags set

-- the set is within the sublist
abbrev pub IsWithin : List Bool → List Bool → Type 0
IsWithin set flags = (k : ℕ) → slice_get set k ≡ Some true → slice_get flags k ≡ Some true

-- a tree of one list is one of the other, each with its flag
abbrev pub Has : List Tree → List Bool → Tree → Type 0
Has trees set tree = (k : ℕ) × (slice_get set k ≡ Some true) × (slice_get trees k ≡ Some tree)

-- ---- to the sublist

pub length-restrict : (trees : List Tree) (flags set : List Bool) → length flags ≡ length trees → length set ≡ length trees
    → length (restrict flags set) ≡ length (trees_of trees flags)
length-restrict [] [] set same same' = refl
length-restrict [] (flag ∷ flags) set same same' = absurd (omega (arith, same))
length-restrict (tree ∷ trees) [] set same same' = absurd (omega (arith, same))
length-restrict (tree ∷ trees) (flag ∷ flags) [] same same' = absurd (omega (arith, same'))
length-restrict (tree ∷ trees) (true ∷ flags) (x ∷ set) same same' = omega (arith, length-restrict trees flags set (omega (arith, same)) (omega (arith, same')))
length-restrict (tree ∷ trees) (false ∷ flags) (x ∷ set) same same' = length-restrict trees flags set (omega (arith, same)) (omega (arith, same'))

pub total_of-restrict : (trees : List Tree) (flags set : List Bool) → length flags ≡ length trees → length set ≡ length trees
    → IsWithin set flags → total_of (trees_of trees flags) (restrict flags set) ≡ total_of trees set
total_of-restrict [] [] set same same' within = refl
total_of-restrict [] (flag ∷ flags) set same same' within = absurd (omega (arith, same))
total_of-restrict (tree ∷ trees) [] set same same' within = absurd (omega (arith, same))
total_of-restrict (tree ∷ trees) (flag ∷ flags) [] same same' within = absurd (omega (arith, same'))
total_of-restrict (tree ∷ trees) (true ∷ flags) (x ∷ set) same same' within =
    omega (arith, total_of-restrict trees flags set (omega (arith, same)) (omega (arith, same')) (λ k at. within (suc k) at))
total_of-restrict (tree ∷ trees) (false ∷ flags) (true ∷ set) same same' within = absurd (let none = within 0 refl in cc)
total_of-restrict (tree ∷ trees) (false ∷ flags) (false ∷ set) same same' within =
    omega (arith, total_of-restrict trees flags set (omega (arith, same)) (omega (arith, same')) (λ k at. within (suc k) at))

pub has-restrict : (trees : List Tree) (flags set : List Bool) (k : ℕ) (tree : Tree) → slice_get flags k ≡ Some true
    → slice_get set k ≡ Some true → slice_get trees k ≡ Some tree → Has (trees_of trees flags) (restrict flags set) tree
has-restrict [] flags set k tree kept inside at = absurd cc
has-restrict (t ∷ trees) [] set k tree kept inside at = absurd cc
has-restrict (t ∷ trees) (flag ∷ flags) [] k tree kept inside at = absurd cc
has-restrict (t ∷ trees) (true ∷ flags) (x ∷ set) zero tree kept inside at = (0, inside, at)
has-restrict (t ∷ trees) (false ∷ flags) (x ∷ set) zero tree kept inside at = absurd cc
has-restrict (t ∷ trees) (true ∷ flags) (x ∷ set) (suc k) tree kept inside at =
    let rest = has-restrict trees flags set k tree kept inside at in (suc rest.0, rest.1, rest.2)
has-restrict (t ∷ trees) (false ∷ flags) (x ∷ set) (suc k) tree kept inside at = has-restrict trees flags set k tree kept inside at

-- a concatenation within the sublist is one of the sublist
pub IsConcatenation-restrict : (n : ℕ) (trees : List Tree) (flags set : List Bool) → length flags ≡ length trees → IsWithin set flags
    → IsConcatenation n trees set → IsConcatenation n (trees_of trees flags) (restrict flags set)
IsConcatenation-restrict n trees flags set same within is = record {
  size = length-restrict trees flags set same is.size;
  joins = λ i below. Leads-weaker (SharesTree trees set) (SharesTree (trees_of trees flags) (restrict flags set))
      (λ u w (k, tree, inside, at, first, second).
      let has = has-restrict trees flags set k tree (within k inside) inside at in
      (has.0, tree, has.1, has.2, first, second)) 0 i (is.joins i below);
}

-- ---- from the sublist

pub length-expand : (flags set : List Bool) → length (expand flags set) ≡ length flags
length-expand [] set = refl
length-expand (true ∷ flags) [] = omega (arith, length-expand flags [])
length-expand (true ∷ flags) (x ∷ set) = omega (arith, length-expand flags set)
length-expand (false ∷ flags) set = omega (arith, length-expand flags set)

pub total_of-expand : (trees : List Tree) (flags set : List Bool) → length flags ≡ length trees
    → length set ≡ length (trees_of trees flags) → total_of trees (expand flags set) ≡ total_of (trees_of trees flags) set
total_of-expand [] [] set same same' = refl
total_of-expand [] (flag ∷ flags) set same same' = absurd (omega (arith, same))
total_of-expand (tree ∷ trees) [] set same same' = absurd (omega (arith, same))
total_of-expand (tree ∷ trees) (true ∷ flags) [] same same' = absurd (omega (arith, same'))
total_of-expand (tree ∷ trees) (true ∷ flags) (x ∷ set) same same' =
    omega (arith, total_of-expand trees flags set (omega (arith, same)) (omega (arith, same')))
total_of-expand (tree ∷ trees) (false ∷ flags) set same same' = omega (arith, total_of-expand trees flags set (omega (arith, same)) same')

has-expand : (trees : List Tree) (flags set : List Bool) (k : ℕ) (tree : Tree) → slice_get set k ≡ Some true
    → slice_get (trees_of trees flags) k ≡ Some tree → Has trees (expand flags set) tree
has-expand [] flags set k tree inside at = absurd cc
has-expand (t ∷ trees) [] set k tree inside at = absurd cc
has-expand (t ∷ trees) (true ∷ flags) [] k tree inside at = absurd cc
has-expand (t ∷ trees) (true ∷ flags) (x ∷ set) zero tree inside at = (0, inside, at)
has-expand (t ∷ trees) (true ∷ flags) (x ∷ set) (suc k) tree inside at =
    let rest = has-expand trees flags set k tree inside at in (suc rest.0, rest.1, rest.2)
has-expand (t ∷ trees) (false ∷ flags) set k tree inside at =
    let rest = has-expand trees flags set k tree inside at in (suc rest.0, rest.1, rest.2)

-- a concatenation of the sublist is one of the list
pub IsConcatenation-expand : (n : ℕ) (trees : List Tree) (flags set : List Bool) → length flags ≡ length trees
    → IsConcatenation n (trees_of trees flags) set → IsConcatenation n trees (expand flags set)
IsConcatenation-expand n trees flags set same is = record {
  size = length-expand flags set ∙ same;
  joins = λ i below. Leads-weaker (SharesTree (trees_of trees flags) set) (SharesTree trees (expand flags set))
      (λ u w (k, tree, inside, at, first, second).
      let has = has-expand trees flags set k tree inside at in
      (has.0, tree, has.1, has.2, first, second)) 0 i (is.joins i below);
}
