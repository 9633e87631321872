-- How the kept trees are listed one after another.
use Rattle.std.proofs.Common.{ℕ, suc, ◌≤◌, ◌≡◌, ◌+◌, Bool, true, false, List, [], ◌∷◌, ◌++◌, length, refl, ap, sym, subst, ◌∙◌, arith, ⊎_elim, Some}
use Rattle.std.specs.Prelude.{All, AllPairs, slice_get}
use Rattle.std.proofs.lemmas.List.{length_push}
use Rattle.std.proofs.lemmas.List.Elements.{All-nil, All-cons}
use Rattle.std.proofs.lemmas.List.Kept.{AllPairs-cons}
use Rattle.std.proofs.lemmas.Option.{same_Some}
use Rattle.full_tree.specs.declared.code.Tree.{Tree}
use Rattle.fst_prune.specs.Kept.{IsDropped, trees_of, AreKeptTrees}
use Rattle.fst_prune.proofs.lemmas.Places.{slice_get_push_cases}

-- the list has just those of the first m trees that pruning doesn't drop
pub record AreKeptOf (trees : List Tree) (m : ℕ) (kept : List Tree) : Type 0 where
  pub set : List Bool
  pub size : length set ≡ m
  pub keeps : (k : ℕ) → slice_get set k ≡ Some true → ¬ IsDropped trees k
  pub drops : (k : ℕ) → slice_get set k ≡ Some false → IsDropped trees k
  pub all : kept ≡ trees_of trees set

-- one flag more
trees_of_none : (trees : List Tree) → trees_of trees [] ≡ []
trees_of_none [] = refl
trees_of_none (tree ∷ trees) = refl

trees_of_kept : (trees : List Tree) (set : List Bool) (tree : Tree) → slice_get trees (length set) ≡ Some tree
    → trees_of trees (set ++ true ∷ []) ≡ trees_of trees set ++ tree ∷ []
trees_of_kept [] set tree at = absurd cc
trees_of_kept (t ∷ trees) [] tree at = rw (trees_of_none trees) (ap (λ x. x ∷ []) (same_Some t tree at))
trees_of_kept (t ∷ trees) (true ∷ set) tree at = ap (λ ts. t ∷ ts) (trees_of_kept trees set tree at)
trees_of_kept (t ∷ trees) (false ∷ set) tree at = trees_of_kept trees set tree at

trees_of_dropped : (trees : List Tree) (set : List Bool) → trees_of trees (set ++ false ∷ []) ≡ trees_of trees set
trees_of_dropped [] set = refl
trees_of_dropped (t ∷ trees) [] = trees_of_none trees
trees_of_dropped (t ∷ trees) (true ∷ set) = ap (λ ts. t ∷ ts) (trees_of_dropped trees set)
trees_of_dropped (t ∷ trees) (false ∷ set) = trees_of_dropped trees set

-- ---- what holds of all trees of a list holds of a set's

pub length-trees_of : (trees : List Tree) (set : List Bool) → length (trees_of trees set) ≤ length trees
length-trees_of [] set = omega arith
length-trees_of (t ∷ trees) [] = omega arith
length-trees_of (t ∷ trees) (true ∷ set) = omega (arith, length-trees_of trees set)
length-trees_of (t ∷ trees) (false ∷ set) = omega (arith, length-trees_of trees set)

pub All-trees_of : (P : Tree → Type 0) (trees : List Tree) (set : List Bool) → All P trees → All P (trees_of trees set)
All-trees_of P [] set all = all
All-trees_of P (t ∷ trees) [] all = All-nil P
All-trees_of P (t ∷ trees) (true ∷ set) all =
    All-cons P t (trees_of trees set) (all 0 t (omega arith)) (All-trees_of P trees set (λ k d inside. all (suc k) d (omega (arith, inside))))
All-trees_of P (t ∷ trees) (false ∷ set) all = All-trees_of P trees set (λ k d inside. all (suc k) d (omega (arith, inside)))

pub AllPairs-trees_of : (R : Tree → Tree → Type 0) (trees : List Tree) (set : List Bool) → AllPairs R trees → AllPairs R (trees_of trees set)
AllPairs-trees_of R [] set all = all
AllPairs-trees_of R (t ∷ trees) [] all = λ i j d before inside. absurd (omega (arith, inside))
AllPairs-trees_of R (t ∷ trees) (true ∷ set) all = AllPairs-cons R t (trees_of trees set)
    (All-trees_of (R t) trees set (λ k d inside. all 0 (suc k) d (omega arith) (omega (arith, inside))))
    (AllPairs-trees_of R trees set (λ i j d before inside. all (suc i) (suc j) d (omega (arith, before)) (omega (arith, inside))))
AllPairs-trees_of R (t ∷ trees) (false ∷ set) all =
    AllPairs-trees_of R trees set (λ i j d before inside. all (suc i) (suc j) d (omega (arith, before)) (omega (arith, inside)))

module _ (trees : List Tree) where
  pub kept_of_none : AreKeptOf trees 0 []
  kept_of_none = grind (arith, trees_of_none)

  -- one tree more, which is kept
  pub kept_of_kept : (m : ℕ) (kept : List Tree) (tree : Tree) → slice_get trees m ≡ Some tree → ¬ IsDropped trees m
      → AreKeptOf trees m kept → AreKeptOf trees (m + 1) (kept ++ tree ∷ [])
  kept_of_kept m kept tree at keep so_far = record {
    set = so_far.set ++ true ∷ [];
    size = omega (arith, length_push so_far.set true, so_far.size);
    keeps = λ k there. ⊎_elim
        (λ (old : slice_get so_far.set k ≡ Some true). so_far.keeps k old)
        (λ (last : (true ≡ true) × (k ≡ length so_far.set)). subst (λ j. ¬ IsDropped trees j) (sym (last.1 ∙ so_far.size)) keep)
        (slice_get_push_cases so_far.set true k true there);
    drops = λ k there. ⊎_elim
        (λ (old : slice_get so_far.set k ≡ Some false). so_far.drops k old)
        (λ (last : (true ≡ false) × (k ≡ length so_far.set)). absurd (let e = last.0 in cc))
        (slice_get_push_cases so_far.set true k false there);
    all = ap (λ ts. ts ++ tree ∷ []) so_far.all
        ∙ sym (trees_of_kept trees so_far.set tree (subst (λ j. slice_get trees j ≡ Some tree) (sym so_far.size) at));
  }

  -- .. which is dropped
  pub kept_of_dropped : (m : ℕ) (kept : List Tree) → IsDropped trees m → AreKeptOf trees m kept → AreKeptOf trees (m + 1) kept
  kept_of_dropped m kept drop so_far = record {
    set = so_far.set ++ false ∷ [];
    size = omega (arith, length_push so_far.set false, so_far.size);
    keeps = λ k there. ⊎_elim
        (λ (old : slice_get so_far.set k ≡ Some true). so_far.keeps k old)
        (λ (last : (false ≡ true) × (k ≡ length so_far.set)). absurd (let e = last.0 in cc))
        (slice_get_push_cases so_far.set false k true there);
    drops = λ k there. ⊎_elim
        (λ (old : slice_get so_far.set k ≡ Some false). so_far.drops k old)
        (λ (last : (false ≡ false) × (k ≡ length so_far.set)). subst (λ j. IsDropped trees j) (sym (last.1 ∙ so_far.size)) drop)
        (slice_get_push_cases so_far.set false k false there);
    all = so_far.all ∙ sym (trees_of_dropped trees so_far.set);
  }

  pub kept_of_all : (kept : List Tree) → AreKeptOf trees (length trees) kept → AreKeptTrees trees kept
  kept_of_all kept so_far = search
