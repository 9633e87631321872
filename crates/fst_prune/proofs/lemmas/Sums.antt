-- Sums of weights over sets, and sets that are gathered from parts.
use Rattle.std.proofs.Common.{ℕ, zero, suc, ◌≡◌, ◌+◌, ◌<◌, ◌≤◌, Bool, true, false, List, [], ◌∷◌, length, get_or, replicate, refl, sym, ◌∙◌, arith, inl, inr, ⊎_elim, ◌⊎◌, Some}
use Rattle.std.specs.Prelude.{map, slice_get, if◌then◌else◌}
use Rattle.std.proofs.lemmas.List.{length-replicate}
use Rattle.full_tree.specs.declared.code.Tree.{Tree}
use Rattle.spanning.specs.declared.pair.Pair.{Pair}
use Rattle.spanning.specs.Joining as joining
use Rattle.concatenation.specs.Concatenation.{total_of}

-- the sum of the weights of a set
abbrev pub sum_of : List ℕ → List Bool → ℕ
sum_of [] set = 0
sum_of (w ∷ ws) [] = 0
sum_of (w ∷ ws) (flag ∷ set) = (if flag then w else 0) + sum_of ws set

abbrev pub weights_of : List Tree → List ℕ
weights_of trees = map (λ tree. tree.length) trees

abbrev pub pair_weights_of : List Pair → List ℕ
pair_weights_of pairs = map (λ pair. pair.length) pairs

pub sum_of_trees : (trees : List Tree) (set : List Bool) → total_of trees set ≡ sum_of (weights_of trees) set
sum_of_trees [] set = refl
sum_of_trees (tree ∷ trees) [] = refl
sum_of_trees (tree ∷ trees) (flag ∷ set) = omega (arith, sum_of_trees trees set)

pub sum_of_pairs : (pairs : List Pair) (set : List Bool) → joining.total_of pairs set ≡ sum_of (pair_weights_of pairs) set
sum_of_pairs [] set = refl
sum_of_pairs (pair ∷ pairs) [] = refl
sum_of_pairs (pair ∷ pairs) (flag ∷ set) = omega (arith, sum_of_pairs pairs set)

-- ---- small sets

-- no set has what isn't there
pub none_has : {P : Type 0} (n k : ℕ) → slice_get (replicate n false) k ≡ Some true → P
none_has zero k at = absurd cc
none_has (suc n) zero at = absurd cc
none_has (suc n) (suc k) at = none_has n k at

pub sum_of-none : (ws : List ℕ) (n : ℕ) → sum_of ws (replicate n false) ≡ 0
sum_of-none [] n = refl
sum_of-none (w ∷ ws) zero = refl
sum_of-none (w ∷ ws) (suc n) = omega (arith, sum_of-none ws n)

-- of n numbers, the set of the number k
abbrev pub single : ℕ → ℕ → List Bool
single zero k = []
single (suc n) zero = true ∷ replicate n false
single (suc n) (suc k) = false ∷ single n k

pub length-single : (n k : ℕ) → length (single n k) ≡ n
length-single zero k = refl
length-single (suc n) zero = omega (arith, length-replicate n false)
length-single (suc n) (suc k) = omega (arith, length-single n k)

pub single_has : (n k : ℕ) → k < n → slice_get (single n k) k ≡ Some true
single_has zero k inside = absurd (omega arith)
single_has (suc n) zero inside = refl
single_has (suc n) (suc k) inside = single_has n k (omega arith)

pub single_only : (n k j : ℕ) → slice_get (single n k) j ≡ Some true → j ≡ k
single_only zero k j at = absurd cc
single_only (suc n) zero zero at = refl
single_only (suc n) zero (suc j) at = none_has n j at
single_only (suc n) (suc k) zero at = absurd cc
single_only (suc n) (suc k) (suc j) at = omega (arith, single_only n k j at)

pub sum_of-single : (ws : List ℕ) (n k : ℕ) → sum_of ws (single n k) ≤ get_or ws k 0
sum_of-single [] n k = omega arith
sum_of-single (w ∷ ws) zero k = omega arith
sum_of-single (w ∷ ws) (suc n) zero = omega (arith, sum_of-none ws n)
sum_of-single (w ∷ ws) (suc n) (suc k) = omega (arith, sum_of-single ws n k)

-- ---- unions

abbrev pub union : List Bool → List Bool → List Bool
union [] bs = []
union (a ∷ as') [] = []
union (a ∷ as') (b ∷ bs) = (if a then true else b) ∷ union as' bs

pub length-union : (xs ys : List Bool) → length xs ≡ length ys → length (union xs ys) ≡ length xs
length-union [] ys same = refl
length-union (x ∷ xs) [] same = absurd (omega (arith, same))
length-union (x ∷ xs) (y ∷ ys) same = omega (arith, length-union xs ys (omega (arith, same)))

pub union_first : (xs ys : List Bool) (k : ℕ) → length xs ≡ length ys → slice_get xs k ≡ Some true → slice_get (union xs ys) k ≡ Some true
union_first [] ys k same at = absurd cc
union_first (x ∷ xs) [] k same at = absurd (omega (arith, same))
union_first (true ∷ xs) (y ∷ ys) zero same at = refl
union_first (false ∷ xs) (y ∷ ys) zero same at = absurd cc
union_first (x ∷ xs) (y ∷ ys) (suc k) same at = union_first xs ys k (omega (arith, same)) at

pub union_second : (xs ys : List Bool) (k : ℕ) → length xs ≡ length ys → slice_get ys k ≡ Some true → slice_get (union xs ys) k ≡ Some true
union_second [] [] k same at = absurd cc
union_second [] (y ∷ ys) k same at = absurd (omega (arith, same))
union_second (x ∷ xs) [] k same at = absurd (omega (arith, same))
union_second (true ∷ xs) (y ∷ ys) zero same at = refl
union_second (false ∷ xs) (y ∷ ys) zero same at = at
union_second (x ∷ xs) (y ∷ ys) (suc k) same at = union_second xs ys k (omega (arith, same)) at

pub union_cases : (xs ys : List Bool) (k : ℕ) → slice_get (union xs ys) k ≡ Some true → (slice_get xs k ≡ Some true) ⊎ (slice_get ys k ≡ Some true)
union_cases [] ys k at = absurd cc
union_cases (x ∷ xs) [] k at = absurd cc
union_cases (true ∷ xs) (y ∷ ys) zero at = inl refl
union_cases (false ∷ xs) (y ∷ ys) zero at = inr at
union_cases (x ∷ xs) (y ∷ ys) (suc k) at = union_cases xs ys k at

pub sum_of-union : (ws : List ℕ) (xs ys : List Bool) → sum_of ws (union xs ys) ≤ sum_of ws xs + sum_of ws ys
sum_of-union [] xs ys = omega arith
sum_of-union (w ∷ ws) [] ys = omega arith
sum_of-union (w ∷ ws) (x ∷ xs) [] = omega arith
sum_of-union (w ∷ ws) (true ∷ xs) (true ∷ ys) = omega (arith, sum_of-union ws xs ys)
sum_of-union (w ∷ ws) (true ∷ xs) (false ∷ ys) = omega (arith, sum_of-union ws xs ys)
sum_of-union (w ∷ ws) (false ∷ xs) (true ∷ ys) = omega (arith, sum_of-union ws xs ys)
sum_of-union (w ∷ ws) (false ∷ xs) (false ∷ ys) = omega (arith, sum_of-union ws xs ys)

-- ---- sets gathered from parts

-- a set of n numbers that stands for the number k, and weighs at most `most`
pub record Part (Good : ℕ → List Bool → Type 0) (vs : List ℕ) (n k most : ℕ) : Type 0 where
  pub part : List Bool
  pub size : length part ≡ n
  pub good : Good k part
  pub short : sum_of vs part ≤ most

-- the whole holds a set that stands for the number k
pub record Holds (Good : ℕ → List Bool → Type 0) (whole : List Bool) (k : ℕ) : Type 0 where
  pub part : List Bool
  pub good : Good k part
  pub within : (x : ℕ) → slice_get part x ≡ Some true → slice_get whole x ≡ Some true

-- the number x is in a set that stands for some number of the set
pub record ComesFrom (Good : ℕ → List Bool → Type 0) (set : List Bool) (x : ℕ) : Type 0 where
  pub number : ℕ
  pub part : List Bool
  pub among : slice_get set number ≡ Some true
  pub good : Good number part
  pub has : slice_get part x ≡ Some true

-- a set that is gathered from one that stands for each number of the set
pub record Gathered (Good : ℕ → List Bool → Type 0) (vs : List ℕ) (n : ℕ) (ws : List ℕ) (set : List Bool) : Type 0 where
  pub whole : List Bool
  pub size : length whole ≡ n
  pub holds : (k : ℕ) → slice_get set k ≡ Some true → Holds Good whole k
  pub only : (x : ℕ) → slice_get whole x ≡ Some true → ComesFrom Good set x
  pub short : sum_of vs whole ≤ sum_of ws set

-- .. or is
held_with : (Good : ℕ → List Bool → Type 0) (set first whole : List Bool) → length first ≡ length whole → Good 0 first
    → ((k : ℕ) → slice_get set k ≡ Some true → Holds (λ j. Good (suc j)) whole k)
    → (k : ℕ) → slice_get (true ∷ set) k ≡ Some true → Holds Good (union first whole) k
held_with Good set first whole same good rest k at = grind (arith, union_first, union_second)

from_rest : (Good : ℕ → List Bool → Type 0) (flag : Bool) (set : List Bool) (x : ℕ) → ComesFrom (λ j. Good (suc j)) set x
    → ComesFrom Good (flag ∷ set) x
from_rest Good flag set x from = search

module _ (vs : List ℕ) (n : ℕ) where
  shifted : (Good : ℕ → List Bool → Type 0) (most k : ℕ) → Part Good vs n (suc k) most → Part (λ j. Good (suc j)) vs n k most
  shifted Good most k p = record { part = p.part; size = p.size; good = p.good; short = p.short }

  gathered_without : (Good : ℕ → List Bool → Type 0) (w : ℕ) (ws : List ℕ) (set : List Bool)
      → Gathered (λ j. Good (suc j)) vs n ws set → Gathered Good vs n (w ∷ ws) (false ∷ set)
  gathered_without Good w ws set rest = grind arith

  gathered_with : (Good : ℕ → List Bool → Type 0) (w : ℕ) (ws : List ℕ) (set : List Bool)
      → Part Good vs n 0 w → Gathered (λ j. Good (suc j)) vs n ws set → Gathered Good vs n (w ∷ ws) (true ∷ set)
  gathered_with Good w ws set first rest =
      let same : length first.part ≡ length rest.whole = first.size ∙ sym rest.size in
      record {
        whole = union first.part rest.whole;
        size = length-union first.part rest.whole same ∙ first.size;
        holds = held_with Good set first.part rest.whole same first.good rest.holds;
        only = λ x has. ⊎_elim
            (λ (here : slice_get first.part x ≡ Some true). record { number = 0; part = first.part; among = refl; good = first.good; has = here })
            (λ (there : slice_get rest.whole x ≡ Some true). from_rest Good true set x (rest.only x there))
            (union_cases first.part rest.whole x has);
        short = omega (arith, sum_of-union vs first.part rest.whole, first.short, rest.short);
      }

  -- a set is gathered from one for each number of the set
  pub gather : (Good : ℕ → List Bool → Type 0) (ws : List ℕ) (set : List Bool) → length set ≡ length ws
      → ((k : ℕ) → slice_get set k ≡ Some true → Part Good vs n k (get_or ws k 0)) → Gathered Good vs n ws set
  gather Good [] [] same each = record {
    whole = replicate n false;
    size = length-replicate n false;
    holds = λ k at. absurd cc;
    only = λ x has. none_has n x has;
    short = omega (arith, sum_of-none vs n);
  }
  gather Good [] (flag ∷ set) same each = absurd (omega (arith, same))
  gather Good (w ∷ ws) [] same each = absurd (omega (arith, same))
  gather Good (w ∷ ws) (true ∷ set) same each = gathered_with Good w ws set (each 0 refl)
      (gather (λ j. Good (suc j)) ws set (omega (arith, same)) (λ k at. shifted Good (get_or ws k 0) k (each (suc k) at)))
  gather Good (w ∷ ws) (false ∷ set) same each = gathered_without Good w ws set
      (gather (λ j. Good (suc j)) ws set (omega (arith, same)) (λ k at. shifted Good (get_or ws k 0) k (each (suc k) at)))
