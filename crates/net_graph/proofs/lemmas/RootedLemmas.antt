-- A set that is filled in the order of its numbers.
use Rattle.std.proofs.Common.{ℕ, ◌≡◌, ◌+◌, ◌<◌, ◌↔◌, Bool, true, List, length, slice_get, slice_set, Some, arith}
use Rattle.std.proofs.lemmas.Bool.{cases_eq}
use Rattle.net_graph.specs.EntryLaws.{slice_get-set_same, slice_get-set_other}

-- of the first numbers the set holds those with P, and it holds no others
pub record HoldsBelow (P : ℕ → Type 0) (bound : ℕ) (set : List Bool) : Type 0 where
  pub put : (k : ℕ) → k < bound → P k → slice_get set k ≡ Some true
  pub below : (k : ℕ) → slice_get set k ≡ Some true → k < bound
  pub only : (k : ℕ) → slice_get set k ≡ Some true → P k

-- the next number has P and was put in
pub HoldsBelow-yes : (P : ℕ → Type 0) (n : ℕ) (set : List Bool) → n < length set → P n → HoldsBelow P n set → HoldsBelow P (n + 1) (slice_set set n true)
HoldsBelow-yes P n set within is so_far =
    grind (arith, cases_eq, slice_get-set_same set n true within, slice_get-set_other)

-- the next number has no P
pub HoldsBelow-no : (P : ℕ → Type 0) (n : ℕ) (set : List Bool) → (P n → ⊥) → HoldsBelow P n set → HoldsBelow P (n + 1) set
HoldsBelow-no P n set out so_far = grind (arith, cases_eq)

-- where P holds of no later number, the set holds the numbers with P
pub HoldsBelow-all : (P : ℕ → Type 0) (bound : ℕ) (set : List Bool) → ((k : ℕ) → P k → k < bound) → HoldsBelow P bound set → (k : ℕ) → (slice_get set k ≡ Some true) ↔ P k
HoldsBelow-all P bound set low all k = (all.only k, λ is. all.put k (low k is) is)
