-- Entries of a list in which one was written, and of a list of one entry again and again.
use Rattle.std.specs.Prelude.{ℕ, zero, suc, ◌≡◌, ◌≢◌, ◌<◌, true, false, List, length, replicate, slice_get, slice_set, Some}
use Rattle.std.proofs.Common.{refl, arith, length-set}
use Rattle.std.proofs.lemmas.Bool.{cases_lt}
use Rattle.std.proofs.lemmas.Option.{same_Some, slice_get-get_or, slice_get_past}
use Rattle.std.proofs.lemmas.List.{get_or-set_same, get_or-set_other}
use Rattle.net_graph.specs.Flags.{has}

-- the entry that was written
pub slice_get-set_same : {A : Type 0} (xs : List A) (n : ℕ) (x : A) → n < length xs →
    slice_get (slice_set xs n x) n ≡ Some x
slice_get-set_same xs n x within = grind (arith, slice_get-get_or, length-set xs n x, get_or-set_same xs n x x within)

-- an entry that was not
pub slice_get-set_other : {A : Type 0} (xs : List A) (n k : ℕ) (x : A) → k ≢ n →
    slice_get (slice_set xs n x) k ≡ slice_get xs k
slice_get-set_other xs n k x apart =
    grind (
      arith,
      cases_lt k (length xs),
      slice_get-get_or,
      length-set xs n x,
      get_or-set_other xs n k x x apart,
      slice_get_past,
    )

-- each entry of a list of one entry again and again
pub slice_get-replicate : {A : Type 0} (size n : ℕ) (x y : A) → slice_get (replicate size x) n ≡ Some y → x ≡ y
slice_get-replicate zero n x y found = cc
slice_get-replicate (suc size) zero x y found = same_Some x y found
slice_get-replicate (suc size) (suc n) x y found = slice_get-replicate size n x y found

-- no flag of the empty set is set
pub has-none : (n k : ℕ) → has (replicate n false) k ≡ false
has-none zero k = refl
has-none (suc n) zero = refl
has-none (suc n) (suc k) = has-none n k

pub none_set : (n k : ℕ) → slice_get (replicate n false) k ≡ Some true → ⊥
none_set n k set = let wrong : false ≡ true = slice_get-replicate n k false true set in absurd cc
