-- How what is put into a set adds up.
use Rattle.std.specs.Prelude.{◌≡◌, ◌≢◌, ℕ, ◌<◌, Bool, true, false, List, length, slice_get, slice_set, Some, replicate, ◌⊎◌}
use Rattle.std.proofs.Common.{⊎_elim, arith, length-set}
use Rattle.std.proofs.lemmas.Bool.{cases_eq, cases_lt}
use Rattle.std.proofs.lemmas.Option.{slice_get-get_or, slice_get_past}
use Rattle.std.proofs.lemmas.List.{get_or-set_same, get_or-set_other}
use Rattle.net_graph.specs.EntryLaws.{none_set}
use Rattle.net_graph.specs.Adds.{Adds}

-- the flag that was written
slice_get-set_same : (set : List Bool) (n : ℕ) (flag : Bool) → n < length set → slice_get (slice_set set n flag) n ≡
    Some flag
slice_get-set_same set n flag within =
    grind (arith, slice_get-get_or, length-set set n flag, get_or-set_same set n flag false within)

-- a flag that was not
slice_get-set_other : (set : List Bool) (n e : ℕ) (flag : Bool) → e ≢ n → slice_get (slice_set set n flag) e ≡
    slice_get set e
slice_get-set_other set n e flag apart =
    grind (
      arith,
      cases_lt e (length set),
      slice_get-get_or,
      length-set set n flag,
      get_or-set_other set n e flag false apart,
      slice_get_past,
    )

-- nothing was put in
pub Adds-nothing : (P : ℕ → Type 0) (set : List Bool) → ((e : ℕ) → P e → ⊥) → Adds P set set
Adds-nothing P set none = grind arith

-- one number was put in
pub Adds-one : (set : List Bool) (n : ℕ) → n < length set → Adds (λ e. e ≡ n) set (slice_set set n true)
Adds-one set n within =
    grind (arith, length-set set n true, cases_eq, slice_get-set_same set n true within, slice_get-set_other)

-- these were put in and then those
pub Adds-then : (P Q R : ℕ → Type 0) (old mid new : List Bool) → Adds P old mid → Adds Q mid new →
    ((e : ℕ) → P e → R e) → ((e : ℕ) → Q e → R e) → ((e : ℕ) → R e → P e ⊎ Q e) → Adds R old new
Adds-then P Q R old mid new one two first second split = grind arith

-- a set that was empty holds just what was put in
pub Adds-holds : (P : ℕ → Type 0) (size : ℕ) (set : List Bool) → Adds P (replicate size false) set → (e : ℕ) →
    slice_get set e ≡ Some true → P e
Adds-holds P size set adds e inside = ⊎_elim (λ before. absurd (none_set size e before))
    (λ is. is) (adds.only e inside)

-- the same numbers in other words
pub Adds-iff : (P Q : ℕ → Type 0) (old new : List Bool) → ((e : ℕ) → P e → Q e) → ((e : ℕ) → Q e → P e) →
    Adds P old new → Adds Q old new
Adds-iff P Q old new into back adds = grind arith
