-- One more number at the end of a list whose repeats are left out, and marks of the numbers that were listed.
use Rattle.std.specs.Prelude.{ℕ, ◌≡◌, ◌<◌, Bool, true, false, cond, ◌==◌, ◌||◌, List, [], ◌∷◌, ◌++◌, length, slice_set}
use Rattle.std.specs.List.{list_any}
use Rattle.std.proofs.Common.{arith, refl}
use Rattle.std.proofs.lemmas.Bool.{cases_eq, eq-eqb, ne_eqb}
use Rattle.std.proofs.lemmas.List.{append-nil, get_or-set_same, get_or-set_other}
use Rattle.std.proofs.lemmas.List.Elements.{filter-append}
use Rattle.std.proofs.lemmas.List.Folds.{list_any-append}
use Rattle.net_graph.specs.Flags.{has}
use Rattle.net_graph.specs.Distinct.{distinct_of, without}

-- whether a list holds a number
abbrev holds : ℕ → List ℕ → Bool
holds n ns = list_any (λ m. m == n) ns

-- leaving one number out doesn't change whether another is held
holds-without : (a n : ℕ) → (a == n) ≡ false → (ns : List ℕ) → holds n (without a ns) ≡ holds n ns
holds-without a n apart [] = refl
holds-without a n apart (m ∷ ns) = grind (arith, holds-without a n apart ns)

-- one more number is appended where it is new
distinct_of-push : (ns : List ℕ) (n : ℕ) → distinct_of (ns ++ n ∷ []) ≡
    cond (holds n (distinct_of ns)) (distinct_of ns) (distinct_of ns ++ n ∷ [])
distinct_of-push [] n = refl
distinct_of-push (a ∷ ns) n = grind (arith, filter-append, append-nil, holds-without, distinct_of-push ns n)

-- the numbers so far, each once, and the marks of those that are listed
pub record AreListed (numbers : List ℕ) (marks : List Bool) (list : List ℕ) : Type 0 where
  pub once : list ≡ distinct_of numbers
  pub marked : (v : ℕ) → has marks v ≡ holds v list

-- a disjunction with a single test
or_held : (b : Bool) → true ≡ (b || (true || false))
or_held true = refl
or_held false = refl

or_missing : (b : Bool) → b ≡ (b || (false || false))
or_missing true = refl
or_missing false = refl

-- one more number and its mark
holds-push : (marks : List Bool) (list : List ℕ) (v w : ℕ) → v < length marks → has marks w ≡ holds w list →
    has (slice_set marks v true) w ≡ holds w (list ++ v ∷ [])
holds-push marks list v w within before =
    grind (arith, list_any-append, get_or-set_same marks v true false within, eq-eqb v v refl, or_held (holds v list), get_or-set_other, ne_eqb, or_missing (holds w list), cases_eq w v)

-- one more number, which is new
pub listed_new : (numbers : List ℕ) (v : ℕ) (marks : List Bool) (list : List ℕ) → AreListed numbers marks list →
    has marks v ≡ false → v < length marks →
    AreListed (numbers ++ v ∷ []) (slice_set marks v true) (list ++ v ∷ [])
listed_new numbers v marks list are unmarked within =
    grind (arith, are.marked v, distinct_of-push numbers v, holds-push)

-- .. or a repeat
pub listed_repeat : (numbers : List ℕ) (v : ℕ) (marks : List Bool) (list : List ℕ) → AreListed numbers marks list →
    has marks v ≡ true → AreListed (numbers ++ v ∷ []) marks list
listed_repeat numbers v marks list are marked = grind (arith, are.marked v, distinct_of-push numbers v)
