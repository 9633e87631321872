-- What is in a union of sets of numbers.
use Rattle.std.specs.Prelude.{ℕ, zero, suc, ◌≡◌, ◌⊎◌, ◌||◌, Bool, true, false, List, [], ◌∷◌, length}
use Rattle.std.proofs.Common.{refl, sym, ap, ◌∙◌, arith}
use Rattle.std.proofs.lemmas.Bool.{or_cases, or_left, or_right}
use Rattle.net_graph.specs.Flags.{has}
use Rattle.graph_reduce.specs.State.{union}

pub or-false : (b : Bool) → (b || false) ≡ b
or-false true = refl
or-false false = refl

-- a number is in the union where it is in either set
pub has-union : (xs ys : List Bool) (e : ℕ) → has (union xs ys) e ≡ (has xs e || has ys e)
has-union [] ys e = refl
has-union (x ∷ xs) [] e = sym (or-false (has (x ∷ xs) e))
has-union (x ∷ xs) (y ∷ ys) zero = refl
has-union (x ∷ xs) (y ∷ ys) (suc e) = has-union xs ys e

pub union_cases : (xs ys : List Bool) (e : ℕ) → has (union xs ys) e ≡ true → (has xs e ≡ true) ⊎ (has ys e ≡ true)
union_cases xs ys e is = or_cases (has xs e) (has ys e) (sym (has-union xs ys e) ∙ is)

pub union_left : (xs ys : List Bool) (e : ℕ) → has xs e ≡ true → has (union xs ys) e ≡ true
union_left xs ys e is = has-union xs ys e ∙ or_left (has xs e) (has ys e) is

pub union_right : (xs ys : List Bool) (e : ℕ) → has ys e ≡ true → has (union xs ys) e ≡ true
union_right xs ys e is = has-union xs ys e ∙ or_right (has xs e) (has ys e) is

pub length-union : (xs ys : List Bool) → length xs ≡ length ys → length (union xs ys) ≡ length ys
length-union [] ys size = refl
length-union (x ∷ xs) [] size = absurd (omega arith)
length-union (x ∷ xs) (y ∷ ys) size = ap suc (length-union xs ys (omega arith))

-- either set may come first
pub union-swap : (xs ys : List Bool) → length xs ≡ length ys → union xs ys ≡ union ys xs
union-swap [] [] size = refl
union-swap [] (y ∷ ys) size = absurd (omega arith)
union-swap (x ∷ xs) [] size = absurd (omega arith)
union-swap (x ∷ xs) (y ∷ ys) size = grind (arith, union-swap xs ys (omega arith))
