-- What the length of the inside edges comes to.
use Rattle.std.specs.Prelude.{ℕ, zero, suc, ◌≡◌, ◌+◌, ◌<◌, ◌≤◌, List, [], ◌∷◌, length, take, sum_by, replicate, slice_get, Some}
use Rattle.std.proofs.Common.{refl, get_or, add-one, arith}
use Rattle.std.proofs.lemmas.List.Sums.{sum_by-cons, sum_by-take-le}
use Rattle.net_graph.specs.declared.edge.Edge.{Edge}
use Rattle.net_graph.specs.declared.state.EdgeState.{EdgeState}
use Rattle.net_graph.specs.declared.state.EdgeState.TheVariants.{Undecided, Inside, Outside}
use Rattle.net_graph.specs.Packing.{inside_length}

-- the inside edges are no longer than all edges
pub inside_length-le-sum : (edges : List Edge) (decision : List EdgeState) →
    inside_length edges decision ≤ sum_by (λ e. e.length) edges
inside_length-le-sum [] decision = omega arith
inside_length-le-sum (e ∷ edges) [] = omega arith
inside_length-le-sum (e ∷ edges) (Inside ∷ decision) =
    omega (arith, inside_length-le-sum edges decision, sum_by-cons (λ (e : Edge). e.length) e edges)
inside_length-le-sum (e ∷ edges) (Undecided ∷ decision) =
    omega (arith, inside_length-le-sum edges decision, sum_by-cons (λ (e : Edge). e.length) e edges)
inside_length-le-sum (e ∷ edges) (Outside ∷ decision) =
    omega (arith, inside_length-le-sum edges decision, sum_by-cons (λ (e : Edge). e.length) e edges)

-- where nothing is decided no edge is inside
pub inside_length-none : (edges : List Edge) (n : ℕ) → inside_length edges (replicate n Undecided) ≡ 0
inside_length-none [] n = refl
inside_length-none (e ∷ edges) zero = refl
inside_length-none (e ∷ edges) (suc n) = inside_length-none edges n

-- ---- a loop that sums the lengths of the inside edges

inside_length-take-suc_yes : (edges : List Edge) (decision : List EdgeState) (n : ℕ) (e : Edge) → n < length edges →
    slice_get decision n ≡ Some Inside →
    inside_length (take (suc n) edges) decision ≡ inside_length (take n edges) decision + (get_or edges n e).length
inside_length-take-suc_yes [] decision n e below inside = absurd (omega arith)
inside_length-take-suc_yes (x ∷ edges) [] n e below inside = absurd cc
inside_length-take-suc_yes (x ∷ edges) (Inside ∷ decision) zero e below inside = omega arith
inside_length-take-suc_yes (x ∷ edges) (Undecided ∷ decision) zero e below inside = absurd cc
inside_length-take-suc_yes (x ∷ edges) (Outside ∷ decision) zero e below inside = absurd cc
inside_length-take-suc_yes (x ∷ edges) (Inside ∷ decision) (suc n) e below inside =
    omega (arith, inside_length-take-suc_yes edges decision n e (omega arith) inside)
inside_length-take-suc_yes (x ∷ edges) (Undecided ∷ decision) (suc n) e below inside =
    omega (arith, inside_length-take-suc_yes edges decision n e (omega arith) inside)
inside_length-take-suc_yes (x ∷ edges) (Outside ∷ decision) (suc n) e below inside =
    omega (arith, inside_length-take-suc_yes edges decision n e (omega arith) inside)

inside_length-take-suc_no : (edges : List Edge) (decision : List EdgeState) (n : ℕ) →
    (slice_get decision n ≡ Some Inside → ⊥) →
    inside_length (take (suc n) edges) decision ≡ inside_length (take n edges) decision
inside_length-take-suc_no [] decision zero out = refl
inside_length-take-suc_no [] decision (suc n) out = refl
inside_length-take-suc_no (x ∷ edges) [] zero out = refl
inside_length-take-suc_no (x ∷ edges) [] (suc n) out = refl
inside_length-take-suc_no (x ∷ edges) (Inside ∷ decision) zero out = absurd (out refl)
inside_length-take-suc_no (x ∷ edges) (Undecided ∷ decision) zero out = refl
inside_length-take-suc_no (x ∷ edges) (Outside ∷ decision) zero out = refl
inside_length-take-suc_no (x ∷ edges) (Inside ∷ decision) (suc n) out =
    omega (arith, inside_length-take-suc_no edges decision n out)
inside_length-take-suc_no (x ∷ edges) (Undecided ∷ decision) (suc n) out =
    omega (arith, inside_length-take-suc_no edges decision n out)
inside_length-take-suc_no (x ∷ edges) (Outside ∷ decision) (suc n) out =
    omega (arith, inside_length-take-suc_no edges decision n out)

-- an inside edge adds its length
pub inside_length_yes : (edges : List Edge) (decision : List EdgeState) (n : ℕ) (e : Edge) → n < length edges →
    slice_get decision n ≡ Some Inside →
    inside_length (take (n + 1) edges) decision ≡ inside_length (take n edges) decision + (get_or edges n e).length
inside_length_yes edges decision n e below inside =
    rw add-one (inside_length-take-suc_yes edges decision n e below inside)

-- another edge adds nothing
pub inside_length_no : (edges : List Edge) (decision : List EdgeState) (n : ℕ) →
    (slice_get decision n ≡ Some Inside → ⊥) →
    inside_length (take (n + 1) edges) decision ≡ inside_length (take n edges) decision
inside_length_no edges decision n out = rw add-one (inside_length-take-suc_no edges decision n out)

-- the sum so far and the next edge are within the sum of all lengths
pub inside_length_yes-le-sum : (edges : List Edge) (decision : List EdgeState) (n : ℕ) (e : Edge) → n < length edges →
    slice_get decision n ≡ Some Inside →
    inside_length (take n edges) decision + (get_or edges n e).length ≤ sum_by (λ e. e.length) edges
inside_length_yes-le-sum edges decision n e below inside =
    grind (arith, inside_length_yes, inside_length-le-sum (take (n + 1) edges) decision, sum_by-take-le)
