-- The first state of a reduction, as its parts are made.
use Rattle.std.specs.Prelude.{ℕ, zero, suc, ◌≡◌, ◌+◌, ◌<◌, true, false, List, [], ◌∷◌, ◌++◌, length, replicate, slice_get, slice_set, Some}
use Rattle.std.proofs.Common.{refl, arith}
use Rattle.std.proofs.lemmas.Option.{same_Some}
use Rattle.net_graph.specs.declared.edge.Edge.{Edge}
use Rattle.graph_reduce.specs.State.{bundles_from}

-- a list of one entry again and again
pub all_alike : {A : Type 0} (x : A) (xs : List A) (size : ℕ) → length xs ≡ size →
    ((k : ℕ) → k < size → slice_get xs k ≡ Some x) → xs ≡ replicate size x
all_alike x [] zero same alike = refl
all_alike x [] (suc size) same alike = absurd (omega arith)
all_alike x (y ∷ xs) zero same alike = absurd (omega arith)
all_alike x (y ∷ xs) (suc size) same alike =
    let first : y ≡ x = same_Some y x (alike 0 (omega arith)) in
    let rest = all_alike x xs size (omega arith) (λ k below. alike (suc k) (omega arith)) in cc

-- one more edge in its place
pub bundles_from-push : (size n place : ℕ) (edges : List Edge) (e : Edge) → n + length edges ≡ place →
    bundles_from size n (edges ++ e ∷ []) ≡ bundles_from size n edges ++
    Some (record { edge = e; originals = slice_set (replicate size false) place true }) ∷ []
bundles_from-push size n place [] e is = let same : n ≡ place = omega arith in cc
bundles_from-push size n place (d ∷ edges) e is = search (bundles_from-push size (n + 1) place edges e (omega arith))
