-- The length of chosen places of a state, and what it comes to when an edge or a choice changes.
use Rattle.std.specs.Prelude.{ℕ, zero, suc, ◌≡◌, ◌+◌, Bool, true, false, List, [], ◌∷◌, replicate, slice_get, slice_set, Option, Some, None}
use Rattle.std.proofs.Common.{refl, ap, arith}
use Rattle.graph_reduce.specs.State.{Bundle}

-- the length of what a place holds
abbrev pub length_at : Option Bundle → ℕ
length_at None = 0
length_at (Some x) = x.edge.length

-- .. where the place is chosen
abbrev pub part : Option Bundle → Bool → ℕ
part x true = length_at x
part x false = 0

-- the sum of the lengths at the chosen places
abbrev pub length_in : List (Option Bundle) → (ℕ → Bool) → ℕ
length_in [] F = 0
length_in (x ∷ xs) F = part x (F 0) + length_in xs (λ n. F (suc n))

pub part_none : (flag : Bool) → part None flag ≡ 0
part_none true = refl
part_none false = refl

-- one place changes what it holds, and whether it is chosen
pub length_in-set : (xs : List (Option Bundle)) (n : ℕ) (x y : Option Bundle) (F G : ℕ → Bool) →
    slice_get xs n ≡ Some x → ((k : ℕ) → (k ≡ n → ⊥) → F k ≡ G k) →
    length_in (slice_set xs n y) G + part x (F n) ≡ length_in xs F + part y (G n)
length_in-set [] n x y F G at same = cc
length_in-set (z ∷ zs) zero x y F G at same = grind arith
length_in-set (z ∷ zs) (suc n) x y F G at same =
    let rest = length_in-set zs n x y (λ k. F (suc k)) (λ k. G (suc k)) at (λ k apart. same (suc k) (λ e. apart (omega arith))) in
    let here : part z (F 0) ≡ part z (G 0) = ap (part z) (same 0 (λ e. omega arith)) in
    omega (arith, rest, here)

-- one place changes whether it is chosen
pub length_in-choice : (xs : List (Option Bundle)) (n : ℕ) (x : Option Bundle) (F G : ℕ → Bool) →
    slice_get xs n ≡ Some x → ((k : ℕ) → (k ≡ n → ⊥) → F k ≡ G k) →
    length_in xs G + part x (F n) ≡ length_in xs F + part x (G n)
length_in-choice [] n x F G at same = cc
length_in-choice (z ∷ zs) zero x F G at same = grind arith
length_in-choice (z ∷ zs) (suc n) x F G at same =
    let rest = length_in-choice zs n x (λ k. F (suc k)) (λ k. G (suc k)) at (λ k apart. same (suc k) (λ e. apart (omega arith))) in
    let here : part z (F 0) ≡ part z (G 0) = ap (part z) (same 0 (λ e. omega arith)) in
    omega (arith, rest, here)

-- places that hold nothing have no length
pub length_in-none : (size : ℕ) (F : ℕ → Bool) → length_in (replicate size None) F ≡ 0
length_in-none zero F = refl
length_in-none (suc size) F = omega (arith, part_none (F 0), length_in-none size (λ n. F (suc n)))

-- nothing is chosen
pub length_in-nothing : (xs : List (Option Bundle)) → length_in xs (λ n. false) ≡ 0
length_in-nothing [] = refl
length_in-nothing (x ∷ xs) = omega (arith, length_in-nothing xs)
