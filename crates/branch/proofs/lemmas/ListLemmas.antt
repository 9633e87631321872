-- Elements of lists by their places, and lists of the same length side by side.
use Rattle.std.proofs.Common.{ℕ, zero, suc, ◌≡◌, ◌+◌, ◌<◌, ◌⊎◌, inl, inr, List, [], ◌∷◌, ◌++◌, length, take, slice_get, slice_set, Some, refl, ap, sym, ◌∙◌, subst, arith}
use Rattle.std.specs.List.{AllZip, insert}

-- two elements in place of the one at a place
abbrev pub two_at : {X : Type 0} → List X → ℕ → X → X → List X
two_at [] k a b = []
two_at (x ∷ xs) zero a b = a ∷ b ∷ xs
two_at (x ∷ xs) (suc k) a b = x ∷ two_at xs k a b

pub two_at-append_left : {X : Type 0} (xs ys : List X) (k : ℕ) (a b : X) → k < length xs → two_at (xs ++ ys) k a b ≡ two_at xs k a b ++ ys
two_at-append_left [] ys k a b h = absurd (omega arith)
two_at-append_left (x ∷ xs) ys zero a b h = refl
two_at-append_left (x ∷ xs) ys (suc k) a b h = ap (λ zs. x ∷ zs) (two_at-append_left xs ys k a b (omega arith))

pub two_at-append_right : {X : Type 0} (xs ys : List X) (k m : ℕ) (a b : X) → k ≡ length xs + m → two_at (xs ++ ys) k a b ≡ xs ++ two_at ys m a b
two_at-append_right [] ys k m a b is = let same : k ≡ m = omega arith in ap (λ n. two_at ys n a b) same
two_at-append_right (x ∷ xs) ys zero m a b is = absurd (omega arith)
two_at-append_right (x ∷ xs) ys (suc k) m a b is = ap (λ zs. x ∷ zs) (two_at-append_right xs ys k m a b (omega arith))

insert-set_suc : {X : Type 0} (xs : List X) (k : ℕ) (a b : X) → k < length xs → insert (slice_set xs k a) (suc k) b ≡ two_at xs k a b
insert-set_suc [] k a b h = absurd (omega arith)
insert-set_suc (x ∷ xs) zero a b h = refl
insert-set_suc (x ∷ xs) (suc k) a b h = ap (λ zs. x ∷ zs) (insert-set_suc xs k a b (omega arith))

-- a list after a write and an insertion behind it
pub insert-set : {X : Type 0} (xs : List X) (k : ℕ) (a b : X) → k < length xs → insert (slice_set xs k a) (k + 1) b ≡ two_at xs k a b
insert-set xs k a b h = let next : k + 1 ≡ suc k = omega arith in ap (λ n. insert (slice_set xs k a) n b) next ∙ insert-set_suc xs k a b h

-- a place in two lists one after another is in the first or in the second
pub place_cases : {X : Type 0} (xs ys : List X) (k : ℕ) (x : X) → slice_get (xs ++ ys) k ≡ Some x →
    ((k < length xs) × (slice_get xs k ≡ Some x)) ⊎ ((m : ℕ) × (k ≡ length xs + m) × (slice_get ys m ≡ Some x))
place_cases [] ys k x at = inr (k, omega arith, at)
place_cases (z ∷ xs) ys zero x at = inl (omega arith, at)
place_cases (z ∷ xs) ys (suc k) x at = grind (arith, place_cases xs ys k x at)

pub slice_get-append_right : {X : Type 0} (xs ys : List X) (m : ℕ) (x : X) → slice_get ys m ≡ Some x → slice_get (xs ++ ys) (length xs + m) ≡ Some x
slice_get-append_right {X = X} xs ys m x at = go xs (length xs + m) refl
  where
    go : (zs : List X) (k : ℕ) → k ≡ length zs + m → slice_get (zs ++ ys) k ≡ Some x
    go [] k is = let same : k ≡ m = omega arith in subst (λ (n : ℕ). slice_get ys n ≡ Some x) (sym same) at
    go (z ∷ zs) zero is = absurd (omega arith)
    go (z ∷ zs) (suc k) is = go zs k (omega arith)

pub AllZip-two_at : {A B : Type 0} (R : A → B → Type 0) (xs : List A) (ys : List B) (k : ℕ) (a b : A) (m n : B) →
    AllZip R xs ys → R a m → R b n → AllZip R (two_at xs k a b) (two_at ys k m n)
AllZip-two_at R [] [] k a b m n all first second = tt
AllZip-two_at R [] (y ∷ ys) k a b m n all first second = absurd all
AllZip-two_at R (x ∷ xs) [] k a b m n all first second = absurd all
AllZip-two_at R (x ∷ xs) (y ∷ ys) zero a b m n all first second = (first, (second, all.1))
AllZip-two_at R (x ∷ xs) (y ∷ ys) (suc k) a b m n all first second = (all.0, AllZip-two_at R xs ys k a b m n all.1 first second)

pub AllZip-weaker : {A B : Type 0} (R S : A → B → Type 0) → ((a : A) (b : B) → R a b → S a b) → (xs : List A) (ys : List B) →
    AllZip R xs ys → AllZip S xs ys
AllZip-weaker R S weaker [] [] all = tt
AllZip-weaker R S weaker [] (y ∷ ys) all = absurd all
AllZip-weaker R S weaker (x ∷ xs) [] all = absurd all
AllZip-weaker R S weaker (x ∷ xs) (y ∷ ys) all = (weaker x y all.0, AllZip-weaker R S weaker xs ys all.1)

pub AllZip-take : {A B : Type 0} (R : A → B → Type 0) (k : ℕ) (xs : List A) (ys : List B) → AllZip R xs ys → AllZip R (take k xs) (take k ys)
AllZip-take R zero xs ys all = tt
AllZip-take R (suc k) [] [] all = tt
AllZip-take R (suc k) [] (y ∷ ys) all = absurd all
AllZip-take R (suc k) (x ∷ xs) [] all = absurd all
AllZip-take R (suc k) (x ∷ xs) (y ∷ ys) all = (all.0, AllZip-take R k xs ys all.1)

pub AllZip-length : {A B : Type 0} (R : A → B → Type 0) (xs : List A) (ys : List B) → AllZip R xs ys → length xs ≡ length ys
AllZip-length R [] [] all = refl
AllZip-length R [] (y ∷ ys) all = absurd all
AllZip-length R (x ∷ xs) [] all = absurd all
AllZip-length R (x ∷ xs) (y ∷ ys) all = omega (arith, AllZip-length R xs ys all.1)

-- what stands beside an element
pub beside_left : {A B : Type 0} (R : A → B → Type 0) (xs : List A) (ys : List B) (k : ℕ) (x : A) → AllZip R xs ys → slice_get xs k ≡ Some x →
    (y : B) × (slice_get ys k ≡ Some y) × R x y
beside_left R [] ys k x all at = absurd cc
beside_left R (z ∷ xs) [] k x all at = absurd all
beside_left R (z ∷ xs) (y ∷ ys) zero x all at = let same : z ≡ x = cc in (y, refl, subst (λ w. R w y) same all.0)
beside_left R (z ∷ xs) (y ∷ ys) (suc k) x all at = beside_left R xs ys k x all.1 at

pub beside_right : {A B : Type 0} (R : A → B → Type 0) (xs : List A) (ys : List B) (k : ℕ) (y : B) → AllZip R xs ys → slice_get ys k ≡ Some y →
    (x : A) × (slice_get xs k ≡ Some x) × R x y
beside_right R [] [] k y all at = absurd cc
beside_right R [] (z ∷ ys) k y all at = absurd all
beside_right R (x ∷ xs) [] k y all at = absurd all
beside_right R (x ∷ xs) (z ∷ ys) zero y all at = let same : z ≡ y = cc in (x, refl, subst (λ w. R x w) same all.0)
beside_right R (x ∷ xs) (z ∷ ys) (suc k) y all at = beside_right R xs ys k y all.1 at
