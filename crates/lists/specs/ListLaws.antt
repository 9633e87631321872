-- Items of lists by their places, and of lists that others are joined of.
use Rattle.std.specs.Prelude.{ℕ, zero, suc, ◌≡◌, ◌+◌, ◌<◌, ◌≤◌, Bool, not, List, [], ◌∷◌, ◌++◌, length, take, filter, flat_map, replicate, get_or, slice_get, All, Some, true, false, if◌then◌else◌}
use Rattle.std.proofs.Common.{refl, sym, ap, ◌∙◌, subst, arith, length-append}
use Rattle.std.proofs.lemmas.List.{append-nil, flat_map_more, take_more, get_or_append_left, get_or-append-add}
use Rattle.std.proofs.lemmas.List.Filters.{length-filter_both}
use Rattle.std.proofs.lemmas.Option.{slice_get_within, slice_get-get_or, get_or_from_slice_get}

-- what holds of all items holds of the one at a place
pub All-at : {X : Type 0} (P : X → Type 0) (xs : List X) (k : ℕ) (x : X) → All P xs → slice_get xs k ≡ Some x → P x
All-at P xs k x all at = subst P (get_or_from_slice_get xs k x x at) (all k x (slice_get_within xs k x at))

-- .. and back
pub All-from_places : {X : Type 0} (P : X → Type 0) (xs : List X) →
    ((k : ℕ) (x : X) → slice_get xs k ≡ Some x → P x) → All P xs
All-from_places P xs each k d within = each k (get_or xs k d) (slice_get-get_or xs k d within)

-- what holds of all items of two lists joined holds of those of the first, and of the second
pub All-first : {X : Type 0} (P : X → Type 0) (xs ys : List X) → All P (xs ++ ys) → All P xs
All-first P xs ys all k d inside =
    subst P (get_or_append_left xs ys d k inside) (all k d (omega (arith, length-append xs ys)))

pub All-second : {X : Type 0} (P : X → Type 0) (xs ys : List X) → All P (xs ++ ys) → All P ys
All-second P xs ys all k d inside =
    subst P (get_or-append-add xs ys k d) (all (length xs + k) d (omega (arith, length-append xs ys)))

-- there is an item at each place
pub slice_get-inside : {X : Type 0} (xs : List X) (k : ℕ) → k < length xs → (x : X) × (slice_get xs k ≡ Some x)
slice_get-inside [] k below = absurd (omega arith)
slice_get-inside (x ∷ xs) zero below = (x, refl)
slice_get-inside (x ∷ xs) (suc k) below = slice_get-inside xs k (omega arith)

-- .. which other items behind the list leave there
pub slice_get-append_left : {X : Type 0} (xs ys : List X) (k : ℕ) (x : X) → slice_get xs k ≡ Some x →
    slice_get (xs ++ ys) k ≡ Some x
slice_get-append_left [] ys k x at = absurd cc
slice_get-append_left (z ∷ xs) ys zero x at = at
slice_get-append_left (z ∷ xs) ys (suc k) x at = slice_get-append_left xs ys k x at

-- one item again and again
pub slice_get-repeated : {X : Type 0} (n k : ℕ) (x : X) → k < n → slice_get (replicate n x) k ≡ Some x
slice_get-repeated zero k x below = absurd (omega arith)
slice_get-repeated (suc n) zero x below = refl
slice_get-repeated (suc n) (suc k) x below = slice_get-repeated n k x (omega arith)

-- a test passes no more items than there are
pub length-filter-le : {X : Type 0} (p : X → Bool) (xs : List X) → length (filter p xs) ≤ length xs
length-filter-le p xs = omega (arith, length-filter_both p (λ x. not (p x)) (λ x. refl) xs)

-- the text of the first items and of the next one
pub flat_map-take_more : {X : Type 0} (f : X → List ℕ) (xs : List X) (k : ℕ) (x : X) → slice_get xs k ≡ Some x →
    flat_map f (take k xs) ++ f x ≡ flat_map f (take (k + 1) xs)
flat_map-take_more f xs k x at =
    flat_map_more f [] (take k xs) x
    ∙ ap (flat_map f) (ap (λ y. take k xs ++ y ∷ []) (sym (get_or_from_slice_get xs k x x at))
    ∙ sym (take_more xs k x (slice_get_within xs k x at)))

-- the text of an item, if it is there
pub flat_map-if : (f : ℕ → List ℕ) (flag : Bool) (n : ℕ) →
    (if flag then f n else []) ≡ flat_map f (if flag then n ∷ [] else [])
flat_map-if f true n = sym (append-nil (f n))
flat_map-if f false n = refl
