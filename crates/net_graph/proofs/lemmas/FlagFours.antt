-- Flags four by four, and word by word.
use Rattle.std.proofs.Common.{ℕ, zero, suc, ◌≡◌, ◌≢◌, ◌+◌, ◌-◌, ◌*◌, ◌/◌, ◌%◌, ◌^◌, ◌<◌, ◌≤◌, Bool, true, false, ◌||◌, ◌&&◌, List, map, length, get_or, set, bit_or, max, eqb, ap, sym, ◌∙◌, refl, ⊎_elim, arith}
use Rattle.std.specs.Int.{bit_at}
use Rattle.std.specs.List.{range_with_len}
use Rattle.std.proofs.Math.Nat.{mod-eq_of_lt}
use Rattle.std.proofs.Math.Pow.{pow_mono}
use Rattle.std.proofs.lemmas.Nat.{pow-add, pow_pos, mul-le}
use Rattle.std.proofs.lemmas.List.{get_or-set_same, get_or-set_other, get_or_past, get_or_read}
use Rattle.std.proofs.lemmas.List.FromFn.{get_or-map-range_with_len}
use Rattle.std.proofs.lemmas.Nat.Bits.{bit_at-lt, bit_at-zero, bit_at_or, bit_at_above, bit_at_cat_low, bit_at_cat_high}
use Rattle.std.proofs.lemmas.Bool.{cases_eq, cases_lt, cases_Bool, eq-eqb, ne_eqb, and_left, and_right}
use Rattle.net_graph.specs.Flags.{has, bit_in_words, flags_in_words, flag_of_four}
use Rattle.net_graph.proofs.lemmas.FlagWords.{length-flags_in_words, long_view, flag_at}

-- tests that agree one after another agree at each number
pub at_number : (f g : ℕ → Bool) (size : ℕ) → map f (range_with_len 0 size) ≡ map g (range_with_len 0 size) → (n : ℕ) → n < size → f n ≡ g n
at_number f g size same n below =
    sym (get_or-map-range_with_len f 0 size n n false below (omega arith)) ∙ ap (λ l. get_or l n false) same ∙ get_or-map-range_with_len g 0 size n n false below (omega arith)

-- the bit of a greatest of two bits
bit_of_max : (a b : ℕ) → a < 2 → b < 2 → eqb (max a b) 1 ≡ (eqb a 1 || eqb b 1)
bit_of_max zero zero x y = refl
bit_of_max zero (suc zero) x y = refl
bit_of_max (suc zero) zero x y = refl
bit_of_max (suc zero) (suc zero) x y = refl
bit_of_max (suc (suc a)) b x y = absurd (omega arith)
bit_of_max a (suc (suc b)) x y = absurd (omega arith)

or_none : (x y : Bool) → y ≡ false → (x || y) ≡ x
or_none true y none = refl
or_none false y none = none

-- four bits that are moved up within a word stay as they are
moved : (nibble up : ℕ) → nibble < 16 → up ≤ 60 → nibble * 2 ^ up % 2 ^ 64 ≡ nibble * 2 ^ up + 0
moved nibble up small within = grind (arith, mul-le, pow_mono, pow-add 2 4 up, pow_pos up, mod-eq_of_lt)

-- a bit of four that were moved up to a place of four
moved_bit : (nibble value place n : ℕ) → nibble < 16 → ((r : ℕ) → r < 4 → eqb (bit_at nibble r) 1 ≡ flag_of_four value r) → n / 64 ≡ place / 16 →
    eqb (bit_at (nibble * 2 ^ (place % 16 * 4) % 2 ^ 64) (n % 64)) 1 ≡ (eqb (n / 4) place && flag_of_four value (n % 4))
moved_bit nibble value place n small told near =
    let up : ℕ = place % 16 * 4 in
    let is : nibble * 2 ^ (place % 16 * 4) % 2 ^ 64 ≡ nibble * 2 ^ (place % 16 * 4) + 0 = moved nibble (place % 16 * 4) small (omega arith) in
    rw is (⊎_elim
    (λ (here : n / 4 ≡ place).
    let low : place % 16 * 4 ≤ n % 64 = omega arith in
    let rest : n % 64 - place % 16 * 4 ≡ n % 4 = omega arith in
    let some : 0 < 2 ^ (place % 16 * 4) = pow_pos (place % 16 * 4) in
    let bit : bit_at (nibble * 2 ^ (place % 16 * 4) + 0) (n % 64) ≡ bit_at nibble (n % 4) = bit_at_cat_high nibble (place % 16 * 4) 0 (n % 64) (omega arith) low ∙ ap (bit_at nibble) rest in
    rw (bit, eq-eqb (n / 4) place here) (told (n % 4) (omega arith)))
    (λ (apart : n / 4 ≢ place).
    let none : bit_at (nibble * 2 ^ (place % 16 * 4) + 0) (n % 64) ≡ 0 = ⊎_elim
    (λ (below : n % 64 < place % 16 * 4). bit_at_cat_low nibble (place % 16 * 4) 0 (n % 64) below ∙ bit_at-zero (n % 64))
    (λ (above : place % 16 * 4 ≤ n % 64).
    let some : 0 < 2 ^ (place % 16 * 4) = pow_pos (place % 16 * 4) in
    bit_at_cat_high nibble (place % 16 * 4) 0 (n % 64) (omega arith) above ∙ bit_at_above nibble 4 (n % 64 - place % 16 * 4) small (omega arith))
    (cases_lt (n % 64) (place % 16 * 4)) in
    rw (none, ne_eqb (n / 4) place apart) refl)
    (cases_eq (n / 4) place))

-- a word or-ed with four bits puts those of four numbers into the set that a value tells
pub flags_after_four : (words : List ℕ) (flags : List Bool) (size place value nibble word : ℕ) → flags_in_words words size ≡ flags →
    length words ≡ (size + 63) / 64 → 4 * place < length flags → nibble < 16 →
    ((r : ℕ) → r < 4 → eqb (bit_at nibble r) 1 ≡ flag_of_four value r) →
    ((r : ℕ) → r < 4 → flag_of_four value r ≡ true → 4 * place + r < length flags) →
    word ≡ get_or words (place / 16) word → (n : ℕ) →
    has (flags_in_words (set words (place / 16) (bit_or word (nibble * 2 ^ (place % 16 * 4) % 2 ^ 64))) size) n ≡ (has flags n || (eqb (n / 4) place && flag_of_four value (n % 4)))
flags_after_four words flags size place value nibble word view enough inside small told within read n =
    let long : length flags ≡ size = long_view words flags size view in
    let there : place / 16 < length words = omega arith in
    let is : word ≡ get_or words (place / 16) 0 = get_or_read words (place / 16) word there read 0 in
    let next : ℕ = bit_or word (nibble * 2 ^ (place % 16 * 4) % 2 ^ 64) in
    ⊎_elim
    (λ (below : n < size).
    let old : has flags n ≡ bit_in_words words n = rw (← view) (flag_at words size n false below) in
    flag_at (set words (place / 16) (bit_or word (nibble * 2 ^ (place % 16 * 4) % 2 ^ 64))) size n false below ∙ ⊎_elim
    (λ (near : n / 64 ≡ place / 16).
    let at : get_or (set words (place / 16) (bit_or word (nibble * 2 ^ (place % 16 * 4) % 2 ^ 64))) (n / 64) 0 ≡ bit_or word (nibble * 2 ^ (place % 16 * 4) % 2 ^ 64) =
    ap (λ i. get_or (set words (place / 16) (bit_or word (nibble * 2 ^ (place % 16 * 4) % 2 ^ 64))) i 0) near ∙ get_or-set_same words (place / 16) (bit_or word (nibble * 2 ^ (place % 16 * 4) % 2 ^ 64)) 0 there in
    let was : bit_at word (n % 64) ≡ bit_at (get_or words (n / 64) 0) (n % 64) = ap (λ (w : ℕ). bit_at w (n % 64)) (is ∙ ap (λ i. get_or words i 0) (sym near)) in
    rw (
      at,
      bit_at_or word (nibble * 2 ^ (place % 16 * 4) % 2 ^ 64) (n % 64),
      bit_of_max (bit_at word (n % 64)) (bit_at (nibble * 2 ^ (place % 16 * 4) % 2 ^ 64) (n % 64)) (bit_at-lt word (n % 64)) (bit_at-lt (nibble * 2 ^ (place % 16 * 4) % 2 ^ 64) (n % 64)),
      moved_bit nibble value place n small told near,
      old,
      was,
    ) refl)
    (λ (far : n / 64 ≢ place / 16).
    let apart : n / 4 ≢ place = omega arith in
    rw (get_or-set_other words (place / 16) (n / 64) (bit_or word (nibble * 2 ^ (place % 16 * 4) % 2 ^ 64)) 0 far, old)
    (sym (or_none (bit_in_words words n) (eqb (n / 4) place && flag_of_four value (n % 4)) (and_left (eqb (n / 4) place) (flag_of_four value (n % 4)) (ne_eqb (n / 4) place apart)))))
    (cases_eq (n / 64) (place / 16)))
    (λ (past : size ≤ n).
    let none : has flags n ≡ false = get_or_past flags n false (omega arith) in
    let other : (eqb (n / 4) place && flag_of_four value (n % 4)) ≡ false = ⊎_elim
    (λ (here : n / 4 ≡ place). and_right (eqb (n / 4) place) (flag_of_four value (n % 4)) (⊎_elim
    (λ (yes : flag_of_four value (n % 4) ≡ true). let low : 4 * place + n % 4 < length flags = within (n % 4) (omega arith) yes in absurd (omega arith))
    (λ (no : flag_of_four value (n % 4) ≡ false). no)
    (cases_Bool (flag_of_four value (n % 4)))))
    (λ (apart : n / 4 ≢ place). and_left (eqb (n / 4) place) (flag_of_four value (n % 4)) (ne_eqb (n / 4) place apart))
    (cases_eq (n / 4) place) in
    rw (none, other) (get_or_past (flags_in_words (set words (place / 16) (bit_or word (nibble * 2 ^ (place % 16 * 4) % 2 ^ 64))) size) n false
    (let same : length (flags_in_words (set words (place / 16) (bit_or word (nibble * 2 ^ (place % 16 * 4) % 2 ^ 64))) size) ≡ size = length-flags_in_words (set words (place / 16) (bit_or word (nibble * 2 ^ (place % 16 * 4) % 2 ^ 64))) size in omega arith)))
    (cases_lt n size)
