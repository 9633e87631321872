-- Flags that words of 64 bits keep.
use Rattle.std.proofs.Common.{ℕ, ◌≡◌, ◌≢◌, ◌+◌, ◌/◌, ◌%◌, ◌<◌, Bool, false, List, length, get_or, set, replicate, ◌*◌, ◌^◌, bit_and, bit_or, w64, true, ap, sym, ◌∙◌, eqb, inl, inr, refl, arith}
use Rattle.std.specs.Int.{bit_at, bit_not}
use Rattle.std.proofs.lemmas.List.{length-set, length-replicate, get_or-set_same, get_or-set_other, get_or-replicate, get_or_past, get_or_read}
use Rattle.std.proofs.lemmas.List.FromFn.{length-map-range_with_len, get_or-map-range_with_len, fill_by_all}
use Rattle.std.proofs.lemmas.Nat.Bits.{bit_at-zero, bit_at_set_same, bit_at_set_other, bit_at_clear_same, bit_at_clear_other, shr_and_one}
use Rattle.std.proofs.lemmas.Bool.{cases_eq, cases_lt}
use Rattle.net_graph.specs.Flags.{bit_in_words, flags_in_words}

-- the number's word is one of the words
pub word_below : (size n : ℕ) → n < size → n / 64 < (size + 63) / 64
word_below size n below = omega arith

-- there are as many flags as the size says
pub length-flags_in_words : (words : List ℕ) (size : ℕ) → length (flags_in_words words size) ≡ size
length-flags_in_words words size = length-map-range_with_len (bit_in_words words) 0 size

-- the flag at a number is its bit
pub flag_at : (words : List ℕ) (size n : ℕ) (other : Bool) → n < size → get_or (flags_in_words words size) n other ≡ bit_in_words words n
flag_at words size n other below = get_or-map-range_with_len (bit_in_words words) 0 size n n other below (omega arith)

-- a changed bit of a word changes the number's bit
bit_changed : (words : List ℕ) (n word : ℕ) (flag : Bool) → n / 64 < length words → eqb (bit_at word (n % 64)) 1 ≡ flag →
    bit_in_words (set words (n / 64) word) n ≡ flag
bit_changed words n word flag within is = rw (get_or-set_same words (n / 64) word 0) is

-- a word with one bit changed changes that flag and no other
pub flags-set : (words : List ℕ) (size n word : ℕ) (flag : Bool) → length words ≡ (size + 63) / 64 → n < size →
    eqb (bit_at word (n % 64)) 1 ≡ flag →
    ((i : ℕ) → i < 64 → i ≢ n % 64 → bit_at word i ≡ bit_at (get_or words (n / 64) 0) i) →
    flags_in_words (set words (n / 64) word) size ≡ set (flags_in_words words size) n flag
flags-set words size n word flag enough below is kept =
    let changed = set (flags_in_words words size) n flag in
    let within : n / 64 < length words = rw enough (word_below size n below) in
    let long : length changed ≡ size = length-set (flags_in_words words size) n flag ∙ length-flags_in_words words size in
    sym (fill_by_all (bit_in_words (set words (n / 64) word)) changed size false long (λ k k_below. elim (cases_eq k n) [
      | inl same ↦ rw same (get_or-set_same (flags_in_words words size) n flag false (rw (length-flags_in_words words size) below) ∙ sym (bit_changed words n word flag within is))
      | inr apart ↦ get_or-set_other (flags_in_words words size) n k flag false apart ∙ flag_at words size k false k_below ∙ sym (grind (arith, cases_eq (k / 64) (n / 64), get_or-set_same words (n / 64) word 0, get_or-set_other))
    ]))

-- no bit of 0 is set
zero_has_no_bit : (k : ℕ) → eqb (bit_at 0 k) 1 ≡ false
zero_has_no_bit k = rw (bit_at-zero k) refl

-- a word that is 0 or past the end is 0
get_or_zeros : (count i : ℕ) → get_or {A = ℕ} (replicate count 0) i 0 ≡ 0
get_or_zeros count i = grind (arith, cases_lt i count, get_or-replicate, get_or_past, length-replicate)

-- words that are 0 keep no flag
pub flags-none : (words : List ℕ) (count size : ℕ) → words ≡ replicate count 0 → flags_in_words words size ≡ replicate size false
flags-none words count size zeros =
    sym (fill_by_all (bit_in_words words) (replicate size false) size false (length-replicate size false) (λ k k_below.
    get_or-replicate size k false false k_below ∙ sym (rw (zeros, get_or_zeros count (k / 64)) (zero_has_no_bit (k % 64)))))

-- a member's word is one of the words
pub word_within : (words : List ℕ) (flags : List Bool) (size n : ℕ) → flags_in_words words size ≡ flags →
    length words ≡ (size + 63) / 64 → n < length flags → n / 64 < length words
word_within words flags size n view enough below = grind (arith, length-flags_in_words words size, word_below)

-- the number of flags is the size
pub long_view : (words : List ℕ) (flags : List Bool) (size : ℕ) → flags_in_words words size ≡ flags → length flags ≡ size
long_view words flags size view = sym (ap length view) ∙ length-flags_in_words words size

-- `word |= 1 << k` puts the number into the set
pub flags_after_add : (words : List ℕ) (flags : List Bool) (size n word : ℕ) → flags_in_words words size ≡ flags →
    length words ≡ (size + 63) / 64 → n < length flags → word ≡ get_or words (n / 64) word →
    flags_in_words (set words (n / 64) (bit_or word (1 * 2 ^ (n % 64) % 2 ^ 64))) size ≡ set flags n true
flags_after_add words flags size n word view enough below read =
    let within : n / 64 < length words = word_within words flags size n view enough below in
    let is : word ≡ get_or words (n / 64) 0 = get_or_read words (n / 64) word within read 0 in
    let place : n % 64 < 64 = omega arith in
    rw (← view) (flags-set words size n (bit_or word (1 * 2 ^ (n % 64) % 2 ^ 64)) true enough
    (rw (← long_view words flags size view) below)
    (rw (bit_at_set_same w64 word (n % 64) place) refl)
    (λ i _ apart. bit_at_set_other w64 word (n % 64) place i apart ∙ ap (λ (w : ℕ). bit_at w i) is))

-- `word &= !(1 << k)` takes the number out of the set
pub flags_after_remove : (words : List ℕ) (flags : List Bool) (size n word : ℕ) → flags_in_words words size ≡ flags →
    length words ≡ (size + 63) / 64 → n < length flags → word ≡ get_or words (n / 64) word →
    flags_in_words (set words (n / 64) (bit_and word (bit_not w64 (1 * 2 ^ (n % 64) % 2 ^ 64)))) size ≡ set flags n false
flags_after_remove words flags size n word view enough below read =
    let within : n / 64 < length words = word_within words flags size n view enough below in
    let is : word ≡ get_or words (n / 64) 0 = get_or_read words (n / 64) word within read 0 in
    let place : n % 64 < 64 = omega arith in
    rw (← view) (flags-set words size n (bit_and word (bit_not w64 (1 * 2 ^ (n % 64) % 2 ^ 64))) false enough
    (rw (← long_view words flags size view) below)
    (rw (bit_at_clear_same w64 word (n % 64) place) refl)
    (λ i small apart. bit_at_clear_other w64 word (n % 64) place i small apart ∙ ap (λ (w : ℕ). bit_at w i) is))

-- `(word >> k) & 1 == 1` is the number's flag
pub flag_read : (words : List ℕ) (flags : List Bool) (size n word : ℕ) (other : Bool) → flags_in_words words size ≡ flags →
    length words ≡ (size + 63) / 64 → n < length flags → word ≡ get_or words (n / 64) word →
    eqb (bit_and (word / 2 ^ (n % 64)) 1) 1 ≡ get_or flags n other
flag_read words flags size n word other view enough below read =
    grind (arith, get_or_read words (n / 64) word (word_within words flags size n view enough below) read 0, flag_at, long_view words flags size view, shr_and_one word (n % 64))
