-- The bits of words that were shifted, joined and compared, and the flags that they keep.
use Rattle.std.proofs.Common.{ℕ, ◌≡◌, ◌+◌, ◌-◌, ◌*◌, ◌/◌, ◌%◌, ◌^◌, ◌<◌, ◌≤◌, Bool, List, length, bit_and, bit_or, bit_xor, max, eqb, ap, sym, subst, ◌∙◌, ⊎_elim, arith}
use Rattle.std.specs.Int.{bit_at}
use Rattle.std.proofs.lemmas.Nat.{pow_pos, and_mask, one_shl, div-add-mod'}
use Rattle.std.proofs.lemmas.Nat.Bits.{bit_at-lt, bit_at-zero, bit_at_or, bit_at_xor, bit_at_above, bit_at_cat_low, bit_at_cat_high}
use Rattle.std.proofs.lemmas.Bool.{cases_lt}
use Rattle.net_graph.specs.Flags.{has}
use Rattle.net_graph.specs.MarkLaws.{bit_at-shr}

-- ---- shifts

-- what stays of the lowest bits
pub bit_at-mod : (n w i : ℕ) → i < w → bit_at (n % 2 ^ w) i ≡ bit_at n i
bit_at-mod n w i low =
    sym (bit_at_cat_low (n / 2 ^ w) w (n % 2 ^ w) i low) ∙ ap (λ m. bit_at m i) (div-add-mod' n (2 ^ w))

-- by k to the left: below k, and from k on
bit_at-shl_below : (n k i : ℕ) → i < k → i < 64 → bit_at (n * 2 ^ k % 2 ^ 64) i ≡ 0
bit_at-shl_below n k i below low =
    grind (arith, bit_at-mod (n * 2 ^ k) 64 i low, bit_at_cat_low n k 0 i below, bit_at-zero i)

bit_at-shl_above : (n k i : ℕ) → k ≤ i → i < 64 → bit_at (n * 2 ^ k % 2 ^ 64) i ≡ bit_at n (i - k)
bit_at-shl_above n k i above low =
    grind (arith, bit_at-mod (n * 2 ^ k) 64 i low, bit_at_cat_high n k 0 i (pow_pos k) above)

-- ---- where two words differ

-- not in a bit that is 0 among the lowest ones of their exclusive or
pub same_bit : (a b count i : ℕ) → i < count → count < 64 →
    bit_at (bit_and (bit_xor a b) (1 * 2 ^ count % 2 ^ 64 - 1)) i ≡ 0 →
    bit_at a i ≡ bit_at b i
same_bit a b count i below few none =
    grind (arith, one_shl count 64 few, bit_and (bit_xor a b) (2 ^ count - 1), and_mask (bit_xor a b) count, bit_at-mod (bit_xor a b) count i below, bit_at_xor a b i, bit_and, bit_at-lt a i, bit_at-lt b i)

-- ---- words of flags

-- a word has the flags of 64 numbers
abbrev pub HasFlags : List Bool → ℕ → ℕ → Type 0
HasFlags flags place word =
    (r : ℕ) → r < 64 → 64 * place + r < length flags → has flags (64 * place + r) ≡ eqb (bit_at word r) 1

-- the flags from a number on that stand in the first word
pub flag_in_first : (flags : List Bool) (n i word : ℕ) → HasFlags flags (n / 64) word → n + i < length flags →
    n % 64 + i < 64 →
    has flags (n + i) ≡ eqb (bit_at (word / 2 ^ (n % 64)) i) 1
flag_in_first flags n i word keeps within low = grind (arith, bit_at-shr word (n % 64) i)

-- those that stand in two words
pub flag_in_two : (flags : List Bool) (n i low high : ℕ) → HasFlags flags (n / 64) low →
    HasFlags flags (n / 64 + 1) high → low < 2 ^ 64 →
    n + i < length flags → i < 64 →
    has flags (n + i) ≡ eqb (bit_at (bit_or (low / 2 ^ (n % 64)) (high * 2 ^ (64 - n % 64) % 2 ^ 64)) i) 1
flag_in_two flags n i low high first second fits within few =
    let front : ℕ = low / 2 ^ (n % 64) in
    let back : ℕ = high * 2 ^ (64 - n % 64) % 2 ^ 64 in
    let joined : bit_at (bit_or (low / 2 ^ (n % 64)) (high * 2 ^ (64 - n % 64) % 2 ^ 64)) i ≡
    max (bit_at (low / 2 ^ (n % 64)) i) (bit_at (high * 2 ^ (64 - n % 64) % 2 ^ 64) i) =
    bit_at_or (low / 2 ^ (n % 64)) (high * 2 ^ (64 - n % 64) % 2 ^ 64) i in
    ⊎_elim
    (λ (here : n % 64 + i < 64).
    let none = bit_at-shl_below high (64 - n % 64) i (omega arith) few in
    let bit : bit_at (bit_or (low / 2 ^ (n % 64)) (high * 2 ^ (64 - n % 64) % 2 ^ 64)) i ≡ bit_at (low / 2 ^ (n % 64))
    i = omega arith in
    flag_in_first flags n i low first within here ∙ ap (λ b. eqb b 1) (sym bit))
    (λ (there : 64 ≤ n % 64 + i).
    let none : bit_at (low / 2 ^ (n % 64)) i ≡ 0 =
    bit_at-shr low (n % 64) i ∙ bit_at_above low 64 (n % 64 + i) fits there in
    let some = bit_at-shl_above high (64 - n % 64) i (omega arith) few in
    let bit : bit_at (bit_or (low / 2 ^ (n % 64)) (high * 2 ^ (64 - n % 64) % 2 ^ 64)) i ≡ bit_at high
    (i - (64 - n % 64)) = omega arith in
    let at : 64 * (n / 64 + 1) + (i - (64 - n % 64)) ≡ n + i = omega arith in
    let flag : has flags (n + i) ≡ eqb (bit_at high (i - (64 - n % 64))) 1 =
    subst (λ k. has flags k ≡ eqb (bit_at high (i - (64 - n % 64))) 1) at
    (second (i - (64 - n % 64)) (omega arith) (omega arith)) in
    flag ∙ ap (λ b. eqb b 1) (sym bit))
    (cases_lt (n % 64 + i) 64)
