-- Words whose bits mark what lies from a number v on, up to an end: where the next mark is, and what stands behind it.
use Rattle.std.proofs.Common.{ℕ, ◌≡◌, ◌+◌, ◌-◌, ◌/◌, ◌%◌, ◌^◌, ◌<◌, ◌≤◌, ap, sym, ◌∙◌, arith, w64}
use Rattle.std.specs.Int.{bit_at, trailing_zeros}
use Rattle.std.proofs.Math.Nat.{div-div-eq-div-mul}
use Rattle.std.proofs.lemmas.Nat.{pow-add, pow_pos, div_below}
use Rattle.std.proofs.lemmas.Nat.Bits.{bit_at_above, bit_at-trailing_zeros}
use Rattle.std.proofs.lemmas.Bool.{cases_lt}

-- the bits of a word moved down
pub bit_at-shr : (n k i : ℕ) → bit_at (n / 2 ^ k) i ≡ bit_at n (k + i)
bit_at-shr n k i = ap (λ m. m % 2) (div-div-eq-div-mul n (2 ^ k) (2 ^ i) ∙ ap (λ m. n / m) (sym (pow-add 2 k i)))

-- the next mark is below the end
pub next_mark-below : (marks v end : ℕ) → v ≤ end → marks < 2 ^ (end - v) → 0 < marks → marks < 2 ^ 64 →
    v + trailing_zeros w64 marks < end
next_mark-below marks v end within below some fits =
    grind (arith, bit_at-trailing_zeros w64 marks some fits, bit_at_above, cases_lt (v + trailing_zeros w64 marks) end)

-- the marks behind one, and their bits
behind_once : (marks gap : ℕ) → marks / 2 ^ gap / 2 ≡ marks / 2 ^ (gap + 1)
behind_once marks gap = div-div-eq-div-mul marks (2 ^ gap) 2 ∙ ap (λ m. marks / m) (sym (pow-add 2 gap 1))

pub marks_behind-below : (marks v end gap : ℕ) → marks < 2 ^ (end - v) → v + gap < end →
    marks / 2 ^ gap / 2 < 2 ^ (end - (v + gap + 1))
marks_behind-below marks v end gap below inside =
    grind (arith, pow-add 2 (end - (v + gap + 1)) (gap + 1), behind_once marks gap, div_below, pow_pos (gap + 1))

pub bit_at-behind : (marks gap i : ℕ) → bit_at (marks / 2 ^ gap / 2) i ≡ bit_at marks (gap + 1 + i)
bit_at-behind marks gap i = ap (λ m. bit_at m i) (behind_once marks gap) ∙ bit_at-shr marks (gap + 1) i
