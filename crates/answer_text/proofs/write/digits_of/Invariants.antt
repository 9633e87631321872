use Rattle.std.specs.Prelude.{ℕ, ◌≡◌, ◌<◌, length, slice_get, Some}
use Rattle.answer_text.specs.SetLaws.{digit_in_word}
use Rattle.answer_text.proofs.write.digits_of.Given as goal

-- the digits so far
abbrev pub invariant-loop-n : goal.invariant-loop-n
invariant-loop-n l = (length l.digits ≡ 16) × ((n : ℕ) → n < l.n → slice_get l.digits n ≡ Some (digit_in_word l.flags n))
