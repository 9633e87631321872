-- The words of a line, taken from its front.
use Rattle.std.specs.Prelude.{ℕ, ◌<◌, ◌≡◌, ◌==◌, ◌++◌, true, false, List, [], ◌∷◌, length, All}
use Rattle.std.proofs.Common.{arith}
use Rattle.std.proofs.lemmas.Bool.{ne_eqb}
use Rattle.std.proofs.lemmas.List.Splits.{slice_split_none, slice_split_at}
use Rattle.stp_format.specs.Lines.{is_gap, words_of}

-- bytes that are counted
pub some_bytes : (bytes : List ℕ) → (length bytes == 0) ≡ false → 0 < length bytes
some_bytes [] none = absurd (cc)
some_bytes (b ∷ bytes) some = omega arith

-- a word before a gap
pub words_of-word : (word : List ℕ) (gap : ℕ) (rest : List ℕ) → All (λ b. is_gap b ≡ false) word → is_gap gap ≡ true → 0 < length word
    → words_of (word ++ gap ∷ rest) ≡ word ∷ words_of rest
words_of-word word gap rest lacks is some = grind (arith, ne_eqb, slice_split_at is_gap word gap rest lacks is)

-- the last word
pub words_of-last : (word : List ℕ) → All (λ b. is_gap b ≡ false) word → 0 < length word → words_of word ≡ word ∷ []
words_of-last word lacks some = grind (arith, ne_eqb, slice_split_none is_gap word lacks)
