-- The words of a text, taken from its front.
use Rattle.std.specs.Prelude.{ℕ, ◌+◌, ◌-◌, ◌<◌, ◌≤◌, ◌≡◌, true, false, not, List, [], ◌∷◌, length, take, drop}
use Rattle.std.specs.List.{slice_split, after_first, position_or_len, slice_index}
use Rattle.std.proofs.Common.{arith, refl, sym, ap, ◌∙◌, get_or, add-zero, inl, inr}
use Rattle.std.proofs.lemmas.Bool.{cases_lt, ne_eqb}
use Rattle.std.proofs.lemmas.List.{take_all, drop_all, drop_more, drop-drop, length-take-le, length-drop, get_or-drop}
use Rattle.std.proofs.lemmas.List.Elements.{All-from_get_or}
use Rattle.std.proofs.lemmas.List.Splits.{slice_split-cons_yes, slice_split_none, slice_split_first}
use Rattle.std.proofs.lemmas.List.Sums.{prefix_len-le-length, fails_before_first, passes_at_first}
use Rattle.points_in.specs.Words.{is_blank, words_from, front_word}
use Rattle.points_in.specs.Reading.{words_at}

-- no word stands in no bytes
pub words_from-nil : (at : ℕ) → words_from at [] ≡ []
unfolding words_from
words_from-nil at = refl

-- a blank at the front is passed over
pub words_from-blank : (at byte : ℕ) (rest : List ℕ) → is_blank byte ≡ true → words_from at (byte ∷ rest) ≡ words_from (at + 1) rest
unfolding words_from
words_from-blank at byte rest blank = rw (slice_split-cons_yes is_blank byte rest blank, add-zero) refl

-- a part with bytes is a word
pub words_from-part : (at : ℕ) (bytes part : List ℕ) (parts : List ℕ) → slice_split is_blank bytes ≡ part ∷ slice_split is_blank parts
    → 0 < length part → words_from at bytes ≡ record { at = at; bytes = part } ∷ words_from (at + length part + 1) parts
unfolding words_from
words_from-part at bytes part parts split some = grind (arith, ne_eqb)

-- and so is the last one
words_from-last : (at : ℕ) (bytes part : List ℕ) → slice_split is_blank bytes ≡ part ∷ [] → 0 < length part
    → words_from at bytes ≡ record { at = at; bytes = part } ∷ []
unfolding words_from
words_from-last at bytes part split some = grind (arith, ne_eqb)

-- how many bytes stand before the first blank
pub length-front_word : (bytes : List ℕ) → length (front_word bytes) ≡ position_or_len is_blank bytes
length-front_word bytes = length-take-le (position_or_len is_blank bytes) bytes (prefix_len-le-length (λ b. not (is_blank b)) bytes)

-- the bytes before the first blank are the first word
pub words_from-front : (at : ℕ) (bytes : List ℕ) → 0 < length (front_word bytes)
    → words_from at bytes
    ≡ record { at = at; bytes = front_word bytes } ∷ words_from (at + length (front_word bytes)) (drop (length (front_word bytes)) bytes)
words_from-front at bytes some =
    let n = position_or_len is_blank bytes in
    let len = length-front_word bytes in
    elim (cases_lt n (length bytes)) [
      | inl inside ↦
          let split = slice_split_first is_blank bytes 0 inside in
          let next = words_from-part at bytes (front_word bytes) (after_first is_blank bytes) split some in
          let blank = passes_at_first is_blank bytes 0 inside in
          let skip = words_from-blank (at + n) (get_or bytes n 0) (drop (n + 1) bytes) blank in
          let rest : words_from (at + n) (drop n bytes) ≡ words_from (at + n + 1) (drop (n + 1) bytes) =
          ap (words_from (at + n)) (drop_more bytes n 0 inside) ∙ skip in
          rw len (next ∙ rw len (ap (λ ws. record { at = at; bytes = front_word bytes } ∷ ws) (sym rest)))
      | inr outside ↦
          let none = slice_split_none is_blank bytes (All-from_get_or (λ b. is_blank b ≡ false) bytes 0
          (λ i within. fails_before_first is_blank bytes i 0 (omega arith))) in
          let whole : front_word bytes ≡ bytes = take_all n bytes outside in
          let last = words_from-last at bytes (front_word bytes) (none ∙ ap (λ part. part ∷ []) (sym whole)) some in
          let empty : drop (length (front_word bytes)) bytes ≡ [] = drop_all (length (front_word bytes)) bytes (omega arith) in
          last ∙ ap (λ ws. record { at = at; bytes = front_word bytes } ∷ ws) (sym (ap (words_from (at + length (front_word bytes))) empty ∙ words_from-nil (at + length (front_word bytes))))
    ]

-- a blank at a place is passed over
pub words_at-blank : (bytes : List ℕ) (at : ℕ) → at < length bytes → is_blank (slice_index bytes at) ≡ true → words_at bytes at ≡ words_at bytes (at + 1)
words_at-blank bytes at inside blank =
    ap (words_from at) (drop_more bytes at 0 inside) ∙ words_from-blank at (get_or bytes at 0) (drop (at + 1) bytes) blank

-- no word stands at the end
pub words_at-end : (bytes : List ℕ) (at : ℕ) → at ≡ length bytes → words_at bytes at ≡ []
words_at-end bytes at end = ap (words_from at) (drop_all at bytes (omega arith)) ∙ words_from-nil at

-- the slice from a place on
pub slice_from : (bytes : List ℕ) (at : ℕ) → take (length bytes - at) (drop at bytes) ≡ drop at bytes
slice_from bytes at = take_all (length bytes - at) (drop at bytes) (omega (arith, length-drop at bytes))

-- where no blank stands, a word begins
pub front_some : (bytes : List ℕ) → 0 < length bytes → is_blank (get_or bytes 0 0) ≡ false → 0 < length (front_word bytes)
front_some [] some word = omega arith
front_some (b ∷ bytes) some word = grind (arith, length-front_word (b ∷ bytes))

-- that word and what comes after it
pub words_at-word : (bytes : List ℕ) (at : ℕ) → at < length bytes → is_blank (slice_index bytes at) ≡ false
    → words_at bytes at ≡ record { at = at; bytes = front_word (drop at bytes) } ∷ words_at bytes (at + length (front_word (drop at bytes)))
words_at-word bytes at inside word =
    let some = front_some (drop at bytes) (omega (arith, length-drop at bytes)) (ap is_blank (get_or-drop at bytes 0 0 ∙ ap (λ i. get_or bytes i 0) (add-zero at)) ∙ word) in
    words_from-front at (drop at bytes) some
    ∙ ap (λ rest. record { at = at; bytes = front_word (drop at bytes) } ∷ words_from (at + length (front_word (drop at bytes))) rest)
    (drop-drop (length (front_word (drop at bytes))) at bytes)

-- it lies within the text
pub word_within : (bytes : List ℕ) (at : ℕ) → at < length bytes → is_blank (slice_index bytes at) ≡ false
    → (at < at + length (front_word (drop at bytes))) × (at + length (front_word (drop at bytes)) ≤ length bytes)
word_within bytes at inside word =
    let some = front_some (drop at bytes) (omega (arith, length-drop at bytes)) (ap is_blank (get_or-drop at bytes 0 0 ∙ ap (λ i. get_or bytes i 0) (add-zero at)) ∙ word) in
    let most = prefix_len-le-length (λ b. not (is_blank b)) (drop at bytes) in
    (omega arith, omega (arith, length-front_word (drop at bytes), most, length-drop at bytes))
