-- A text is its lines and a line its words: cutting and joining undo each other.
use Rattle.std.specs.Prelude.{ℕ, ◌==◌, ◌≡◌, ◌≢◌, ◌<◌, Bool, false, List, [], ◌∷◌, ◌++◌, length, map, All}
use Rattle.std.specs.List.{slice_split, join_with_byte, AllByRecursion}
use Rattle.std.proofs.Common.{arith, refl, ap, sym, ◌∙◌}
use Rattle.std.proofs.lemmas.Bool.{eqb-true, false_from_ne_true}
use Rattle.std.proofs.lemmas.List.{append_assoc, length-map}
use Rattle.std.proofs.lemmas.List.Elements.{All-weaker, All-append, All-cons}
use Rattle.std.proofs.lemmas.List.Splits.{slice_split_none, slice_split_at, length-slice_split, join_with_byte-slice_split}
use Rattle.text_in.specs.Words.{Lacks, IsLine, IsWord}
use Rattle.text_in.specs.Lines.{words_of, lines_of, text_of, IsLineOfWords}

-- no byte is the separator, as the test tells
other_bytes : (separator : ℕ) (bytes : List ℕ) → Lacks bytes separator → All (λ b. (b == separator) ≡ false) bytes
other_bytes separator bytes lacks =
    All-weaker (λ b. b ≢ separator) (λ b. (b == separator) ≡ false)
    (λ b other. false_from_ne_true (b == separator) (λ same. other (eqb-true b separator same))) bytes lacks

-- cutting gives a part at least
pub parts_some : (p : ℕ → Bool) (bytes : List ℕ) → 0 < length (slice_split p bytes)
parts_some p bytes = omega (arith, length-slice_split p bytes)

-- and the parts determine what was cut
pub parts_one : (separator : ℕ) (a b : List ℕ) →
    slice_split (λ x. x == separator) a ≡ slice_split (λ x. x == separator) b → a ≡ b
parts_one separator a b e =
    sym (join_with_byte-slice_split separator a) ∙ ap (join_with_byte separator) e
    ∙ join_with_byte-slice_split separator b

-- a line has a word
pub words_some : (line : List ℕ) → 0 < length (words_of line)
words_some line = parts_some (λ b. b == 32) line

-- two lines with the same words are the same
pub words_of_one : (a b : List ℕ) → words_of a ≡ words_of b → a ≡ b
words_of_one = parts_one 32

-- the first word, and those behind the first blank
pub words_of-at : (word left : List ℕ) → Lacks word 32 → words_of (word ++ 32 ∷ left) ≡ word ∷ words_of left
words_of-at word left lacks = slice_split_at (λ b. b == 32) word 32 left (other_bytes 32 word lacks) refl

-- a line without a blank is a word
pub words_of-none : (word : List ℕ) → Lacks word 32 → words_of word ≡ word ∷ []
words_of-none word lacks = slice_split_none (λ b. b == 32) word (other_bytes 32 word lacks)

-- the first line, and those behind the first line feed
pub lines_of-at : (line left : List ℕ) → IsLine line → lines_of (line ++ 10 ∷ left) ≡ words_of line ∷ lines_of left
lines_of-at line left lacks =
    ap (map words_of) (slice_split_at (λ b. b == 10) line 10 left (other_bytes 10 line lacks) refl)

-- bytes without a line feed are the last line
pub lines_of-none : (line : List ℕ) → IsLine line → lines_of line ≡ words_of line ∷ []
lines_of-none line lacks = ap (map words_of) (slice_split_none (λ b. b == 10) line (other_bytes 10 line lacks))

-- the words determine the lines
lines_one : (a b : List (List ℕ)) → map words_of a ≡ map words_of b → a ≡ b
lines_one [] [] e = refl
lines_one [] (y ∷ b) e = cc
lines_one (x ∷ a) [] e = cc
lines_one (x ∷ a) (y ∷ b) e =
    let first : words_of x ≡ words_of y = cc in
    let others : map words_of a ≡ map words_of b = cc in
    cc (words_of_one x y first, lines_one a b others)

-- two texts with the same lines are the same
pub lines_of_one : (a b : List ℕ) → lines_of a ≡ lines_of b → a ≡ b
lines_of_one a b e = parts_one 10 a b (lines_one (slice_split (λ x. x == 10) a) (slice_split (λ x. x == 10) b) e)

-- a text has a line at least
pub lines_some : (text : List ℕ) → 0 < length (lines_of text)
lines_some text =
    omega (arith, length-map (slice_split (λ b. b == 10) text) words_of, parts_some (λ b. b == 10) text)

-- the words that were joined
words_of-joined : (w : List ℕ) (words : List (List ℕ)) → IsWord w → AllByRecursion IsWord words
    → words_of (join_with_byte 32 (w ∷ words)) ≡ w ∷ words
words_of-joined w [] is are = words_of-none w is.no_blank
words_of-joined w (v ∷ words) is are =
    words_of-at w (join_with_byte 32 (v ∷ words)) is.no_blank ∙ ap (λ ws. w ∷ ws) (words_of-joined v words are.0 are.1)

pub words_of-join : (words : List (List ℕ)) → IsLineOfWords words → words_of (join_with_byte 32 words) ≡ words
words_of-join [] are = absurd (let some = are.0 in omega arith)
words_of-join (w ∷ words) are = words_of-joined w words are.1.0 are.1.1

-- no line feed stands among joined words
joined-lacks : (w : List ℕ) (words : List (List ℕ)) → IsWord w → AllByRecursion IsWord words →
    IsLine (join_with_byte 32 (w ∷ words))
joined-lacks w [] is are = is.no_line_feed
joined-lacks w (v ∷ words) is are =
    All-append (λ b. b ≢ 10) w (32 ∷ join_with_byte 32 (v ∷ words)) is.no_line_feed
    (All-cons (λ b. b ≢ 10) 32 (join_with_byte 32 (v ∷ words)) (omega arith) (joined-lacks v words are.0 are.1))

join-lacks : (words : List (List ℕ)) → IsLineOfWords words → IsLine (join_with_byte 32 words)
join-lacks [] are = absurd (let some = are.0 in omega arith)
join-lacks (w ∷ words) are = joined-lacks w words are.1.0 are.1.1

-- the lines that were written, and those of what follows
pub lines_of-text_of : (lines : List (List (List ℕ))) (rest : List ℕ) → AllByRecursion IsLineOfWords lines
    → lines_of (text_of lines ++ rest) ≡ lines ++ lines_of rest
lines_of-text_of [] rest are = refl
lines_of-text_of (l ∷ lines) rest are =
    let line = join_with_byte 32 l in
    let regrouped : (line ++ 10 ∷ []) ++ text_of lines ++ rest ≡ line ++ 10 ∷ (text_of lines ++ rest) =
    simp append_assoc in
    ap lines_of regrouped ∙ lines_of-at line (text_of lines ++ rest) (join-lacks l are.0)
    ∙ cc (words_of-join l are.0, lines_of-text_of lines rest are.1)
