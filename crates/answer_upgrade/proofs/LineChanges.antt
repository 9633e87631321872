-- Which lines begin how, and what becomes of them.
use Rattle.std.proofs.Common.{ℕ, suc, zero, ◌≡◌, ◌≢◌, ◌<◌, ◌≤◌, ℤ, pos, negsuc, true, false, List, [], ◌∷◌, ◌++◌, length, get_or, drop, refl, arith, length-append}
use Rattle.std.specs.Prelude.{All, codes, ◌^◌, FitsSigned}
use Rattle.std.specs.Int.{w64}
use Rattle.std.specs.Fmt.{decimal, signed_decimal}
use Rattle.std.proofs.lemmas.Fmt.{decimal_is_IsNumeral}
use Rattle.std.proofs.lemmas.Str.Parse.{digit_at}
use Rattle.std.proofs.lemmas.List.Elements.{All-from_get_or, All-head, All-tail, All-cons, All-nil, All-append}
use Rattle.text_in.specs.Numbers.{signed_decimal_nonempty}
use Rattle.hanan_grid.specs.declared.name.EdgeName.{EdgeName}
use Rattle.answer_text.specs.declared.form.Form.TheVariants as form
use Rattle.answer_text.specs.declared.label.EdgeLabel.TheVariants as edge
use Rattle.answer_text.specs.declared.version.Version.{Version}
use Rattle.answer_text.specs.declared.version.Version.TheVariants as version
use Rattle.answer_text.specs.AnswerLine.{Line}
use Rattle.answer_text.specs.LineKinds as line
use Rattle.answer_text.specs.LineFits.{FitsLine}
use Rattle.answer_text.specs.Lines.{line_bytes}
use Rattle.answer_text.specs.Spelling.{FitsName}
use Rattle.answer_text.specs.Words.{name_words}
use Rattle.answer_upgrade.specs.declared.change.Change.TheVariants as change
use Rattle.answer_upgrade.specs.Upgraded.{change_of, upgraded_line}

-- ---- the bytes of a name

-- digits, blanks and a minus: bytes up to those of the digits
decimal-low : (n : ℕ) → n < 2 ^ 64 → All (λ b. b < 58) (decimal n)
decimal-low n fits = All-from_get_or (λ b. b < 58) (decimal n) 0
    (λ i inside. let digit = digit_at (decimal n) i ((decimal_is_IsNumeral n fits).0.1) inside in omega arith)

signed-low : (z : ℤ) → FitsSigned w64 z → All (λ b. b < 58) (signed_decimal z)
signed-low (pos n) fits = decimal-low n (let below = fits.sfits in omega arith)
signed-low (negsuc n) fits = All-cons (λ b. b < 58) 45 (decimal (suc n)) (omega arith) (decimal-low (suc n) (let below = fits.sfits in omega arith))

both-low : (xs ys : List ℕ) → All (λ b. b < 58) xs → All (λ b. b < 58) ys → All (λ b. b < 58) (xs ++ ys)
both-low xs ys p q = All-append (λ b. b < 58) xs ys p q

blank-low : All (λ b. b < 58) (codes " ")
blank-low = All-cons (λ b. b < 58) 32 [] (omega arith) (All-nil (λ b. b < 58))

name-low : (e : EdgeName) → FitsName e → All (λ b. b < 58) (name_words e)
name-low e f =
    both-low _ (signed_decimal e.y2) (both-low _ (codes " ") (both-low _ (signed_decimal e.x2) (both-low _ (codes " ") (both-low _ (signed_decimal e.y1) (both-low _ (codes " ")
    (signed-low e.x1 f.x1) blank-low) (signed-low e.y1 f.y1)) blank-low) (signed-low e.x2 f.x2)) blank-low) (signed-low e.y2 f.y2)

low_at : (xs : List ℕ) (i : ℕ) → All (λ b. b < 58) xs → get_or xs i 0 < 58
low_at [] i all = omega arith
low_at (x ∷ xs) zero all = All-head (λ b. b < 58) x xs all
low_at (x ∷ xs) (suc i) all = low_at xs i (All-tail (λ b. b < 58) x xs all)

-- the byte of a name at a place
name_at : (e : EdgeName) (i : ℕ) → FitsName e → get_or (name_words e) i 0 < 58
name_at e i f = low_at (name_words e) i (name-low e f)

-- ---- which change a line takes

-- two numbers that are not the same
apart : (a b : ℕ) → a ≢ b → a ≡ b → ⊥
apart a b other same = other same

above : (a : ℕ) → 57 < a → a ≤ 57 → ⊥
above a high low = omega arith

-- the title and a split of version 1 are longer
pub short_line : (v : Version) (V : ℕ) (l : Line) → FitsLine v (form.OnGrid V) l → length (line_bytes l) < 7 → change.Stays ≡ change_of l
short_line v V (line.Title version.One) f short = absurd (omega arith)
short_line v V (line.Title version.Two) f short = absurd (omega arith)
short_line v V (line.Title version.Graph) f short = absurd f.1
short_line v V (line.Split (edge.Ends e)) f short = absurd (omega (arith, length-append (codes "split ") (name_words e), length-append (signed_decimal e.x1 ++ codes " " ++ signed_decimal e.y1 ++ codes " " ++ signed_decimal e.x2 ++ codes " ") (signed_decimal e.y2), signed_decimal_nonempty e.y2 f.1.y2))
short_line v V (line.Split (edge.Number n)) f short = absurd f.1
short_line v V l f short = refl

-- the title alone begins with an r
pub title_line : (v : Version) (V : ℕ) (l : Line) → FitsLine v (form.OnGrid V) l → get_or (line_bytes l) 0 0 ≡ 114 → change.Title ≡ change_of l
title_line v V (line.Title w) f first = refl
title_line v V (line.Length n) f first = absurd (apart 108 114 (omega arith) first)
title_line v V (line.Bound n) f first = absurd (apart 98 114 (omega arith) first)
title_line v V (line.Status true) f first = absurd (apart 115 114 (omega arith) first)
title_line v V (line.Status false) f first = absurd (apart 115 114 (omega arith) first)
title_line v V (line.Openings n) f first = absurd (apart 111 114 (omega arith) first)
title_line v V (line.LastOpenings n) f first = absurd f.0
title_line v V (line.Concat c) f first = absurd (apart 99 114 (omega arith) first)
title_line v V (line.Count n) f first = absurd (apart 101 114 (omega arith) first)
title_line v V (line.Edge (edge.Ends e)) f first = let low = name_at e 0 f in absurd (omega arith)
title_line v V (line.Edge (edge.Number n)) f first = absurd f
title_line v V line.Tree f first = absurd (apart 116 114 (omega arith) first)
title_line v V (line.Split e) f first = absurd (apart 115 114 (omega arith) first)
title_line v V (line.SplitEdge e) f first = absurd (apart 115 114 (omega arith) first)
title_line v V (line.SplitVertex p) f first = absurd (apart 115 114 (omega arith) first)
title_line v V (line.Leaf n) f first = absurd (apart 108 114 (omega arith) first)
title_line v V (line.Cut c) f first = absurd (apart 99 114 (omega arith) first)
title_line v V line.End f first = absurd (apart 101 114 (omega arith) first)

-- another line whose fourth byte is no i is no split
pub other_line : (v : Version) (V : ℕ) (l : Line) → FitsLine v (form.OnGrid V) l → (get_or (line_bytes l) 0 0 ≡ 114 → ⊥) → (get_or (line_bytes l) 3 0 ≡ 105 → ⊥) → change.Stays ≡ change_of l
other_line v V (line.Title version.One) f first fourth = absurd (first refl)
other_line v V (line.Title version.Two) f first fourth = absurd (first refl)
other_line v V (line.Title version.Graph) f first fourth = absurd (first refl)
other_line v V (line.Split e) f first fourth = absurd (fourth refl)
other_line v V l f first fourth = refl

-- a split whose seventh byte is one of a number is of version 1
pub bare_line : (v : Version) (V : ℕ) (l : Line) → FitsLine v (form.OnGrid V) l → get_or (line_bytes l) 3 0 ≡ 105 → get_or (line_bytes l) 6 0 ≤ 57 → change.Split ≡ change_of l
bare_line v V (line.Title version.One) f fourth behind = absurd (apart 32 105 (omega arith) fourth)
bare_line v V (line.Title version.Two) f fourth behind = absurd (apart 32 105 (omega arith) fourth)
bare_line v V (line.Title version.Graph) f fourth behind = absurd (apart 32 105 (omega arith) fourth)
bare_line v V (line.Length n) f fourth behind = absurd (apart 103 105 (omega arith) fourth)
bare_line v V (line.Bound n) f fourth behind = absurd (apart 110 105 (omega arith) fourth)
bare_line v V (line.Status true) f fourth behind = absurd (apart 116 105 (omega arith) fourth)
bare_line v V (line.Status false) f fourth behind = absurd (apart 116 105 (omega arith) fourth)
bare_line v V (line.Openings n) f fourth behind = absurd (apart 110 105 (omega arith) fourth)
bare_line v V (line.LastOpenings n) f fourth behind = absurd f.0
bare_line v V (line.Concat c) f fourth behind = absurd (apart 99 105 (omega arith) fourth)
bare_line v V (line.Count n) f fourth behind = absurd (apart 101 105 (omega arith) fourth)
bare_line v V (line.Edge (edge.Ends e)) f fourth behind = let low = name_at e 3 f in absurd (omega arith)
bare_line v V (line.Edge (edge.Number n)) f fourth behind = absurd f
bare_line v V line.Tree f fourth behind = absurd (apart 101 105 (omega arith) fourth)
bare_line v V (line.Split e) f fourth behind = refl
bare_line v V (line.SplitEdge e) f fourth behind = absurd (above 101 (omega arith) behind)
bare_line v V (line.SplitVertex p) f fourth behind = absurd (above 118 (omega arith) behind)
bare_line v V (line.Leaf n) f fourth behind = absurd (apart 102 105 (omega arith) fourth)
bare_line v V (line.Cut c) f fourth behind = absurd (apart 32 105 (omega arith) fourth)
bare_line v V line.End f fourth behind = absurd (apart 0 105 (omega arith) fourth)

-- a line whose seventh byte is past those of numbers is no split of version 1
pub named_line : (v : Version) (V : ℕ) (l : Line) → FitsLine v (form.OnGrid V) l → (get_or (line_bytes l) 0 0 ≡ 114 → ⊥) → (get_or (line_bytes l) 6 0 ≤ 57 → ⊥) → change.Stays ≡ change_of l
named_line v V (line.Title version.One) f first behind = absurd (first refl)
named_line v V (line.Title version.Two) f first behind = absurd (first refl)
named_line v V (line.Title version.Graph) f first behind = absurd (first refl)
named_line v V (line.Split (edge.Ends e)) f first behind = let low = name_at e 0 f.1 in absurd (behind (omega arith))
named_line v V (line.Split (edge.Number n)) f first behind = absurd f.1
named_line v V l f first behind = refl

-- ---- what a line becomes

pub becomes_title : (l : Line) → change.Title ≡ change_of l → line_bytes (upgraded_line l) ≡ codes "rst answer 2"
becomes_title (line.Title v) is = refl
becomes_title l is = absurd cc

pub becomes_split : (l : Line) → change.Split ≡ change_of l → line_bytes (upgraded_line l) ≡ codes "split edge " ++ drop 6 (line_bytes l)
becomes_split (line.Split e) is = refl
becomes_split l is = absurd cc

pub stays : (l : Line) → change.Stays ≡ change_of l → line_bytes (upgraded_line l) ≡ line_bytes l
stays (line.Title v) is = absurd cc
stays (line.Split e) is = absurd cc
stays l is = refl
