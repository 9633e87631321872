-- What stands at the first word, or that there is none.
use Rattle.std.specs.Prelude.{ℕ, ◌≡◌, ◌≢◌, ◌<◌, ◌≤◌, false, List, length, FitsSigned}
use Rattle.std.specs.Int.{w64}
use Rattle.std.proofs.Common.{arith, refl, sym, subst, ◌∙◌}
use Rattle.std.proofs.lemmas.Int.{to_z-of_z}
use Rattle.std.specs.List.{slice_index}
use Rattle.points_in.specs.Words.{is_blank}
use Rattle.points_in.specs.Reading.{words_at}
use Rattle.points_in.proofs.lemmas.Words.{words_at-end}
use Rattle.points_in.proofs.lemmas.Steps.{BeginsWord, takes_number, stops_at_bad, stops_at_large}
use Rattle.points_in.proofs.read.next_number.Goals as goal

pub returns-then-start-bytes : goal.returns-then-start-bytes
returns-then-start-bytes c =
    c.next_word-start.ensures.words ∙ words_at-end c.args.bytes.now c.next_word-start.result (omega arith)

-- a word begins where the blanks end
begins_at : (bytes : List ℕ) (at start : ℕ) → at ≤ start → start ≤ length bytes → start ≢ length bytes
    → (start < length bytes → is_blank (slice_index bytes start) ≡ false) → words_at bytes at ≡ words_at bytes start → BeginsWord bytes at start
begins_at bytes at start onward within inside word words =
    let below : start < length bytes = omega arith in
    record { words = words; onward = onward; inside = below; word = word below }

pub returns-in-Ok : goal.returns-in-Ok
returns-in-Ok c =
    grind (arith, takes_number, to_z-of_z w64 c.in-Ok.front.value (subst (FitsSigned w64) (sym c.in-Ok.ensures.value) c.in-Ok.ensures.number.fits))

pub returns-in-Err-NotNumber : goal.returns-in-Err-NotNumber
returns-in-Err-NotNumber c = grind (arith, stops_at_bad)

pub returns-in-Err-TooLarge : goal.returns-in-Err-TooLarge
returns-in-Err-TooLarge c =
    let start = c.next_word-start.ensures in
    let begins = begins_at c.args.bytes.now c.args.at c.next_word-start.result start.onward start.within c.if-start-bytes.false start.word start.words in
    let ensures = rw c.in-Err-TooLarge.field-0-is at c.in-Err-TooLarge.ensures in
    stops_at_large c.args.bytes.now c.args.at c.next_word-start.result begins (ensures.large_number refl) (ensures.too_large refl)
