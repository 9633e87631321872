use Rattle.std.proofs.Common.{ℕ, ◌≡◌, ◌+◌, ◌*◌, ◌/◌, ◌<◌, length, get_or, arith, ◌∙◌}
use Rattle.std.proofs.lemmas.Grind.{div_ceil_times}
use Rattle.std.proofs.lemmas.Option.{slice_get_within, get_or_from_slice_get}
use Rattle.text_out.specs.GatherLaws.{gathers_two}
use Rattle.answer_text.specs.SetLaws.{digit_at_place, digit_in_word, digit_count, take_set_text-all}
use Rattle.answer_text.proofs.lemmas.SetDigits.{take_set_text-word}
use Rattle.answer_text.proofs.write.write_set.Goals as goal

pub loop-place-preserved : goal.loop-place-preserved
loop-place-preserved g c =
    let total : c.div_ceil-total.result ≡ (length c.args.set.now + 3) / 4 =
    c.div_ceil-total.ensures ∙ rw c.len.ensures (digit_count (length c.args.set.now)) in
    let inside : 64 * c.loop-place.place < length c.args.set.now =
    omega (arith, c.loop-place-test.true, c.div_ceil-place-end.ensures, c.len-2.ensures, div_ceil_times c.len-2.result 64 (omega arith)) in
    let digits : (n : ℕ) → n < 16 → get_or c.digits_of-digits.result n 0 ≡ digit_at_place c.args.set.now (16 * c.loop-place.place + n) =
    (λ n few. get_or_from_slice_get c.digits_of-digits.result n (digit_in_word c.flags_at.result n) 0 (c.digits_of-digits.ensures n few)
    ∙ (grind arith)) in
    let enough : 15 < length c.digits_of-digits.result =
    slice_get_within c.digits_of-digits.result 15 (digit_in_word c.flags_at.result 15) (c.digits_of-digits.ensures 15 (omega arith)) in
    let more = take_set_text-word c.args.set.now c.digits_of-digits.result c.loop-place.place c.min-count.result
    (omega (arith, inside)) (rw (← total) c.min-count.ensures) enough digits in
    gathers_two _ _ _ _ _ _ _ _ _ c.loop-place.invariant c.literal.ensures more

pub returns : goal.returns
returns g c = grind (arith, div_ceil_times, take_set_text-all)
