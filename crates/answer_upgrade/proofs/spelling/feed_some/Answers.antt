use Rattle.std.proofs.Math.Seq.{drop-cons}
use Rattle.std.proofs.lemmas.List.{append-nil, take_more}
use Rattle.std.proofs.Common.{◌≤◌, ◌++◌, take, drop, refl, arith}
use Rattle.std.proofs.lemmas.Result.{err_from_is_err_and}
use Rattle.answer_text.specs.declared.form.Form.TheVariants as form
use Rattle.answer_upgrade.proofs.StoppedBytes.{stands_for, stops_in}
use Rattle.answer_upgrade.proofs.spelling.feed_some.Goals as goal

pub returns-in_err-_event-clause-stops : goal.returns-in_err-_event-clause-stops
returns-in_err-_event-clause-stops c =
    let p = err_from_is_err_and c.from_residual.result c.from_residual.ensures.1 in
    rw (p.1, p.2) (λ V bytes reading.
    let (events, reads) = reading in
    let piece = c.args.piece.now in
    let n = c.feed_digits-digits.result in
    let none : n ≤ 0 = omega (arith, c.if-digits-gt0.false) in
    let before = c.feed_digits-digits.ensures.reads (form.OnGrid V) bytes events reads in
    let stops = (c.in_err-_event.ensures.ceases (form.OnGrid V) (bytes ++ take n piece) events before).stops (drop 1 piece) in
    stops_in V _ _ _ _ _ (grind (arith, append-nil bytes, drop-cons piece 0 0 c.requires.some)) refl stops)

pub returns-clause-reads : goal.returns-clause-reads
returns-clause-reads c = λ V bytes reading.
    let (events, reads) = reading in
    let piece = c.args.piece.now in
    let n = c.feed_digits-digits.result in
    let none : n ≤ 0 = omega (arith, c.if-digits-gt0.false) in
    let before = c.feed_digits-digits.ensures.reads (form.OnGrid V) bytes events reads in
    let more = c.in_ok-_event.ensures.reads (form.OnGrid V) (bytes ++ take n piece) events before in
    stands_for V _ _ _ _ (grind (arith, append-nil bytes, take_more piece 0 0 c.requires.some)) more
