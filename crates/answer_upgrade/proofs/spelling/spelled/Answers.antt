use Rattle.std.proofs.Common.{◌≡◌, ◌-◌, ◌++◌, [], length, take, drop, true, sym, ap, subst, ◌∙◌, arith, length-append}
use Rattle.std.specs.Prelude.{◌==◌}
use Rattle.std.proofs.lemmas.Bool.Decides.{nat_tests}
use Rattle.std.proofs.lemmas.List.{append-nil, length-take-le, nil_from_length}
use Rattle.rst_outside.specs.FedLaws.{moved_on}
use Rattle.answer_text.specs.declared.form.Form.TheVariants as form
use Rattle.answer_text.specs.Spelling.{SpellsAnswer}
use Rattle.answer_upgrade.specs.Spelling.{Stops}
use Rattle.answer_upgrade.proofs.StoppedBytes.{stops_in}
use Rattle.answer_upgrade.proofs.spelling.spelled.Goals as goal

pub loop-rest-preserved : goal.loop-rest-preserved
loop-rest-preserved c =
    let (front, parts, reading) = c.loop-rest.invariant.reads in
    let rest = c.loop-rest.rest.now in
    let n = c.in-Ok.taken in
    let left = take (length rest - n) (drop n rest) in
    record {
      fed = omega (
        arith,
        ap length (moved_on [] rest n),
        length-append (take n rest) left,
        length-take-le n rest c.in-Ok.ensures.few,
        c.in-Ok.ensures.fed,
        c.loop-rest.invariant.fed,
      );
      reads = (front ++ take n rest, parts ∙ moved_on front rest n, c.in-Ok.ensures.reads c.args.vertices front reading);
    }

pub returns-in-Err : goal.returns-in-Err
returns-in-Err c =
    let (front, parts, reading) = c.loop-rest.invariant.reads in
    subst (λ x. Stops c.args.vertices x c.in-Err.fault.line) (sym parts) (c.in-Err.ensures.stops c.args.vertices front reading)

pub version-requires : goal.version-requires
version-requires c =
    let (front, parts, reading) = c.loop-rest.invariant.reads in
    c.ended.ensures.headed c.if-ended.true (form.OnGrid c.args.vertices) front reading.0 reading.1

pub returns-then-ended : goal.returns-then-ended
returns-then-ended c =
    let (front, parts, reading) = c.loop-rest.invariant.reads in
    let rest = c.loop-rest.rest.now in
    let test : (length rest == 0) ≡ true = sym c.is_empty.ensures ∙ c.loop-rest-test.false in
    let none : length rest ≡ 0 = grind (arith, nat_tests) in
    let all : front ≡ c.args.bytes.now = sym (parts ∙ ap (λ x. front ++ x) (nil_from_length rest none) ∙ append-nil front) in
    let whole = c.if-ended.ensures.reads (form.OnGrid c.args.vertices) front reading.0 reading.1 in
    let told = c.version.ensures (form.OnGrid c.args.vertices) front reading.0 reading.1 [] whole.answer (subst (λ x. SpellsAnswer (form.OnGrid c.args.vertices) x whole.answer) (sym (append-nil front)) whole.spells) in
    (whole.answer, subst (λ x. SpellsAnswer (form.OnGrid c.args.vertices) x whole.answer) all whole.spells, told)

pub returns : goal.returns
returns c =
    grind (arith, nat_tests, nil_from_length, append-nil, stops_in, c.loop-rest.invariant.reads, c.loop-rest.rest.now, c.is_empty.ensures, c.loop-rest-test.false, c.if-ended.ensures.reads, c.line-line.ensures.line)
