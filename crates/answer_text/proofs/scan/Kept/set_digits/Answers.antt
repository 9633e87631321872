use Rattle.std.proofs.Common.{◌≡◌, ◌+◌, ◌<◌, length, take, get_or, refl, sym, subst, arith}
use Rattle.std.proofs.lemmas.List.{take_more}
use Rattle.answer_text.specs.declared.scan.Kept.{Kept}
use Rattle.answer_text.specs.declared.scan.Scan.TheVariants as scan
use Rattle.answer_text.specs.Scanning.{IsRun}
use Rattle.answer_text.proofs.lemmas.ScanSets.{TakesDigit}
use Rattle.answer_text.proofs.lemmas.SetRuns.{run_more}
use Rattle.answer_text.proofs.scan.Kept.set_digits.Goals as goal

pub loop-taken-init : goal.loop-taken-init
loop-taken-init c = grind arith

pub add_four-requires-clause-within : goal.add_four-requires-clause-within
add_four-requires-clause-within c = grind arith

pub add_four-requires-clause-told : goal.add_four-requires-clause-told
add_four-requires-clause-told c r below is = grind arith

pub loop-taken-preserved : goal.loop-taken-preserved
loop-taken-preserved c =
    let piece = c.args.piece.now in
    let i = c.loop-taken.taken in
    let place = c.args.place + i in
    let old : Kept = c.loop-taken.self in
    let next : Kept = record c.loop-taken.self { members = c.add_four.new.self } in
    let whole : length old.members ≡ length c.args.self.now.members = c.loop-taken.invariant.size in
    record {
      run = λ sound name.
          let run = c.loop-taken.invariant.run sound name in
          let digit = c.in-Some.ensures.digit in
          let takes : TakesDigit old next place c.in-Some.value (get_or piece i 0) = record {
            few = digit.0;
            digit = digit.1;
            inside = omega (arith, c.min-most.ensures, c.saturating_sub-whole.ensures, c.len.ensures, whole);
            size = c.add_four.ensures.size;
            flags = c.add_four.ensures.flags;
            weight = refl;
            later = run.sound.3;
          } in
          let first = scan.Set c.args.place in
          let there = c.args.place + (i + 1) in
          let within : i < length piece = omega (arith, c.loop-taken-test.true, c.min-most.ensures) in
          let more = run_more c.args.self.now old next first (take i piece) place there c.in-Some.value (get_or piece i 0)
          run takes (omega arith) refl refl refl in
          subst (λ xs. IsRun c.args.self.now first xs next (scan.Set there)) (sym (take_more piece i 0 within)) more;
      stage = c.loop-taken.invariant.stage;
      size = omega (arith, c.add_four.ensures.size, c.loop-taken.invariant.size);
    }
