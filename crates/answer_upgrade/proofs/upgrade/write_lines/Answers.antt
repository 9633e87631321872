use Rattle.std.proofs.Common.{◌++◌, ◌∷◌, [], length, refl, ap, arith, length-append}
use Rattle.text_out.specs.GatherLaws.{gathers_nothing, gathers_two}
use Rattle.answer_upgrade.proofs.UpgradedLines.{next_line, done_more, text_more, none_left, all_done}
use Rattle.answer_text.specs.declared.form.Form.TheVariants as form
use Rattle.answer_upgrade.proofs.upgrade.write_lines.Goals as goal

pub lines-init : goal.lines-init
lines-init g c = λ v V ls fits text. (record { done = []; left = ls; version = v; parts = refl; fits = fits; text = text }, gathers_nothing _ _)

pub lines-smaller : goal.lines-smaller
lines-smaller g c = omega (arith, ap length c.in-Some.ensures.parts, length-append c.in-Some.line.now (10 ∷ c.in-Some.left.now))

pub lines-preserved : goal.lines-preserved
lines-preserved g c = λ v V ls fits text.
    let (passed, gathers) = c.lines.invariant v V ls fits text in
    let next = next_line passed.version (form.OnGrid V) passed.left c.lines.rest.now c.in-Some.line.now c.in-Some.left.now c.lines_fit.ensures.lines passed.fits passed.text c.in-Some.ensures.parts c.in-Some.ensures.line in (
      record {
        done = passed.done ++ next.here ∷ [];
        left = next.behind;
        version = next.version;
        parts = done_more passed.done passed.left next.behind next.here ls passed.parts next.parts;
        fits = next.fits_behind;
        text = next.text;
      },
      gathers_two _ _ _ _ _ _ _ _ _ gathers (c.write_line.ensures next.version V next.here next.fits next.told) (text_more passed.done next.here),
    )

pub returns : goal.returns
returns g c = λ v V ls fits text.
    let (passed, gathers) = c.lines.invariant v V ls fits text in
    let none = none_left passed.left c.lines.rest.now passed.text c.in_default.ensures.none in
    rw (all_done passed.done passed.left ls passed.parts none) at gathers
