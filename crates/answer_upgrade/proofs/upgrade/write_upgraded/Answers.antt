use Rattle.std.proofs.Common.{map, ap, subst}
use Rattle.text_out.specs.Gathers.{Gathers}
use Rattle.answer_upgrade.specs.Upgraded.{upgraded_line}
use Rattle.text_out.specs.GatherLaws.{writes_one}
use Rattle.answer_text.specs.declared.form.Form.TheVariants as form
use Rattle.answer_text.specs.declared.version.Version.TheVariants as version
use Rattle.answer_text.specs.Lines.{answer_lines, lines_text}
use Rattle.answer_upgrade.proofs.UpgradedLines.{answer_becomes}
use Rattle.answer_upgrade.proofs.upgrade.write_upgraded.Goals as goal

pub returns : goal.returns
returns g c = λ answer spells.
    let fits = c.lines_fit.ensures.fit version.One (form.OnGrid c.args.vertices) c.args.bytes.now answer spells in
    let gathers = c.write_lines.ensures version.One c.args.vertices (answer_lines answer) fits spells.spelled in
    let from_nothing = subst (λ b. Gathers (g.S.Sink.state c.args.sink.now) b (lines_text (map upgraded_line (answer_lines answer))) (g.S.Sink.state c.write_lines.new.sink) c.write_lines.new.block) c.new-block.ensures gathers in
    writes_one _ _ _ _ _ _ _ from_nothing c.finish.ensures (ap lines_text (answer_becomes c.args.vertices answer spells.fits.version))
