use Rattle.std.proofs.Common.{length, false, refl, ap, ◌∙◌}
use Rattle.std.proofs.lemmas.List.{length-replicate}
use Rattle.answer_text.specs.Forms.{set_size}
use Rattle.answer_text.specs.declared.line.Stage.TheVariants as stage
use Rattle.answer_text.specs.Scanning.{first_scan}
use Rattle.answer_text.proofs.lemmas.Due.{zero_fits}
use Rattle.answer_text.proofs.lemmas.ReaderLaws.{reads_none}
use Rattle.answer_text.proofs.reader.EventReader.of_form.Goals as goal

pub returns : goal.returns
returns c = reads_none c.args.form _ c.requires.some refl refl c.requires.version (c.first_scan.ensures ∙ ap (λ v. first_scan c.args.form v stage.Title) c.requires.version) c.default.ensures
    (record { x1 = zero_fits; y1 = zero_fits; x2 = zero_fits; y2 = zero_fits }) refl refl (ap length c.requires.members ∙ length-replicate (set_size c.args.form) false)
