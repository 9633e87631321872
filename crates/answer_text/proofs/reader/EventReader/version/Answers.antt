use Rattle.std.proofs.Common.{◌≡◌, sym, ap, ◌∙◌, ⊎_elim}
use Rattle.answer_text.specs.declared.version.Version.TheVariants as version
use Rattle.answer_text.specs.Words.{version_number}
use Rattle.answer_text.proofs.lemmas.ReaderLaws.{version_told}
use Rattle.answer_text.proofs.reader.EventReader.version.Goals as goal

pub returns-in-One : goal.returns-in-One
returns-in-One c = λ F bytes events reads rest answer spells.
    let told = version_told F bytes events c.args.self.now reads c.requires rest answer spells in
    ⊎_elim (λ (one : c.args.self.now.kept.version ≡ version.One). sym (ap version_number one) ∙ told)
    (λ (graph : c.args.self.now.kept.version ≡ version.Graph). sym (ap version_number graph) ∙ told) c.in-One.is

pub returns-in-Two : goal.returns-in-Two
returns-in-Two c = λ F bytes events reads rest answer spells.
    sym (ap version_number c.in-Two.is) ∙ version_told F bytes events c.args.self.now reads c.requires rest answer spells
