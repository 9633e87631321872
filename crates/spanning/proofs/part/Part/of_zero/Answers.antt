use Rattle.std.proofs.Common.{◌∙◌, ap, false, replicate}
use Rattle.spanning.proofs.lemmas.Growing.{IsPart-of_zero}
use Rattle.spanning.proofs.part.Part.of_zero.Goals as goal

pub returns : goal.returns
returns c =
    let inside = c.in_ok-inside.ensures ∙ ap (λ n. replicate n false) c.from.ensures in
    IsPart-of_zero c.args.n c.args.pairs.now c.add.new.self c.in_ok-chosen.chosen c.requires.some (rw inside at c.add.ensures) c.in_ok-chosen.ensures
