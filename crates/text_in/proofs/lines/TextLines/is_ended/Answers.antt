-- Nothing is left of a text exactly where it has the lines of the empty one.
use Rattle.std.specs.Prelude.{◌≡◌, []}
use Rattle.std.proofs.Common.{ap, sym, ◌∙◌}
use Rattle.std.proofs.lemmas.Bool.{eqb-true}
use Rattle.std.proofs.lemmas.List.{nil_from_length}
use Rattle.text_in.specs.Lines.{lines_of}
use Rattle.text_in.specs.LineLaws.{lines_of_one}
use Rattle.text_in.proofs.lines.TextLines.is_ended.Goals as goal

pub returns : goal.returns
returns c =
    let seen : lines_of c.self.inside.left.now ≡ c.args.self.now.lines = ap (λ t. t.lines) c.self.view_is in (
      λ none. sym seen ∙ ap lines_of (nil_from_length c.self.inside.left.now (eqb-true _ 0 (sym c.is_empty.ensures ∙ none))),
      λ same. c.is_empty.ensures ∙ (let none : c.self.inside.left.now ≡ [] = lines_of_one c.self.inside.left.now [] (seen ∙ same) in rw none),
    )
