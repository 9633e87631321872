-- The two parts are the text.
use Rattle.std.specs.Prelude.{◌≡◌, ◌++◌}
use Rattle.std.proofs.Common.{sym, subst, ap, ◌∙◌}
use Rattle.rst_outside.specs.Sink.{Writes}
use Rattle.fst_file.specs.Pieces.{points_part, trees_part}
use Rattle.fst_file.proofs.lemmas.Written.{fst_text-pieces}
use Rattle.fst_file.proofs.write.write_file.Goals as goal

pub returns : goal.returns
returns g c =
    let ps : c.as_slice.result.now ≡ c.args.file.now.points = c.as_slice.ensures ∙ c.points.ensures ∙ ap (λ v. v.points) c.file.view_is in
    let ts : c.as_slice-2.result.now ≡ c.args.file.now.trees = c.as_slice-2.ensures ∙ ap (λ v. v.trees) c.file.view_is in
    subst (λ t. Writes (g.S.Sink.state c.args.sink.now) t (g.S.Sink.state c.write_parts.new.sink) c.write_parts.result)
    (ap (λ x. points_part x ++ trees_part c.as_slice-2.result.now) ps ∙ ap (λ y. points_part c.args.file.now.points ++ trees_part y) ts
    ∙ sym (fst_text-pieces c.args.file.now)) c.write_parts.ensures
