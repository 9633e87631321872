-- The points that were lent are the file's.
use Rattle.std.specs.Prelude.{◌≡◌, Some}
use Rattle.std.proofs.Common.{ap, subst, ◌∙◌}
use Rattle.text_out.specs.Gathers.{Gathers}
use Rattle.stp_format.specs.Text.{coordinates_text}
use Rattle.stp_format.proofs.write.write_coordinates.Goals as goal

pub returns-in-Some : goal.returns-in-Some
returns-in-Some g c =
    let same : Some c.as_map.result.now.entries ≡ c.args.file.now.coordinates = ap Some c.as_map.ensures ∙ c.in-Some.ensures in
    subst (λ o. Gathers (g.S.Sink.state c.args.sink.now) c.args.block.now (coordinates_text o) (g.S.Sink.state c.write_points.new.sink) c.write_points.new.block)
    same c.write_points.ensures
