use Rattle.std.proofs.Common.{◌≡◌, Ok, Err, sym, ◌∙◌}
use Rattle.point_tools.proofs.stp_points.located_has_no_fault.Goals as goal

pub returns : goal.returns
returns c = λ bytes points fault located (due, told). let same : Ok points ≡ Err fault = sym located ∙ due in absurd cc
