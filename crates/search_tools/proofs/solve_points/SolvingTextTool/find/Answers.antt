-- What was found of the points that the text lists is due to the text.
use Rattle.std.proofs.Common.{subst}
use Rattle.tool_frame.specs.Points.{ReadsGrid}
use Rattle.tool_frame.specs.Stops.{IfFound}
use Rattle.search_tools.proofs.SearchLaws.{solved_due}
use Rattle.search_tools.proofs.solve_points.SolvingTextTool.find.Goals as goal

pub returns-clause-finds : goal.returns-clause-finds
returns-clause-finds c =
    solved_due c.args.self.now.options c.args.self.now.k c.args.bytes.now c.in_ok-grid.grid c.solved_on.result
    (subst (λ r. IfFound r (ReadsGrid c.args.bytes.now)) c.in_ok-grid.ensures c.grid_in.ensures) c.solved_on.ensures
