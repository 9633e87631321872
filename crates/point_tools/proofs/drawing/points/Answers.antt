use Rattle.std.proofs.Common.{refl, codes}
use Rattle.tool_frame.specs.declared.status.AnswerStatus.TheVariants.{Done}
use Rattle.tool_frame.specs.Outside.{outside}
use Rattle.tool_frame.specs.EndLaws.{ends_found}
use Rattle.tool_frame.specs.Leaves.{LeavesAll}
use Rattle.tool_frame.specs.FaultTexts.{input_fault_text, input_fault_status}
use Rattle.point_tools.specs.DrawnList.{drawn_text}
use Rattle.point_tools.specs.Points.{PrintsDrawn}
use Rattle.point_tools.proofs.drawing.points.Goals as goal

pub returns : goal.returns
returns g c = λ input shelf.
    ends_found drawn_text (λ _. Done) input_fault_status input_fault_text (codes "points") (λ _ _. PrintsDrawn c.args.n c.args.seed) LeavesAll
    (outside input (g.O.Sink.state c.args.out.now) (g.R.Sink.state c.args.err.now) shelf)
    (outside input (g.O.Sink.state c.end_found.new.out) (g.R.Sink.state c.end_found.new.err) shelf)
    c.end_found.result c.draw-found.result c.draw-found.ensures
    (record { input = refl; shelf = refl }) c.end_found.ensures
