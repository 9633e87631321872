-- What was found, and how the run then ended, are a run, whatever the shelf is.
use Rattle.std.proofs.Common.{refl}
use Rattle.tool_frame.specs.declared.take.TheConstants.{TEXT_LIMIT}
use Rattle.tool_frame.specs.EndLaws.{ends_found}
use Rattle.tool_frame.specs.FaultTexts.{text_fault_text, text_fault_status}
use Rattle.tool_frame.specs.FromText.{FromText}
use Rattle.tool_frame.specs.Leaves.{LeavesShelf}
use Rattle.tool_frame.specs.Outside.{outside}
use Rattle.tool_frame.proofs.text_tool.run_on_text.Goals as goal

pub returns : goal.returns
returns g c = λ shelf.
    let found = c.find_in_input-found in
    ends_found g.T.Found.Answer.text g.T.Found.Answer.status
    (text_fault_status g.T.Wrong.Fault.status) (text_fault_text g.T.Wrong.Fault.text) c.args.name.now
    (FromText TEXT_LIMIT (g.T.TextTool.prints c.args.tool.now)) LeavesShelf
    (outside (g.I.Source.state c.args.input.now) (g.O.Sink.state c.args.out.now) (g.R.Sink.state c.args.err.now) shelf)
    (outside (g.I.Source.state found.new.input) (g.O.Sink.state c.end_found.new.out) (g.R.Sink.state c.end_found.new.err)
    shelf)
    c.end_found.result found.result (found.ensures.finds shelf)
    (record { input = found.ensures.takes; shelf = refl }) c.end_found.ensures
