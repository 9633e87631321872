-- What was found, and how the run then ended, are a run.
use Rattle.std.proofs.Common.{◌≡◌, codes}
use Rattle.tool_frame.specs.Outside.{writable, outside}
use Rattle.tool_frame.specs.Leaves.{LeavesFiles}
use Rattle.tool_frame.specs.EndLaws.{ends_found}
use Rattle.verdict_line.specs.UnreadLaws.{without_memory}
use Rattle.verdict_line.specs.Verdicts.{line_text, line_status}
use Rattle.graph_tools.specs.Check.{ChecksGraph, checkgraph_fault_text, checkgraph_fault_status}
use Rattle.graph_tools.proofs.checking.checkgraph.Goals as goal

pub returns : goal.returns
returns g c =
    let input = g.I.Source.state c.args.input.now in
    let input' = g.I.Source.state c.verdict_on-found.new.input in
    let out = g.O.Sink.state c.args.out.now in
    let err = g.R.Sink.state c.args.err.now in
    let out' = g.O.Sink.state c.end_found.new.out in
    let err' = g.R.Sink.state c.end_found.new.err in
    record {
      ends = ends_found line_text line_status checkgraph_fault_status checkgraph_fault_text
          (codes "checkgraph") (ChecksGraph c.args.graph_name.now) LeavesFiles
          (outside input out err (g.S.Shelf.state c.args.shelf.now))
          (outside input' out' err' (g.S.Shelf.state c.verdict_on-found.new.shelf))
          c.end_found.result c.verdict_on-found.result c.verdict_on-found.ensures.finds c.verdict_on-found.ensures.leaves c.end_found.ensures;
      unread = without_memory line_text line_status checkgraph_fault_status checkgraph_fault_text (codes "checkgraph")
          (writable out err) (writable out' err') c.end_found.result c.verdict_on-found.result (input' ≡ input)
          c.end_found.ensures c.verdict_on-found.ensures.unread;
    }
