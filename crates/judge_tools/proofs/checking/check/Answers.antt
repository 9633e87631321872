-- What was found, and how the run then ended, are a run.
use Rattle.std.proofs.Common.{◌≡◌, codes}
use Rattle.tool_frame.specs.Outside.{writable, outside}
use Rattle.tool_frame.specs.Leaves.{LeavesFiles}
use Rattle.tool_frame.specs.EndLaws.{ends_found}
use Rattle.verdict_line.specs.Verdicts.{line_text, line_status}
use Rattle.judge_tools.specs.Check.{Checks, check_fault_text, check_fault_status}
use Rattle.verdict_line.specs.UnreadLaws.{without_memory}
use Rattle.judge_tools.proofs.checking.check.Goals as goal

pub returns : goal.returns
returns g c = record {
  ends = ends_found line_text line_status check_fault_status check_fault_text (codes "check") (Checks c.args.points_name.now) LeavesFiles
      (outside (g.I.Source.state c.args.input.now) (g.O.Sink.state c.args.out.now) (g.R.Sink.state c.args.err.now) (g.S.Shelf.state c.args.shelf.now))
      (outside (g.I.Source.state c.verdict_on-found.new.input) (g.O.Sink.state c.end_found.new.out) (g.R.Sink.state c.end_found.new.err) (g.S.Shelf.state c.verdict_on-found.new.shelf))
      c.end_found.result c.verdict_on-found.result c.verdict_on-found.ensures.finds c.verdict_on-found.ensures.leaves c.end_found.ensures;
  unread = without_memory line_text line_status check_fault_status check_fault_text (codes "check")
      (writable (g.O.Sink.state c.args.out.now) (g.R.Sink.state c.args.err.now)) (writable (g.O.Sink.state c.end_found.new.out) (g.R.Sink.state c.end_found.new.err))
      c.end_found.result c.verdict_on-found.result (g.I.Source.state c.verdict_on-found.new.input ≡ g.I.Source.state c.args.input.now)
      c.end_found.ensures c.verdict_on-found.ensures.unread;
}
