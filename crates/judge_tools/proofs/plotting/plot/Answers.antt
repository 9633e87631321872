-- What was found, and how the run then ended, are a run.
use Rattle.std.proofs.Common.{◌≡◌, codes}
use Rattle.tool_frame.specs.declared.status.AnswerStatus.TheVariants.{Done}
use Rattle.tool_frame.specs.Outside.{writable, outside}
use Rattle.tool_frame.specs.Leaves.{LeavesFiles}
use Rattle.tool_frame.specs.EndLaws.{ends_found}
use Rattle.judge_tools.specs.Pictures.{picture_text}
use Rattle.judge_tools.specs.Plot.{Plots, plot_fault_text, plot_fault_status}
use Rattle.verdict_line.specs.UnreadLaws.{without_memory}
use Rattle.judge_tools.proofs.plotting.plot.Goals as goal

pub returns : goal.returns
returns g c = record {
  ends = ends_found picture_text (λ _. Done) plot_fault_status plot_fault_text (codes "plot") (Plots c.args.points_name.now) LeavesFiles
      (outside (g.I.Source.state c.args.input.now) (g.O.Sink.state c.args.out.now) (g.R.Sink.state c.args.err.now) (g.S.Shelf.state c.args.shelf.now))
      (outside (g.I.Source.state c.picture_of-found.new.input) (g.O.Sink.state c.end_found.new.out) (g.R.Sink.state c.end_found.new.err) (g.S.Shelf.state c.picture_of-found.new.shelf))
      c.end_found.result c.picture_of-found.result c.picture_of-found.ensures.finds c.picture_of-found.ensures.leaves c.end_found.ensures;
  unread = without_memory picture_text (λ _. Done) plot_fault_status plot_fault_text (codes "plot")
      (writable (g.O.Sink.state c.args.out.now) (g.R.Sink.state c.args.err.now)) (writable (g.O.Sink.state c.end_found.new.out) (g.R.Sink.state c.end_found.new.err))
      c.end_found.result c.picture_of-found.result (g.I.Source.state c.picture_of-found.new.input ≡ g.I.Source.state c.args.input.now)
      c.end_found.ensures c.picture_of-found.ensures.unread;
}
