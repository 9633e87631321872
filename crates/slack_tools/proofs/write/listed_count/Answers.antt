use Rattle.std.proofs.Common.{get_or, arith}
use Rattle.slack_tools.specs.ListedLaws.{passing_count}
use Rattle.slack_tools.specs.Text.{is_above}
use Rattle.slack_tools.proofs.write.listed_count.Goals as goal

pub loop-edge-preserved : goal.loop-edge-preserved
loop-edge-preserved c =
    let more = passing_count (λ e. is_above c.args.above (get_or c.args.bounds.now e 0)) c.loop-edge.edge in
    (omega (arith, more), omega arith)
