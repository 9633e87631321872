-- The checker was fed the bytes alone.
use Rattle.std.proofs.Common.{[]}
use Rattle.cert_check.specs.Named.{on_grid}
use Rattle.search_tools.proofs.judged_text.verdict_on.Goals as goal

pub returns : goal.returns
returns c =
    c.finish-verdict.ensures.complete (on_grid c.args.grid.now) c.args.bytes.now
    (c.feed.ensures (on_grid c.args.grid.now) [] c.begin-checker.ensures)
