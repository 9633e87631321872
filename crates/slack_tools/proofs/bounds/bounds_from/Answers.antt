use Rattle.hanan_grid.specs.Grid.{hanan_grid_of}
use Rattle.slack_tools.proofs.BoundsLemmas.{bounds_more}
use Rattle.slack_tools.proofs.bounds.bounds_from.Goals as goal

pub loop-edge-preserved : goal.loop-edge-preserved
loop-edge-preserved g c =
    bounds_more (hanan_grid_of c.args.grid.now) c.loop-edge.bounds.items c.push.new.self.items c.loop-edge.edge
    c.in_ok-bound_of.field-0
    c.in_ok-push.ensures.items c.loop-edge.invariant.0 c.in_ok-bound_of.ensures c.loop-edge.invariant.1
