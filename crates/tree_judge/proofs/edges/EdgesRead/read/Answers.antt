use Rattle.std.proofs.Common.{◌≡◌, ◌+◌, ◌<◌, ◌-◌, refl, arith}
use Rattle.tree_judge.proofs.edges.EdgesRead.read.Goals as goal

-- the greatest number so far is not below the edge's
pub returns-then-edge-self-clause-fault : goal.returns-then-edge-self-clause-fault
returns-then-edge-self-clause-fault c =
    let next = c.self.inside.next in
    let below : c.args.edge < next = c.if-edge-self.true in
    let one_more : next ≡ (next - 1) + 1 = omega arith in (
      refl,
      record {
        other = next - 1;
        held = rw c.self.view_is at (c.self.invariant.reached (next - 1) one_more);
        order = omega arith;
      },
    )
