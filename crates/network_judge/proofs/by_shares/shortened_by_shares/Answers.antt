use Rattle.std.proofs.Common.{arith}
use Rattle.network_judge.proofs.by_shares.shortened_by_shares.Goals as goal

-- before the first draw it is the given network
pub loop-draw-init : goal.loop-draw-init
loop-draw-init c =
    rw c.in_ok-best.ensures (record {
      size = c.requires.size;
      network = c.requires.network;
      shorter = omega arith;
    })
