use Rattle.std.proofs.Common.{◌<◌, All, take}
use Rattle.net_graph.specs.Packing.{IsCut}
use Rattle.net_graph.proofs.feasibility.are_cuts.Given as goal

-- the members so far are cuts with a weight
abbrev pub invariant-loop-cut : goal.invariant-loop-cut
invariant-loop-cut l = All (λ c. (0 < c.weight) × IsCut l.g l.d c.members) (take l.cut-index l.cuts)
