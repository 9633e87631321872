use Rattle.std.proofs.Common.{◌≡◌, ◌≤◌, ◌*◌, take}
use Rattle.net_graph.specs.Packing as packing
use Rattle.net_graph.proofs.feasibility.loads.Given as goal

-- the loads by the cuts so far, each of which has a weight of 64 bits
abbrev pub invariant-loop-cut : goal.invariant-loop-cut
invariant-loop-cut l =
    (l.along ≡ packing.load (take l.cut-index l.cuts) l.u l.v) × (l.along ≤ l.cut-index * 18446744073709551615)
    × (l.against ≡ packing.load (take l.cut-index l.cuts) l.v l.u) × (l.against ≤ l.cut-index * 18446744073709551615)
