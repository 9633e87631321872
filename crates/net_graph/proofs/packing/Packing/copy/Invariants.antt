use Rattle.std.proofs.Common.{◌≡◌, ◌≤◌, length, take, vec_len, vec_capacity}
use Rattle.net_graph.proofs.packing.Packing.copy.Given as goal

-- the cuts so far, and room for all
abbrev pub invariant-loop-cut : goal.invariant-loop-cut
invariant-loop-cut l = (l.cuts.items ≡ take l.cut-index l.self) × (vec_len l.cuts ≡ l.cut-index) × (length l.self ≤ vec_capacity l.cuts)
