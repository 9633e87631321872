use Rattle.std.proofs.Common.{ℕ, ◌≡◌, ◌<◌, Some}
use Rattle.std.specs.Prelude.{slice_get}
use Rattle.net_graph.specs.Network.{Reaches}
use Rattle.net_graph.proofs.network.first_apart_within.Given as goal

-- the terminals so far are reached
abbrev pub invariant-loop-place : goal.invariant-loop-place
invariant-loop-place l = (p v : ℕ) → p < l.place → slice_get l.g.terminals p ≡ Some v → Reaches l.g l.set v
