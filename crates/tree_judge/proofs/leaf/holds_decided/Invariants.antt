use Rattle.std.proofs.Common.{ℕ, ◌≡◌, ◌<◌, true, slice_get, Some}
use Rattle.net_graph.specs.Flags.{has}
use Rattle.cert_tree.specs.declared.way.Turn.{Turn}
use Rattle.tree_judge.specs.Ways.{RequiresOn}
use Rattle.tree_judge.proofs.leaf.holds_decided.Given as goal

-- the set holds no vertex that is required by what a split so far is on
abbrev pub invariant-loop-place : goal.invariant-loop-place
invariant-loop-place l = (k : ℕ) (t : Turn) (v : ℕ) → k < l.place → slice_get l.way.path k ≡ Some t →
    RequiresOn l.g l.way.decided t.on v → has l.members v ≡ true → ⊥
