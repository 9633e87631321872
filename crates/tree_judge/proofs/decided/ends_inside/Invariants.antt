use Rattle.std.proofs.Common.{ℕ, ◌≡◌, ◌<◌, slice_get, Some}
use Rattle.std.specs.Prelude.{◌⊎◌}
use Rattle.net_graph.specs.declared.edge.Edge.{Edge}
use Rattle.net_graph.specs.declared.state.EdgeState.TheVariants.{Inside}
use Rattle.tree_judge.proofs.decided.ends_inside.Given as goal

-- no inside edge so far has this end
abbrev pub invariant-loop-n : goal.invariant-loop-n
invariant-loop-n l = (k : ℕ) (e : Edge) → k < l.n → slice_get l.decided.edges k ≡ Some Inside →
    slice_get l.g.edges k ≡ Some e → (e.a ≡ l.v) ⊎ (e.b ≡ l.v) → ⊥
