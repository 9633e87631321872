use Rattle.std.specs.Prelude.{◌≡◌, ◌⊎◌, ◌<◌, ◌≤◌, ◌-◌, length}
use Rattle.graph_reduce.specs.State.{Bundle, HasEdge}
use Rattle.graph_reduce.specs.Survey.{HasPlacesOf}
use Rattle.graph_reduce.specs.Clear.{LeadsTo, IsClearTo, IsWithin}
use Rattle.graph_reduce.proofs.tidy.drop_parallels_of.Given as goal

abbrev pub invariant-loop-n : goal.invariant-loop-n
invariant-loop-n l = record {
  past : l.place < l.later;
  few : l.later ≤ 4900;
  leads : LeadsTo l.initial.work l.work;
  within : IsWithin l.work l.initial.work;
  rest : (l.work.nodes ≡ l.initial.work.nodes) × (l.work.terminals ≡ l.initial.work.terminals);
  end : (x : Bundle) → HasEdge l.work l.place x → (x.edge.a ≡ l.node) ⊎ (x.edge.b ≡ l.node);
  clear : IsClearTo l.work (length l.work.edges) l.place l.later;
  places : HasPlacesOf l.work l.node l.places;
}

abbrev pub decreases-loop-n : goal.decreases-loop-n
decreases-loop-n l = 4900 - l.later
