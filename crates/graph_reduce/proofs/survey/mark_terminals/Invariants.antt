use Rattle.std.proofs.Common.{◌≡◌, ℕ, ◌<◌, true, length}
use Rattle.std.specs.Prelude.{slice_get, Some}
use Rattle.net_graph.specs.Flags.{has}
use Rattle.graph_reduce.specs.State.{IsTerminal}
use Rattle.graph_reduce.proofs.survey.mark_terminals.Given as goal

abbrev pub invariant-loop-t : goal.invariant-loop-t
invariant-loop-t l = record {
  size : length l.marks ≡ length l.work.nodes;
  marked : (v : ℕ) → has l.marks v ≡ true → IsTerminal l.work v;
  terminals : (k v : ℕ) → k < l.t-index → slice_get l.work.terminals k ≡ Some v → has l.marks v ≡ true;
}
