use Rattle.std.specs.Prelude.{◌≡◌, map, slice_index, take}
use Rattle.graph_reduce.proofs.left.renumbered_terminals.Given as goal

abbrev pub invariant-loop-t : goal.invariant-loop-t
invariant-loop-t l = l.list.items ≡ map (λ t. slice_index l.numbers t) (take l.t-index l.terminals)
