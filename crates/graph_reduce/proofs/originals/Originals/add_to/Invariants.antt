use Rattle.std.specs.Prelude.{take}
use Rattle.graph_reduce.proofs.lemmas.Originals.{AreAdded}
use Rattle.graph_reduce.proofs.originals.Originals.add_to.Given as goal

abbrev pub invariant-loop-n : goal.invariant-loop-n
invariant-loop-n l = AreAdded l.initial.set l.set (take l.n-index l.n-items)
