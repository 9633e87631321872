use Rattle.std.proofs.Common.{arith}
use Rattle.graph_reduce.proofs.lemmas.Originals.{length-flags, has-flags}
use Rattle.graph_reduce.proofs.originals.Originals.has.Goals as goal

pub returns : goal.returns
returns c = grind (arith, has-flags, length-flags (c.self.inside).size (c.self.inside).numbers.items)
