use Rattle.tree_inputs.proofs.generation_fault.GenerationFaultFault.write.Goals as goal

pub returns-in-TooManyTrees : goal.returns-in-TooManyTrees
returns-in-TooManyTrees g c = rw c.in-TooManyTrees.is c.literal.ensures
