use Rattle.spanning.proofs.lemmas.Shortest.{IsBestOf}
use Rattle.spanning.proofs.part.shortest_leaving.Given as goal

abbrev pub invariant-loop-place : goal.invariant-loop-place
invariant-loop-place l = IsBestOf l.pairs l.inside l.place l.best
