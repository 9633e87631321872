use Rattle.std.proofs.Common.{◌≢◌, take}
use Rattle.std.specs.Prelude.{AllPairs}
use Rattle.full_tree.proofs.form.are_distinct.Given as goal

-- no place so far stands twice
abbrev pub invariant-loop-n : goal.invariant-loop-n
invariant-loop-n l = AllPairs (λ p q. p ≢ q) (take l.n l.places)
