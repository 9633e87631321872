-- Files of full trees of which pruning dropped some.
use Rattle.std.specs.Prelude.{◌≡◌}
use Rattle.fst_file.specs.Value.{FstValue}
use Rattle.fst_prune.specs.Kept.{AreKeptTrees}
use Rattle.fst_prune.specs.LeastTotal.{IsNoWorse}

-- The file of the same points and of just the trees that pruning keeps: for each concatenation of all trees these
-- have one with no greater total.
pub record IsPruned (file pruned : FstValue) : Type 0 where
  pub points : pruned.points ≡ file.points
  pub trees : AreKeptTrees file.trees pruned.trees
  pub no_worse : IsNoWorse file.trees pruned.trees
