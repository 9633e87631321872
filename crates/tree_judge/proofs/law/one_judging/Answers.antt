use Rattle.tree_judge.specs.StepLaws.{passes_not_fails, same_failed, same_passed}
use Rattle.tree_judge.proofs.law.one_judging.Goals as goal

pub returns : goal.returns
returns c = record {
  passed = same_passed;
  not_both = λ g s m n x members cause network passes fails.
      passes_not_fails g s m n x members cause network passes fails;
  failed = same_failed;
}
