use Rattle.std.proofs.Common.{IfSome}
use Rattle.graph_search.specs.Plans.{IsTrialOf}
use Rattle.graph_search.proofs.splitting.Splitting.tried.Given as goal

-- the best split so far is one of the leaf
abbrev pub invariant-loop : goal.invariant-loop
invariant-loop g l = IfSome l.trials.best (IsTrialOf l.search l.leaf)
