use Rattle.std.proofs.Common.{sym, subst}
use Rattle.net_graph.specs.Decision.{IsUndecided}
use Rattle.edge_slack.proofs.EdgeBoundLemmas.{IsUndecided-nothing}
use Rattle.edge_slack.proofs.bound.taking_in.Goals as goal

pub with_inside-requires-clause-undecided : goal.with_inside-requires-clause-undecided
with_inside-requires-clause-undecided c =
    subst (λ d. IsUndecided c.args.g.now d c.args.e) (sym c.in_ok-none.ensures.value) (IsUndecided-nothing c.args.g.now c.args.e c.requires)
