-- The plans of a leaf's children are of the graph, as those of all leaves were.
use Rattle.std.proofs.Common.{◌+◌, List, All, slice_set, subst, sym, arith, ◌∷◌, drop, take}
use Rattle.std.specs.Option.{IfSome}
use Rattle.std.proofs.lemmas.List.Elements.{All-set, All-take, All-append, All-cons, All-drop}
use Rattle.graph_search.specs.declared.children.Plan.{Plan}
use Rattle.graph_search.specs.Plans.{IsPlanIn, IsTrialOf}
use Rattle.graph_search.proofs.splitting.Splitting.split_next.Goals as goal

pub returns-clause-plans : goal.returns-clause-plans
returns-clause-plans g c =
    let P = IsPlanIn c.args.search.now.graph in
    let leaf = c.in-Some.leaf in
    let trial = c.in-Some-best.trial in
    let is : IsTrialOf c.args.search.now leaf trial =
    subst (λ best. IfSome best (IsTrialOf c.args.search.now leaf)) c.in-Some-best.is c.in_ok-trials.ensures in
    subst (λ (plans : List Plan). All P plans) (sym c.in_ok-put_plans.ensures)
    (grind (arith, All-append P (take (leaf + 1) (slice_set c.args.plans.now.items leaf trial.outside.plan)) (trial.inside.plan ∷ drop (leaf + 1) (slice_set c.args.plans.now.items leaf trial.outside.plan)) (All-take P (leaf + 1) (slice_set c.args.plans.now.items leaf trial.outside.plan) (All-set P c.args.plans.now.items leaf trial.outside.plan is.outside.plan c.requires.plans)) (All-cons P trial.inside.plan (drop (leaf + 1) (slice_set c.args.plans.now.items leaf trial.outside.plan)) is.inside.plan (All-drop P (leaf + 1) (slice_set c.args.plans.now.items leaf trial.outside.plan) (All-set P c.args.plans.now.items leaf trial.outside.plan is.outside.plan c.requires.plans)))))
