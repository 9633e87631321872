-- A node of those that are left has no point.
use Rattle.std.specs.Prelude.{◌≡◌, ◌+◌, ◌∷◌, []}
use Rattle.std.proofs.Common.{ap, sym, subst, drop, get_or, ◌∙◌}
use Rattle.std.proofs.lemmas.List.{drop_more}
use Rattle.std.proofs.lemmas.Result.{err_from_is_err_and}
use Rattle.stp_format.specs.declared.fault.StpFault.TheVariants.{NoCoordinates}
use Rattle.stp_format.specs.Numbers.{or_fault}
use Rattle.stp_format.specs.Value.{point_of_node}
use Rattle.stp_format.specs.Sections.{◌>>=◌}
use Rattle.stp_format.specs.Reading.{IsFaultOf}
use Rattle.stp_format.specs.Located.{with_point, with_nodes}
use Rattle.stp_format.proofs.lemmas.Steps.{fault_bind}
use Rattle.stp_format.proofs.points.points_of_nodes.Goals as goal

pub returns-in_err-point : goal.returns-in_err-point
returns-in_err-point c =
    let p = err_from_is_err_and c.from_residual-in_err-point.result c.from_residual-in_err-point.ensures.1 in
    let f = c.in_err-point.field-0.0 in
    let located = c.args.located.now in
    let others = c.args.others.now in
    let i = c.loop-node.node-index in
    let points = c.loop-node.points in
    let node = get_or others i 0 in
    let due = or_fault (NoCoordinates node) (point_of_node located node) in
    let whole : with_nodes located [] (c.args.first ∷ others) ≡ (due >>= λ q. with_point node points q >>= λ more. with_nodes located more (drop (i + 1) others)) =
    c.loop-node.invariant ∙ ap (with_nodes located points) (drop_more others i 0 c.loop-node-test.true) in
    rw (p.1, p.2) (subst (λ d. IsFaultOf f d) (sym whole) (fault_bind f due (λ q. with_point node points q >>= λ more. with_nodes located more (drop (i + 1) others)) c.in_err-point.ensures))
