-- A search that begins with one leaf has only splits of its kind, and plain openings of the kind lead from there.
use Rattle.std.proofs.Common.{arith}
use Rattle.branch.proofs.lemmas.LeadsLemmas.{ends_plain}
use Rattle.branch.proofs.lemmas.SolvingLemmas.{no_split_of_kind}
use Rattle.branch.proofs.solve.solve_graph.Goals as goal

pub returns-clause-enough : goal.returns-clause-enough
returns-clause-enough _ c =
    grind (
      arith,
      c.solve.ensures.enough (no_split_of_kind (c.in_ok-start.field-0).kind (c.in_ok-start.field-0).tree c.in_ok-start.ensures.leaf),
      no_split_of_kind (c.in_ok-start.field-0).kind (c.in_ok-start.field-0).tree c.in_ok-start.ensures.leaf,
    )

pub returns-clause-plain : goal.returns-clause-plain
returns-clause-plain _ c =
    let start = c.in_ok-start.field-0 in
    ends_plain _ _ c.args.first start c.solve.result c.in_ok-start.ensures.graph c.in_ok-start.ensures.kind
    c.in_ok-start.ensures.leaf c.in_ok-start.ensures.network c.solve.ensures.plain
