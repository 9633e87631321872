-- The checker was fed the bytes, so its verdict is theirs, and they are not too many.
use Rattle.std.proofs.Common.{[], sym, ap, ◌∙◌, subst, arith}
use Rattle.cert_check.specs.Accepted.{IsAccepting}
use Rattle.cert_check.specs.Named.{in_graph}
use Rattle.cert_check.specs.Rulings.{verdict_of}
use Rattle.graph_solve.proofs.lemmas.GraphVerdicts.{only_told}
use Rattle.graph_solve.proofs.check.check_graph.Goals as goal

pub unreachable-requires : goal.unreachable-requires
unreachable-requires c =
    let stands = c.feed.ensures (in_graph c.args.g.now) [] c.on-checker.ensures in
    let many = (c.finish-finished.ensures.too_long (in_graph c.args.g.now) c.args.bytes.now stands).0
    c.in-None.ensures.none in
    omega (arith, many, c.requires.few)

pub returns-clause-verdict : goal.returns-clause-verdict
returns-clause-verdict c =
    let stands = c.feed.ensures (in_graph c.args.g.now) [] c.on-checker.ensures in (
      c.finish-finished.result,
      c.finish-finished.ensures.verdict (in_graph c.args.g.now) c.args.bytes.now stands,
      sym c.in-Some.ensures.ruling,
    )

pub returns-clause-only : goal.returns-clause-only
returns-clause-only c =
    let stands = c.feed.ensures (in_graph c.args.g.now) [] c.on-checker.ensures in
    only_told c.args.g.now c.args.bytes.now c.finish-finished.result c.in-Some.ruling (sym c.in-Some.ensures.ruling)
    (c.finish-finished.ensures.only (in_graph c.args.g.now) c.args.bytes.now stands)

pub returns-clause-accepted : goal.returns-clause-accepted
returns-clause-accepted c length bound optimal is =
    let stands = c.feed.ensures (in_graph c.args.g.now) [] c.on-checker.ensures in (
      c.finish-finished.result.network,
      c.finish-finished.ensures.accepted (in_graph c.args.g.now) c.args.bytes.now stands length bound optimal
          (c.in-Some.ensures.ruling ∙ ap verdict_of is),
    )

pub returns-clause-complete : goal.returns-clause-complete
returns-clause-complete c accepted =
    let stands = c.feed.ensures (in_graph c.args.g.now) [] c.on-checker.ensures in
    subst IsAccepting c.in-Some.ensures.ruling
    (c.finish-finished.ensures.complete (in_graph c.args.g.now) c.args.bytes.now stands
    (omega (arith, c.requires.few)) accepted)

pub returns-clause-bound : goal.returns-clause-bound
returns-clause-bound c length bound optimal is =
    let stands = c.feed.ensures (in_graph c.args.g.now) [] c.on-checker.ensures in
    c.finish-finished.ensures.bound (in_graph c.args.g.now) c.args.bytes.now stands length bound optimal
    (c.in-Some.ensures.ruling ∙ ap verdict_of is)
