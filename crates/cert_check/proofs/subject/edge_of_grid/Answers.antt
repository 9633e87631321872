use Rattle.std.proofs.Common.{arith}
use Rattle.cert_check.proofs.lemmas.GridNames.{edge_unlabelled}
use Rattle.cert_check.proofs.subject.edge_of_grid.Goals as goal

pub returns-in-Ends-clause-none : goal.returns-in-Ends-clause-none
returns-in-Ends-clause-none c =
    grind (arith, edge_unlabelled c.args.grid.now c.in-Ends.name c.edge_named.result c.edge_named.ensures.none)
