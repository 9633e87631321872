-- The law that bytes have one verdict, since they are read in one way.
use Rattle.cert_check.proofs.lemmas.GridNames.{IsNamed-on_grid}
use Rattle.cert_check.proofs.lemmas.OneVerdict.{one_verdict_lem}
use Rattle.cert_check.proofs.lemmas.SubjectNames.{IsNamed-in_graph}
use Rattle.cert_check.specs.Named.{in_graph, on_grid}
use Rattle.cert_check.proofs.law.one_verdict.Goals as goal

pub returns-clause-named : goal.returns-clause-named
returns-clause-named c = one_verdict_lem c.one_reading.ensures

pub returns-clause-grids : goal.returns-clause-grids
returns-clause-grids c ps = one_verdict_lem c.one_reading.ensures (on_grid ps) (IsNamed-on_grid ps)

pub returns-clause-graphs : goal.returns-clause-graphs
returns-clause-graphs c g = one_verdict_lem c.one_reading.ensures (in_graph g) (IsNamed-in_graph g)
