use Rattle.std.proofs.Common.{arith}
use Rattle.cert_check.proofs.subject.Subject.reader.Goals as goal

-- a graph has a terminal, and that is one of its vertices
pub of_graph-requires-clause-some : goal.of_graph-requires-clause-some
of_graph-requires-clause-some c = grind arith
