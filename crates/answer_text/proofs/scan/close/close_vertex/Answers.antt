use Rattle.answer_text.proofs.lemmas.NamesClosed.{makes-vertex}
use Rattle.answer_text.proofs.scan.close.close_vertex.Goals as goal

pub returns-clause-makes : goal.returns-clause-makes
returns-clause-makes c = makes-vertex c.args.kept.now c.args.label c.in-Body.cuts c.in-Body.nodes c.in-Body.is
