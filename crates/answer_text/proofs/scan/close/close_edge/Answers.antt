use Rattle.answer_text.proofs.lemmas.NamesClosed.{makes-edge, makes-split}
use Rattle.answer_text.proofs.scan.close.close_edge.Goals as goal

pub returns-in_ok-checked_sub-in-Edges-clause-makes : goal.returns-in_ok-checked_sub-in-Edges-clause-makes
returns-in_ok-checked_sub-in-Edges-clause-makes c =
    makes-edge c.args.kept.now c.args.label c.in-Edges.edges c.in_ok-checked_sub-in-Edges.field-0 c.in-Edges.is c.in_ok-checked_sub-in-Edges.ensures.1

pub returns-in-Body-clause-makes : goal.returns-in-Body-clause-makes
returns-in-Body-clause-makes c = makes-split c.args.kept.now c.args.label c.in-Body.cuts c.in-Body.nodes c.in-Body.is
