use Rattle.answer_text.proofs.lemmas.WordLemmas.{none_then}
use Rattle.answer_text.proofs.scan.words.fork_byte.Goals as goal

pub returns-in-On-eq101-clause-dead : goal.returns-in-On-eq101-clause-dead
returns-in-On-eq101-clause-dead c =
    none_then c.edge_byte.result c.edge_byte.ensures.dead (λ dead fork k. rw (c.in-On-eq101.is-0, c.in-On-eq101.is-1) (dead k))
