use Rattle.answer_text.proofs.answer.write_answer.Goals as goal

pub returns-clause-spells : goal.returns-clause-spells
returns-clause-spells g c = c.answer_len.ensures.spells
