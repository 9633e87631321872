use Rattle.answer_text.proofs.lemmas.Upgraded.{upgraded_spells, upgraded_told}
use Rattle.answer_text.proofs.reading.upgraded_alike.Goals as goal

pub returns-clause-spells : goal.returns-clause-spells
returns-clause-spells c = upgraded_spells

pub returns-clause-told : goal.returns-clause-told
returns-clause-told c = upgraded_told
