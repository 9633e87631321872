-- The line of a misspelled answer is that of a refused one.
use Rattle.judge_tools.proofs.upgrading.UpgradeFaultFault.write.Goals as goal

pub returns-in-Misspelled : goal.returns-in-Misspelled
returns-in-Misspelled g c = rw c.in-Misspelled.is c.write_refusal.ensures
