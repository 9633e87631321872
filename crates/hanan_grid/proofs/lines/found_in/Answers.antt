use Rattle.std.proofs.Common.{arith}
use Rattle.std.proofs.lemmas.Int.{to_z-of_z}
use Rattle.std.proofs.lemmas.Grind.{common_steps}
use Rattle.hanan_grid.proofs.lemmas.Found.{not_found}
use Rattle.hanan_grid.proofs.lines.found_in.Goals as goal

pub returns-in_default-clause-none : goal.returns-in_default-clause-none
returns-in_default-clause-none c = not_found c.args.lines.now c.args.value c.requires.rising (λ inside is. grind (arith, common_steps, to_z-of_z))

pub returns-in_default-2-clause-none : goal.returns-in_default-2-clause-none
returns-in_default-2-clause-none c = not_found c.args.lines.now c.args.value c.requires.rising (λ inside is. grind (arith, common_steps, to_z-of_z))
