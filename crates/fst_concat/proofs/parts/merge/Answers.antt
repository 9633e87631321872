use Rattle.std.proofs.lemmas.Grind.{same_number_lists}
use Rattle.std.proofs.Common.{arith}
use Rattle.fst_concat.proofs.lemmas.Parts.{length-merged, merged-at}
use Rattle.fst_concat.proofs.parts.merge.Goals as goal

pub returns : goal.returns
returns c = grind (arith, same_number_lists, length-merged c.args.from c.args.to c.args.labels.now, merged-at)
