use Rattle.fst_gen.proofs.lemmas.Prefixes.{failing_drop, far_tip}
use Rattle.fst_gen.proofs.lemmas.Beginning.{failing_beginning}
use Rattle.fst_gen.proofs.laws.failing_prefix_never_passes.Goals as goal

pub returns : goal.returns
returns c = record { beginning = failing_beginning; drop = failing_drop; tip = far_tip }
