-- Some place is open where a search can go on.
use Rattle.fst_concat.proofs.lemmas.Choices.{some_open}
use Rattle.fst_concat.proofs.judge.weigh.Goals as goal

pub unreachable-requires : goal.unreachable-requires
unreachable-requires c = some_open c.args.points c.args.trees.now c.args.choices.now c.requires.can_go_on c.in-None.ensures.none
