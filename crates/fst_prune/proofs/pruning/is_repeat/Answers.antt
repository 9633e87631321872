use Rattle.std.proofs.lemmas.Option.{slice_get_within}
use Rattle.fst_prune.specs.Kept.{IsRepeat}
use Rattle.fst_prune.proofs.lemmas.Firsts.{repeat_by_found}
use Rattle.fst_prune.proofs.lemmas.Told.{told_by_ne}
use Rattle.fst_prune.proofs.pruning.is_repeat.Goals as goal

pub returns : goal.returns
returns c =
    let has = c.requires.members in
    let tells = repeat_by_found c.args.trees.now c.args.firsts.now c.requires.firsts c.args.members.now c.first_of.result c.args.place
    has.tree (slice_get_within c.args.trees.now c.args.place has.tree has.at) has.at has.members c.first_of.ensures in
    told_by_ne c.first_of.result c.args.place c.ne.result (IsRepeat c.args.trees.now c.args.place) (¬ IsRepeat c.args.trees.now c.args.place)
    c.ne.ensures tells.0 tells.1
