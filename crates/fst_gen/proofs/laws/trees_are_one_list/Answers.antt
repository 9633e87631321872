use Rattle.fst_gen.proofs.lemmas.Lists.{one_list, more_trees}
use Rattle.fst_gen.proofs.laws.trees_are_one_list.Goals as goal

pub returns : goal.returns
returns c = record {
  one = one_list;
  more = λ ps k n trees are more. more_trees ps k trees are n more;
}
