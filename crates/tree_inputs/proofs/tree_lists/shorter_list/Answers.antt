use Rattle.std.proofs.Common.{List, refl, subst, sym}
use Rattle.points_in.specs.Terminals.{AreDistinct}
use Rattle.full_tree.specs.declared.code.Tree.{Tree}
use Rattle.fst_file.specs.Value.{AreTreesOf}
use Rattle.tree_inputs.specs.Generation.{IsTreeList}
use Rattle.tree_inputs.proofs.ListLaws.{fewer_in_file, fewer_list, members_few}
use Rattle.tree_inputs.proofs.tree_lists.shorter_list.Goals as goal

pub up_to-requires : goal.up_to-requires
up_to-requires c = members_few c.args.grid c.args.longer.now c.requires.trees

pub invariant_of-result : goal.invariant_of-result
invariant_of-result c =
    subst (λ (trees : List Tree). AreTreesOf c.args.grid trees) (sym c.in_ok-trees.ensures)
    (fewer_in_file c.args.grid c.args.k c.args.longer.now c.requires.trees)

pub returns : goal.returns
returns c = (
  refl,
  subst (λ (trees : List Tree). IsTreeList c.args.grid c.args.k trees) (sym c.in_ok-trees.ensures)
      (fewer_list c.args.grid c.args.k c.args.longer.now 8 c.pairs_join_all.ensures
      (subst AreDistinct c.points.ensures c.len-points.ensures.distinct) c.requires.least c.requires.most c.requires.list),
)
