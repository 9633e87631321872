use Rattle.std.proofs.Common.{map, ◌∙◌, ap, take_all, arith}
use Rattle.fst_concat.specs.Listed.{tree_members}
use Rattle.fst_concat.proofs.lemmas.Totals.{IsListed-map}
use Rattle.fst_concat.proofs.listed.listed.Goals as goal

pub returns : goal.returns
returns c = IsListed-map c.args.points c.args.trees.now _
    (c.loop-tree.invariant ∙ ap (map tree_members) (take_all c.loop-tree.tree-index c.args.trees.now (omega arith)))
    c.requires.trees
