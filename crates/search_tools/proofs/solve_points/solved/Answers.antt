-- The kept trees leave no terminal apart, as all trees join them; and what the search begins with is made of them.
use Rattle.std.proofs.Common.{List, length, IfSome, subst, sym}
use Rattle.points_in.specs.declared.point.Point.{Point}
use Rattle.fst_file.specs.Value.{AreTreesOf, FstValue}
use Rattle.fst_gen.specs.Joins.{JoinsAll}
use Rattle.concatenation.specs.Concatenation.{all_of}
use Rattle.fst_concat.specs.Chosen.{IsFirstApart}
use Rattle.tree_inputs.specs.Pruning.{IsPruned}
use Rattle.search_tools.proofs.JoinLaws.{others_join}
use Rattle.search_tools.proofs.ShorterLaws.{made_no_longer, solves_or_not}
use Rattle.search_tools.proofs.solve_points.solved.Goals as goal

pub joined-requires-clause-joins : goal.joined-requires-clause-joins
joined-requires-clause-joins c =
    let kept = subst (IsPruned c.args.lists.file) (sym c.grid.view_is) c.in_ok-grid.ensures in λ place apart.
    others_join c.more_trees.ensures.all_join (length c.args.lists.file.points) c.args.lists.file.trees c.grid.inside.trees place
    c.requires.joins kept.no_worse
    (subst (λ (ps : List Point). IsFirstApart (length ps) c.grid.inside.trees (all_of c.grid.inside.trees) place) kept.points apart)

pub no_longer-requires-clause-longer : goal.no_longer-requires-clause-longer
no_longer-requires-clause-longer c =
    let kept = subst (IsPruned c.args.lists.file) (sym c.grid.view_is) c.in_ok-grid.ensures in
    subst (λ (ps : List Point). IfSome c.args.lists.longer (AreTreesOf ps)) (sym kept.points) c.requires.longer

pub no_longer-requires-clause-joins : goal.no_longer-requires-clause-joins
no_longer-requires-clause-joins c =
    let kept = subst (IsPruned c.args.lists.file) (sym c.grid.view_is) c.in_ok-grid.ensures in
    subst (λ (ps : List Point). IfSome c.args.lists.longer (JoinsAll (length ps))) (sym kept.points) c.requires.longer_joins

pub returns : goal.returns
returns c =
    let kept : FstValue = record { points = c.grid.inside.grid; trees = c.grid.inside.trees } in
    solves_or_not c.args.options c.args.lists.file kept c.in_ok-found-2.found c.answered.result
    (subst (IsPruned c.args.lists.file) (sym c.grid.view_is) c.in_ok-grid.ensures)
    (made_no_longer c.args.options.concat kept.points kept.trees c.in_ok-found.found c.in_ok-found-2.found c.in_ok-found.ensures
    c.in_ok-found-2.ensures)
    c.answered.ensures
