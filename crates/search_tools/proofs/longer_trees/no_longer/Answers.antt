-- The longer list joins all terminals.
use Rattle.std.proofs.Common.{List, Option, IfSome, length, subst}
use Rattle.full_tree.specs.declared.code.Tree.{Tree}
use Rattle.fst_gen.specs.Joins.{JoinsAll}
use Rattle.search_tools.proofs.JoinLaws.{others_join}
use Rattle.search_tools.proofs.longer_trees.no_longer.Goals as goal

pub joined-requires-clause-joins : goal.joined-requires-clause-joins
joined-requires-clause-joins c =
    let joins = subst (λ (longer : Option (List Tree)). IfSome longer (JoinsAll (length c.args.grid.now))) c.in-Some.is c.requires.joins in
    λ place apart.
    others_join c.more_trees.ensures.all_join (length c.args.grid.now) c.in-Some.longer c.in_ok-longer.longer place joins
    c.in_ok-longer.ensures.no_worse apart
