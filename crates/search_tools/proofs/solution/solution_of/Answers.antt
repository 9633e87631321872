-- The network that the search begins with is made of the trees of the file.
use Rattle.std.proofs.Common.{subst}
use Rattle.fst_file.specs.Value.{FstValue}
use Rattle.search_tools.specs.Steps.{IsFor}
use Rattle.search_tools.proofs.ShorterLaws.{made_no_longer}
use Rattle.search_tools.proofs.solution.solution_of.Goals as goal

pub returns : goal.returns
returns c =
    let ps = c.file.inside.grid in
    let trees = c.file.inside.trees in
    subst (λ (f : FstValue). IsFor c.args.options f.points f.trees c.in_ok-answered.field-0) c.file.view_is
    (c.in_ok-answered.ensures trees
    (made_no_longer c.args.options.concat ps trees c.in_ok-found.found c.in_ok-found-2.found c.in_ok-found.ensures
    c.in_ok-found-2.ensures))
