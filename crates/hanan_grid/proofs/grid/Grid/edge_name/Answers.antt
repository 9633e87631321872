use Rattle.std.proofs.Common.{◌≡◌, Some, rules, ◌∙◌}
use Rattle.std.specs.Prelude.{slice_get}
use Rattle.hanan_grid.specs.Grid.{hanan_grid_of}
use Rattle.hanan_grid.specs.NamesLaws.{same_edge}
use Rattle.hanan_grid.proofs.lemmas.Readings.{name_from_ends}
use Rattle.hanan_grid.proofs.grid.Grid.edge_name.Goals as goal

pub returns-clause-name : goal.returns-clause-name
returns-clause-name c =
    let edge : slice_get (hanan_grid_of c.args.self.now).edges c.args.edge ≡ Some c.edge-ends.result = search rules in
    name_from_ends c.args.self.now c.args.edge _ _ _ _ edge c.vertex_point.ensures.point c.vertex_point-2.ensures.point c.name_between.ensures

pub returns-clause-alone : goal.returns-clause-alone
returns-clause-alone c =
    λ other inside same. same_edge c.args.self.now other c.args.edge inside c.requires (same ∙ returns-clause-name c)
