use Rattle.std.proofs.Common.{◌<◌, ◌^◌, subst, arith, ◌∙◌, ap}
use Rattle.net_graph.specs.Graph.{total_of}
use Rattle.hanan_grid.specs.Grid.{hanan_grid_of}
use Rattle.hanan_grid.proofs.lemmas.Found.{terminals_apart_le}
use Rattle.hanan_grid.proofs.grid.Grid.distance.Goals as goal

pub distance_between-requires : goal.distance_between-requires
distance_between-requires c = grind (arith, terminals_apart_le)

pub returns-clause-within : goal.returns-clause-within
returns-clause-within c = grind (arith, terminals_apart_le)

pub returns-clause-fits : goal.returns-clause-fits
returns-clause-fits c =
    let graph = c.self.invariant.graph ∙ ap hanan_grid_of c.self.view_is in
    let total = subst (λ g. total_of g < 2 ^ 63) graph c.self.invariant.sound.total in
    omega (arith, returns-clause-within c)
