use Rattle.std.proofs.Common.{◌≡◌, ◌+◌, ◌<◌, [], ◌∷◌, ◌++◌, length, take, get_or, arith}
use Rattle.std.proofs.lemmas.List.{take_more, take_all}
use Rattle.std.proofs.lemmas.Option.{slice_get_within, get_or_from_slice_get}
use Rattle.net_graph.specs.Decision.{states_of}
use Rattle.net_graph.specs.DecisionLaws.{length-states_of}
use Rattle.net_graph.proofs.decision.Decision.states.Goals as goal

pub loop-e-preserved : goal.loop-e-preserved
loop-e-preserved c =
    let all = states_of c.args.g.now c.args.self.now in
    let within : c.loop-e.e < length all = slice_get_within all c.loop-e.e c.state.result c.state.ensures in
    let more : take (c.loop-e.e + 1) all ≡ take c.loop-e.e all ++ get_or all c.loop-e.e c.state.result ∷ [] =
    take_more all c.loop-e.e c.state.result within in
    let last : get_or all c.loop-e.e c.state.result ≡ c.state.result =
    get_or_from_slice_get all c.loop-e.e c.state.result c.state.result c.state.ensures in
    cc c.in_ok-push.ensures.items

pub returns : goal.returns
returns c = grind (arith, length-states_of c.args.g.now c.args.self.now c.requires.edges, take_all)
