-- What made all openings is told as it is.
use Rattle.std.proofs.Common.{List, Bool, refl, subst}
use Rattle.net_graph.specs.Network.{length_of}
use Rattle.branch.specs.declared.split_kind.SplitKind.TheVariants as kind
use Rattle.graph_search.specs.Anew.{IsFoundOnEdges}
use Rattle.graph_search.proofs.AnewLemmas.{anew_told}
use Rattle.graph_search.proofs.anew.raised_by_values.Goals as goal

pub returns-then-is_whole : goal.returns-then-is_whole
returns-then-is_whole c =
    let found =
    subst (λ (set : List Bool). IsFoundOnEdges c.args.graph.now (length_of c.args.graph.now set) c.args.openings c.in_ok-found.found)
    c.in_ok-begun.ensures c.in_ok-found.ensures in
    λ first_length told.
    anew_told c.args.graph.now kind.Edges c.args.openings first_length c.args.stopped c.in_ok-found.found refl told
    found (c.is_whole.ensures c.if-is_whole.true)
