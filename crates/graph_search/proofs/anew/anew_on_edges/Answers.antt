-- What closes by chains is told as it is.
use Rattle.std.proofs.Common.{◌≡◌, true, Option, refl, subst}
use Rattle.std.specs.Option.{IfSome}
use Rattle.net_graph.specs.Network.{length_of}
use Rattle.branch.specs.declared.solved.Solved.{Solved}
use Rattle.branch.specs.declared.split_kind.SplitKind.TheVariants as kind
use Rattle.graph_search.specs.Anew.{IsFoundOnEdges}
use Rattle.graph_search.proofs.AnewLemmas.{closed_told}
use Rattle.graph_search.proofs.anew.anew_on_edges.Goals as goal

pub returns-in-Some : goal.returns-in-Some
returns-in-Some c =
    let is =
    subst (λ (o : Option Solved). IfSome o (λ (s : Solved). IsFoundOnEdges c.args.graph.now
    (length_of c.args.graph.now c.args.stopped.network) c.args.openings s × (s.optimal ≡ true)))
    c.in-Some.is c.in_ok-found.ensures in
    λ first_length told.
    closed_told c.args.graph.now kind.Edges c.args.openings first_length c.args.stopped c.in-Some.found refl told is.0 is.1
