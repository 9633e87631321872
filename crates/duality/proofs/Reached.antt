-- Each cut of a feasible packing is entered by a network that agrees with the decision.
use Rattle.std.proofs.Common.{ℕ, ◌+◌, ◌<◌, ◌≤◌, Bool, List, [], ◌∷◌, arith}
use Rattle.std.specs.List.{AllByRecursion}
use Rattle.net_graph.specs.declared.packing.Cut.{Cut}
use Rattle.net_graph.specs.Graph.{Graph}
use Rattle.net_graph.specs.Network.{IsNetwork}
use Rattle.net_graph.specs.Decision.{Decided, Agrees}
use Rattle.net_graph.specs.Packing.{IsCut}
use Rattle.duality.specs.AgreeingLaws.{Reaches-from_required}
use Rattle.duality.proofs.Hops.{is_within_later, is_within-from_walk}
use Rattle.duality.proofs.Crossing.{Entry, Entry-from_within}

-- a cut is entered under each bound from some bound on
Entry-from_cut : (g : Graph) (d : Decided) (set : List Bool) (members : List Bool) → Agrees g d set → IsNetwork g set →
    IsCut g d members → (bound : ℕ) × ((hops : ℕ) → bound ≤ hops → Entry g set hops members)
Entry-from_cut g d set members agrees network cut =
    let (v, required, inside) = cut.required in
    let (n, walk) = Reaches-from_required g d set v agrees network required in (
      n,
      λ hops enough. Entry-from_within g set hops members v cut.rootless inside
          (is_within_later g set n hops v enough (is_within-from_walk g set n v walk)),
    )

-- and so are all cuts of a list, under one bound
pub entries_from_cuts : (g : Graph) (d : Decided) (set : List Bool) (cs : List Cut) → Agrees g d set → IsNetwork g set →
    AllByRecursion (λ c. (0 < c.weight) × IsCut g d c.members) cs →
    (bound : ℕ) × ((hops : ℕ) → bound ≤ hops → AllByRecursion (λ c. Entry g set hops c.members) cs)
entries_from_cuts g d set [] agrees network cuts = (0, λ hops enough. tt)
entries_from_cuts g d set (c ∷ cs) agrees network (cut, cuts) =
    let (j, entry) = Entry-from_cut g d set c.members agrees network cut.1 in
    let (k, entries) = entries_from_cuts g d set cs agrees network cuts in
    (j + k, λ hops enough. (entry hops (omega arith), entries hops (omega arith)))
