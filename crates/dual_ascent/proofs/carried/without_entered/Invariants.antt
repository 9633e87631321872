use Rattle.std.proofs.Common.{◌≡◌, ◌*◌, ◌≤◌, Bool, not, filter, take, sum_by}
use Rattle.std.specs.List.{list_any}
use Rattle.net_graph.specs.declared.packing.Cut.{Cut}
use Rattle.net_graph.specs.Decision.{states_of}
use Rattle.dual_ascent.specs.Carried.{is_entered_along}
use Rattle.dual_ascent.specs.Costs.{costs_of}
use Rattle.dual_ascent.proofs.lemmas.CarriedCostLemmas.{those_left}
use Rattle.dual_ascent.proofs.carried.without_entered.Given as goal

-- what those leave that are there yet; and the weight of those that stay, each of which has 64 bits
abbrev pub invariant-loop-cut : goal.invariant-loop-cut
invariant-loop-cut l =
    let test : Cut → Bool = λ c. not (list_any (is_entered_along c.members) l.edges) in
    (l.left ≡ costs_of l.g.edges (states_of l.g l.before) (those_left test l.cuts l.cut-index))
    × ((l.weight ≡ sum_by (λ c. c.weight) (filter test (take l.cut-index l.cuts)))
    × (l.weight ≤ l.cut-index * 18446744073709551615))
