-- What the tests of its members and of its edges tell of a packing.
use Rattle.std.proofs.Common.{ℕ, ◌≡◌, ◌<◌, ◌⊎◌, ◌↔◌, Bool, true, false, List, All, IsTrue, slice_get, Some, subst}
use Rattle.net_graph.specs.declared.edge.Edge.{Edge}
use Rattle.net_graph.specs.declared.state.EdgeState.{EdgeState}
use Rattle.net_graph.specs.declared.state.EdgeState.TheVariants.{Inside}
use Rattle.net_graph.specs.declared.packing.Cut.{Cut}
use Rattle.net_graph.specs.Flags.{has}
use Rattle.net_graph.specs.Graph.{Graph}
use Rattle.net_graph.specs.Decision.{Decided}
use Rattle.net_graph.specs.Packing.{IsCut, IsFeasible}
use Rattle.net_graph.specs.Feasible.{KeepsRoom}

-- the set holds no end of an inside edge among the first ones
abbrev pub NoEndHeldBelow : List Edge → List EdgeState → List Bool → ℕ → Type 0
NoEndHeldBelow edges states members bound =
    (k : ℕ) (e : Edge) → k < bound → slice_get states k ≡ Some Inside → slice_get edges k ≡ Some e → (has members e.a ≡ true) ⊎ (has members e.b ≡ true) → ⊥

-- each member is a cut with a weight of at least 1
abbrev pub AreCuts : Graph → Decided → List Cut → Type 0
AreCuts g d cuts = All (λ c. (0 < c.weight) × IsCut g d c.members) cuts

-- where the members are cuts, the packing is feasible if the edges keep their room
pub feasible_with_cuts : (g : Graph) (d : Decided) (packing cuts edges_cuts : List Cut) (good room : Bool) → cuts ≡ packing → edges_cuts ≡ packing →
    (IsTrue good ↔ AreCuts g d cuts) → good ≡ true → (IsTrue room ↔ ((n : ℕ) → KeepsRoom g d edges_cuts n)) → IsTrue room ↔ IsFeasible g d packing
feasible_with_cuts g d packing cuts edges_cuts good room same same_too members passed edges =
    let are = subst (AreCuts g d) same (members.0 passed) in
    let keeps = subst (λ xs. IsTrue room ↔ ((n : ℕ) → KeepsRoom g d xs n)) same_too edges in
    (λ holds. record { cuts = are; room = keeps.0 holds }, λ feasible. keeps.1 feasible.room)

-- where some member is no cut, the packing is not feasible
pub feasible_without_cuts : (g : Graph) (d : Decided) (packing cuts : List Cut) (good : Bool) → cuts ≡ packing →
    (IsTrue good ↔ AreCuts g d cuts) → good ≡ false → IsTrue good ↔ IsFeasible g d packing
feasible_without_cuts g d packing cuts good same members failed =
    let here = subst (λ xs. IsTrue good ↔ AreCuts g d xs) same members in
    (λ holds. absurd cc, λ feasible. here.1 feasible.cuts)
