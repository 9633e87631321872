-- A tree bounds networks: each network agrees with the decision of one of a split's children.
use Rattle.std.proofs.Common.{ℕ, ◌≡◌, ◌<◌, ◌⊎◌, inl, inr, ⊎_elim, Bool, true, false, List, length, slice_get, Option, Some, None, refl, arith}
use Rattle.std.specs.Prelude.{slice_set}
use Rattle.std.proofs.lemmas.Bool.{cases_eq}
use Rattle.std.proofs.lemmas.Option.{same_Some}
use Rattle.net_graph.specs.declared.edge.Edge.{Edge}
use Rattle.net_graph.specs.declared.state.EdgeState.TheVariants.{Inside, Outside}
use Rattle.net_graph.specs.declared.state.VertexState.TheVariants.{Met, Missed}
use Rattle.net_graph.specs.Graph.{Graph}
use Rattle.net_graph.specs.Network.{Reaches}
use Rattle.net_graph.specs.EntryLaws.{slice_get-set_same, slice_get-set_other}
use Rattle.net_graph.specs.Decision.{Decided, Agrees, InRootPart, IsDecisionFor, with_edge, with_vertex}
use Rattle.net_graph.specs.DecisionLaws.{IsUndecided-parts, decided_at}
use Rattle.cert_tree.specs.declared.split.SplitOn.{SplitOn}
use Rattle.cert_tree.specs.declared.split.SplitOn.TheVariants as split
use Rattle.cert_tree.specs.Tree.Tree.{Leaf, Split}
use Rattle.cert_tree.specs.Decisions.{IsUndecidedSplit, outside_of, inside_of}
use Rattle.cert_tree.specs.LeafLaws.{IsDecisionFor-outside_of, IsDecisionFor-inside_of}
use Rattle.cert_tree.specs.TreeValue.{TreesBoundNetworks}
use Rattle.duality.specs.Duality.{WeakDuality}
use Rattle.cert_tree.proofs.lemmas.Reached.{Reaches-decided}

-- a flag is set or it isn't
flag-decided : (flag : Option Bool) → (flag ≡ Some true) ⊎ (flag ≡ Some true → ⊥)
flag-decided None = inr (λ is. absurd cc)
flag-decided (Some true) = inl refl
flag-decided (Some false) = inr (λ is. absurd cc)

-- an edge is in the root part or it isn't
InRootPart-decided : (g : Graph) (set : List Bool) (n : ℕ) (e : Edge) → slice_get g.edges n ≡ Some e →
    InRootPart g set n ⊎ (InRootPart g set n → ⊥)
InRootPart-decided g set n e at =
    grind (arith, same_Some, Reaches-decided g set e.b, Reaches-decided g set e.a, flag-decided (slice_get set n))

-- a state in a list in which one was written is that one, or it was there before
state_written : {A : Type 0} (xs : List A) (n k : ℕ) (x y : A) → n < length xs →
    slice_get (slice_set xs n x) k ≡ Some y →
    ((k ≡ n) × (x ≡ y)) ⊎ (slice_get xs k ≡ Some y)
state_written xs n k x y within found =
    grind (arith, cases_eq k n, same_Some, slice_get-set_same xs n x within, slice_get-set_other)

-- a set that agrees and has the edge in its root part agrees where the edge is inside
Agrees-with_inside : (g : Graph) (d : Decided) (set : List Bool) (n : ℕ) → n < length d.edges → Agrees g d set →
    InRootPart g set n → Agrees g (with_edge d n Inside) set
Agrees-with_inside g d set n within agrees part = grind (arith, state_written)

-- .. and one that hasn't agrees where it is outside
Agrees-with_outside : (g : Graph) (d : Decided) (set : List Bool) (n : ℕ) → n < length d.edges → Agrees g d set →
    (InRootPart g set n → ⊥) → Agrees g (with_edge d n Outside) set
Agrees-with_outside g d set n within agrees apart = grind (arith, state_written)

-- a set that agrees and reaches the vertex agrees where it is met
Agrees-with_met : (g : Graph) (d : Decided) (set : List Bool) (v : ℕ) → v < length d.vertices → Agrees g d set →
    Reaches g set v → Agrees g (with_vertex d v Met) set
Agrees-with_met g d set v within agrees reached = grind (arith, state_written)

-- .. and one that doesn't agrees where it is missed
Agrees-with_missed : (g : Graph) (d : Decided) (set : List Bool) (v : ℕ) → v < length d.vertices → Agrees g d set →
    (Reaches g set v → ⊥) → Agrees g (with_vertex d v Missed) set
Agrees-with_missed g d set v within agrees apart = grind (arith, state_written)

-- a set that agrees with a decision agrees with that of one of a split's children
Agrees-child : (g : Graph) (d : Decided) (set : List Bool) (on : SplitOn) → IsDecisionFor g d →
    IsUndecidedSplit g d on → Agrees g d set →
    Agrees g (outside_of d on) set ⊎ Agrees g (inside_of d on) set
Agrees-child g d set (split.Edge n) decision undecided agrees =
    let (within, bare, not_free) = IsUndecided-parts g d n decision undecided in
    let (e, state, at, decided) = decided_at g d n decision within in
    let listed : n < length d.edges = omega (arith, decision.edges) in
    ⊎_elim
    (λ (part : InRootPart g set n). inr (Agrees-with_inside g d set n listed agrees part))
    (λ (apart : InRootPart g set n → ⊥). inl (Agrees-with_outside g d set n listed agrees apart))
    (InRootPart-decided g set n e at)
Agrees-child g d set (split.Vertex v) decision undecided agrees =
    let listed : v < length d.vertices = omega (arith, decision.vertices, undecided.vertex) in
    ⊎_elim
    (λ (reached : Reaches g set v). inr (Agrees-with_met g d set v listed agrees reached))
    (λ (apart : Reaches g set v → ⊥). inl (Agrees-with_missed g d set v listed agrees apart))
    (Reaches-decided g set v)

-- by weak duality at the leaves
pub trees_bound_networks_lem : WeakDuality → TreesBoundNetworks
trees_bound_networks_lem duality g d (Leaf cuts) decision valid set agrees network =
    duality g d cuts decision valid set agrees network
trees_bound_networks_lem duality g d (Split on o i) decision (undecided, first, second) set agrees network =
    ⊎_elim
    (λ (out : Agrees g (outside_of d on) set).
    omega (
      arith,
      trees_bound_networks_lem duality g (outside_of d on) o
          (IsDecisionFor-outside_of g d on decision undecided) first set out network,
    ))
    (λ (in_part : Agrees g (inside_of d on) set).
    omega (
      arith,
      trees_bound_networks_lem duality g (inside_of d on) i
          (IsDecisionFor-inside_of g d on decision undecided) second set in_part network,
    ))
    (Agrees-child g d set on decision undecided agrees)
