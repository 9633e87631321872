-- Which cut may stand behind others in a leaf, under the leaf's decision, and why a line of a cut is wrong.
use Rattle.std.specs.Prelude.{ℕ, ◌≡◌, ◌<◌, Bool, true, false, List, [], ◌∷◌, ◌++◌, slice_get, Some, ◌⊎◌}
use Rattle.net_graph.specs.declared.edge.Edge.{Edge}
use Rattle.net_graph.specs.declared.state.EdgeState.{EdgeState}
use Rattle.net_graph.specs.declared.packing.Cut.{Cut}
use Rattle.net_graph.specs.Flags.{has}
use Rattle.net_graph.specs.Graph.{Graph, root_of}
use Rattle.net_graph.specs.Decision.{Decided, IsRequired, states_of}
use Rattle.net_graph.specs.Packing.{IsCut, enters, load, room_of}
use Rattle.net_graph.specs.Feasible.{KeepsRoom}
use Rattle.tree_judge.specs.declared.cause.Cause.{Cause}
use Rattle.tree_judge.specs.declared.cause.Cause.TheVariants.{RootInCut, IdleCut, Overload}

-- the cut is one under the decision, and with it no arc is loaded above its room
pub record PacksCut (g : Graph) (d : Decided) (cuts : List Cut) (c : Cut) : Type 0 where
  pub cut : IsCut g d c.members
  pub room : (n : ℕ) → KeepsRoom g d (cuts ++ c ∷ []) n

-- a cut of this weight and these members
abbrev pub cut_of : ℕ → List Bool → Cut
cut_of weight members = record { weight = weight; members = members }

-- the set holds no required vertex, and not the root
pub record IsIdle (g : Graph) (d : Decided) (members : List Bool) : Type 0 where
  pub rootless : has members (root_of g) ≡ false
  pub idle : (v : ℕ) → IsRequired g d v → has members v ≡ false

-- the arc from u to v enters the set, and this is its load
abbrev pub IsEntered : List Cut → List Bool → ℕ → ℕ → ℕ → Type 0
IsEntered packing members u v amount = (enters members u v ≡ true) × (amount ≡ load packing u v)

-- an arc of this edge enters the set and is loaded above its room, and no edge of a lower number has such an arc
pub record IsFirstOverload (g : Graph) (d : Decided) (packing : List Cut) (members : List Bool) (edge amount room : ℕ)
    : Type 0 where
  pub is : Edge
  pub state : EdgeState
  pub at : slice_get g.edges edge ≡ Some is
  pub state_is : slice_get (states_of g d) edge ≡ Some state
  pub room_is : room_of state is ≡ Some room
  pub entered : IsEntered packing members is.a is.b amount ⊎ IsEntered packing members is.b is.a amount
  pub above : room < amount
  pub first : (m : ℕ) → m < edge → KeepsRoom g d packing m

-- why the line n with this cut is wrong behind these cuts
abbrev pub CutFault : Graph → Decided → List Cut → Cut → ℕ → Cause → Type 0
CutFault g d cuts c n (RootInCut line) = (line ≡ n) × (has c.members (root_of g) ≡ true)
CutFault g d cuts c n (IdleCut line) = (line ≡ n) × IsIdle g d c.members
CutFault g d cuts c n (Overload line edge amount room) =
    (line ≡ n) × IsCut g d c.members × IsFirstOverload g d (cuts ++ c ∷ []) c.members edge amount room
CutFault g d cuts c n cause = ⊥
