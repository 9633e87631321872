-- What is kept of a leaf's cuts, of which some were read.
use Rattle.std.specs.Prelude.{ℕ, ◌≡◌, ◌≢◌, ◌-◌, ◌^◌, ◌<◌, ◌≤◌, Bool, List, [], ◌∷◌, ◌++◌, length, min, sum_by}
use Rattle.std.specs.Prelude.{slice_get, slice_index, Some, IfSome, ◌⊎◌}
use Rattle.net_graph.specs.declared.edge.Edge.{Edge}
use Rattle.net_graph.specs.declared.state.EdgeState.{EdgeState}
use Rattle.net_graph.specs.declared.packing.Cut.{Cut}
use Rattle.net_graph.specs.Graph.{Graph}
use Rattle.net_graph.specs.Decision.{Decided, states_of}
use Rattle.net_graph.specs.Packing.{load, room_of}
use Rattle.tree_judge.specs.declared.leaf.Excess.{Excess}
use Rattle.tree_judge.specs.Cuts.{IsEntered}
use Rattle.tree_judge.specs.ArcLoads.{ArcLoads}

-- an arc's load is kept where the arc has a room, and is within it
abbrev pub IsLoadKept : EdgeState → Edge → ℕ → ℕ → Type 0
IsLoadKept state e amount kept = IfSome (room_of state e) (λ room. (kept ≡ amount) × (amount ≤ room))

-- the loads of both arcs of an edge are kept
pub record KeepsLoads (state : EdgeState) (e : Edge) (cuts : List Cut) (there back : ℕ) : Type 0 where
  pub forward : IsLoadKept state e (load cuts e.a e.b) there
  pub backward : IsLoadKept state e (load cuts e.b e.a) back

-- the loads of the arcs of the edge of this number are kept, by its state under what is decided
abbrev pub KeepsEdge : Graph → List Cut → Decided → ArcLoads → ℕ → Type 0
KeepsEdge g cuts d loads n = (e : Edge) (state : EdgeState) → slice_get g.edges n ≡ Some e →
    slice_get (states_of g d) n ≡ Some state →
    KeepsLoads state e cuts (slice_index loads.there n) (slice_index loads.back n)

-- these cuts were read, which load no arc above its room
abbrev pub IsLeafOf : Graph → List Cut → Decided → ArcLoads → Type 0
IsLeafOf g cuts d loads = (n : ℕ) → KeepsEdge g cuts d loads n

-- the first edges are loaded with one more cut, and the others are not yet
pub record LoadsBelow (g : Graph) (cuts : List Cut) (c : Cut) (n : ℕ) (d : Decided) (loads : ArcLoads) : Type 0 where
  pub passed : (k : ℕ) → k < n → KeepsEdge g (cuts ++ c ∷ []) d loads k
  pub ahead : (k : ℕ) → n ≤ k → KeepsEdge g cuts d loads k

-- the sum of the weights, or 2^64-1 where it is more
abbrev pub weight_kept : List Cut → ℕ
weight_kept cuts = min (sum_by (λ c. c.weight) cuts) (2 ^ 64 - 1)

-- there is a load of each arc of the graph
pub record HasLoads (g : Graph) (loads : ArcLoads) : Type 0 where
  pub there : length loads.there ≡ length g.edges
  pub back : length loads.back ≡ length g.edges

-- all loads stay but those of the edge n
pub record LoadsOnly (n : ℕ) (old new : ArcLoads) : Type 0 where
  pub there_size : length new.there ≡ length old.there
  pub back_size : length new.back ≡ length old.back
  pub there : (k : ℕ) → k ≢ n → slice_index new.there k ≡ slice_index old.there k
  pub back : (k : ℕ) → k ≢ n → slice_index new.back k ≡ slice_index old.back k

-- an arc of the edge enters the set, and is loaded above its room by so much
pub record IsOverload (state : EdgeState) (e : Edge) (packing : List Cut) (members : List Bool) (over : Excess)
    : Type 0 where
  pub room : room_of state e ≡ Some over.room
  pub entered : IsEntered packing members e.a e.b over.load ⊎ IsEntered packing members e.b e.a over.load
  pub above : over.room < over.load
