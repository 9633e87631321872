-- What a judge keeps is a fact with one proof at most.
use Rattle.std.specs.Prelude.{ℕ, ◌≡◌, List, [], ◌∷◌, slice_get, Some}
use Rattle.std.specs.Coded.{Coded-set, codes, le_prop, ×_prop, Unit-prop}
use Rattle.net_graph.specs.declared.state.EdgeState.TheVariants.{Undecided}
use Rattle.net_graph.specs.Graph.{Graph}
use Rattle.net_graph.specs.Decision.{Decided, IsVertexUndecided, states_of}
use Rattle.cert_tree.specs.declared.split.SplitOn.{SplitOn}
use Rattle.cert_tree.specs.declared.split.SplitOn.TheVariants.{Edge, Vertex}
use Rattle.cert_tree.specs.declared.way.Turn.{Turn}
use Rattle.cert_tree.specs.Decisions.{IsUndecidedSplit}
use Rattle.tree_judge.specs.declared.judge.Judge.{Judge}
use Rattle.tree_judge.specs.Path.{IsWay, decision_along}
use Rattle.tree_judge.specs.ArcLoads.{ArcLoads}
use Rattle.tree_judge.specs.declared.way.Way.{Way}
use Rattle.tree_judge.specs.Loads.{HasLoads}
use Rattle.tree_judge.specs.Ways.{HasStates, StandsOnWay}
use Rattle.tree_judge.specs.Standing.{IsJudgeOn}

IsVertexUndecided-prop : (g : Graph) (d : Decided) (v : ℕ) → IsProp (IsVertexUndecided g d v)
IsVertexUndecided-prop g d v = hlevel (le_prop)

IsUndecidedSplit-prop : (g : Graph) (d : Decided) (on : SplitOn) → IsProp (IsUndecidedSplit g d on)
IsUndecidedSplit-prop g d (Edge e) =
    let is : IsProp (slice_get (states_of g d) e ≡ Some Undecided) = hlevel (codes, Coded-set) in is
IsUndecidedSplit-prop g d (Vertex v) = IsVertexUndecided-prop g d v

IsWay-prop : (g : Graph) (top : Decided) (path : List Turn) → IsProp (IsWay g top path)
IsWay-prop g top [] = Unit-prop
IsWay-prop g top (t ∷ above) =
    ×_prop (IsUndecidedSplit-prop g (decision_along top above) t.on) (IsWay-prop g top above)

HasLoads-prop : (g : Graph) (loads : ArcLoads) → IsProp (HasLoads g loads)
HasLoads-prop g loads = hlevel (codes, Coded-set)

HasStates-prop : (g : Graph) (d : Decided) → IsProp (HasStates g d)
HasStates-prop g d = hlevel (codes, Coded-set)

StandsOnWay-prop : (g : Graph) (way : Way) → IsProp (StandsOnWay g way)
StandsOnWay-prop g way = hlevel (codes, Coded-set, HasStates-prop, IsWay-prop)

pub IsJudgeOn-prop : (g : Graph) (judge : Judge) → IsProp (IsJudgeOn g judge)
IsJudgeOn-prop g judge = hlevel (codes, Coded-set, le_prop, HasLoads-prop, StandsOnWay-prop)
