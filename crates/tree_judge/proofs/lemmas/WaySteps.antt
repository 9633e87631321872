-- How the way to a node goes on: down into an outside part, over to an inside part, and up.
use Rattle.std.proofs.Common.{◌≡◌, Bool, true, false, not, List, ◌∷◌, length, drop, get_or, refl, subst, arith, length-set}
use Rattle.std.specs.Prelude.{if◌then◌else◌}
use Rattle.std.proofs.lemmas.Option.{slice_get_within}
use Rattle.net_graph.specs.declared.state.EdgeState.TheVariants.{Undecided, Inside, Outside}
use Rattle.net_graph.specs.declared.state.VertexState.TheVariants.{Met, Missed}
use Rattle.net_graph.specs.declared.state.VertexState.TheVariants as vertex
use Rattle.net_graph.specs.Graph.{Graph}
use Rattle.net_graph.specs.Decision.{Decided, nothing_decided}
use Rattle.net_graph.specs.DecisionLaws.{states_of-parts}
use Rattle.cert_tree.specs.declared.split.SplitOn.{SplitOn}
use Rattle.cert_tree.specs.declared.split.SplitOn.TheVariants as split
use Rattle.cert_tree.specs.Decisions.{IsUndecidedSplit, outside_of, inside_of}
use Rattle.cert_tree.specs.declared.way.Turn.{Turn}
use Rattle.cert_tree.specs.Way.{after_turn}
use Rattle.tree_judge.specs.Path.{IsWay, decision_along, decisions_behind}
use Rattle.tree_judge.specs.declared.way.Way.{Way}
use Rattle.tree_judge.specs.Ways.{HasState, HasStates, StandsOnWay, undecided_of}
use Rattle.tree_judge.proofs.lemmas.Turns.{inside_again, undecided_again}

-- what a negated flag tells
pub flag_off : (flag : Bool) → not flag ≡ true → flag ≡ false
flag_off true is = cc
flag_off false is = refl

pub flag_on : (flag : Bool) → not flag ≡ false → flag ≡ true
flag_on true is = refl
flag_on false is = cc

-- ---- sizes

-- there are as many states
record SameSizes (old new : Decided) : Type 0 where
  edges : length new.edges ≡ length old.edges
  vertices : length new.vertices ≡ length old.vertices

SameSizes-inside : (d : Decided) (on : SplitOn) → SameSizes d (inside_of d on)
SameSizes-inside d (split.Edge n) = record { edges = length-set d.edges n Inside; vertices = refl }
SameSizes-inside d (split.Vertex v) = record { edges = refl; vertices = length-set d.vertices v Met }

SameSizes-outside : (d : Decided) (on : SplitOn) → SameSizes d (outside_of d on)
SameSizes-outside d (split.Edge n) = record { edges = length-set d.edges n Outside; vertices = refl }
SameSizes-outside d (split.Vertex v) = record { edges = refl; vertices = length-set d.vertices v Missed }

SameSizes-undecided : (d : Decided) (on : SplitOn) → SameSizes d (undecided_of d on)
SameSizes-undecided d (split.Edge n) = record { edges = length-set d.edges n Undecided; vertices = refl }
SameSizes-undecided d (split.Vertex v) = record { edges = refl; vertices = length-set d.vertices v vertex.Undecided }

SameSizes-by : (d : Decided) (on : SplitOn) (inside : Bool) → SameSizes d (if inside then inside_of d on else outside_of d on)
SameSizes-by d on true = SameSizes-inside d on
SameSizes-by d on false = SameSizes-outside d on

-- so they are those of the graph
HasStates-sizes : (g : Graph) (old new : Decided) → SameSizes old new → HasStates g old → HasStates g new
HasStates-sizes g old new same states = grind arith

-- what a split is on that is undecided has a state
pub undecided_has_state : (g : Graph) (d own : Decided) (on : SplitOn) → HasStates g own → IsUndecidedSplit g d on →
    HasState own on
undecided_has_state g d own (split.Edge n) states undecided =
    grind (arith, states_of-parts g d n Undecided undecided, slice_get_within)
undecided_has_state g d own (split.Vertex v) states undecided = omega (arith, undecided.vertex, states.vertices)

-- ---- down

-- a part of a split on what is undecided
pub StandsOnWay-down : (g : Graph) (t : Turn) (old new : Way) → StandsOnWay g old →
    IsUndecidedSplit g old.decided t.on → new ≡ record old { decided = after_turn old.decided t; path = t ∷ old.path } →
    StandsOnWay g new
StandsOnWay-down g t old new stands undecided told =
    grind (arith, HasStates-sizes g old.decided (after_turn old.decided t) (SameSizes-by old.decided t.on t.inside) stands.states)

-- ---- up and over

-- what the lowest split is on was undecided above it
pub lowest_undecided : (g : Graph) (t : Turn) (above : List Turn) (way : Way) → StandsOnWay g way → way.path ≡ t ∷ above →
    IsUndecidedSplit g (decision_along (nothing_decided g) above) t.on
lowest_undecided g t above way stands is = (subst (IsWay g (nothing_decided g)) is stands.splits).0

pub lowest_has_state : (g : Graph) (t : Turn) (above : List Turn) (way : Way) → StandsOnWay g way → way.path ≡ t ∷ above →
    HasState way.decided t.on
lowest_has_state g t above way stands is =
    grind (arith, undecided_has_state g (decision_along (nothing_decided g) above) way.decided t.on stands.states (lowest_undecided g t above way stands is))

-- what is decided is what was decided above the lowest split and by that split
decided_below : (g : Graph) (t : Turn) (above : List Turn) (way : Way) (inside : Bool) → StandsOnWay g way →
    way.path ≡ t ∷ above → t.inside ≡ inside →
    way.decided ≡ after_turn (decision_along (nothing_decided g) above) (record { on = t.on; inside = inside })
decided_below g t above way inside stands is side = grind arith

-- the nodes that are due behind the lowest split and above it
behind_below : (g : Graph) (t : Turn) (above : List Turn) (way : Way) (inside : Bool) → way.path ≡ t ∷ above →
    t.inside ≡ inside →
    decisions_behind (nothing_decided g) way.path
    ≡ decisions_behind (nothing_decided g) (record { on = t.on; inside = inside } ∷ above)
behind_below g t above way inside is side = grind arith

-- out of an inside part: what the split is on is undecided again, and the same nodes are due
pub StandsOnWay-up : (g : Graph) (t : Turn) (above : List Turn) (old new : Way) → StandsOnWay g old → old.path ≡ t ∷ above → t.inside ≡ true →
    new ≡ record old { decided = undecided_of old.decided t.on; path = above } →
    StandsOnWay g new × (decisions_behind (nothing_decided g) new.path ≡ decisions_behind (nothing_decided g) old.path)
StandsOnWay-up g t above old new stands is inside told =
    grind (
      arith,
      HasStates-sizes g old.decided (undecided_of old.decided t.on) (SameSizes-undecided old.decided t.on) stands.states,
      decided_below g t above old true stands is inside,
      undecided_again g (decision_along (nothing_decided g) above) t.on (lowest_undecided g t above old stands is),
      behind_below g t above old true is inside,
    )

-- out of an outside part into the inside one: the first node that was due
pub record GoesInside (g : Graph) (old new : Way) : Type 0 where
  pub stands : StandsOnWay g new
  pub decision : new.decided ≡ get_or (decisions_behind (nothing_decided g) old.path) 0 (nothing_decided g)
  pub behind : decisions_behind (nothing_decided g) new.path ≡ drop 1 (decisions_behind (nothing_decided g) old.path)

pub GoesInside-over : (g : Graph) (t : Turn) (above : List Turn) (old new : Way) → StandsOnWay g old → old.path ≡ t ∷ above → t.inside ≡ false →
    new ≡ record old { decided = inside_of old.decided t.on; path = record { on = t.on; inside = true } ∷ above } → GoesInside g old new
GoesInside-over g t above old new stands is outside told =
    grind (
      arith,
      decided_below g t above old false stands is outside,
      inside_again (decision_along (nothing_decided g) above) t.on,
      behind_below g t above old false is outside,
      HasStates-sizes g old.decided (inside_of old.decided t.on) (SameSizes-inside old.decided t.on) stands.states,
      lowest_undecided g t above old stands is,
    )
