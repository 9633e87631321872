-- The way from the top of a tree to one of its leaves: the splits on it, each with the child that the leaf is in.
use Rattle.std.specs.Prelude.{ℕ, zero, suc, ◌+◌, ◌-◌, ◌<◌, Bool, true, false, ltb, List, [], ◌∷◌, length, slice_get, Option, Some, None, if◌then◌else◌}
use Rattle.net_graph.specs.declared.edge.Edge.{Edge}
use Rattle.net_graph.specs.Decision.{Decided}
use Rattle.cert_tree.specs.declared.split.SplitOn.{SplitOn}
use Rattle.cert_tree.specs.declared.split.SplitOn.TheVariants as split
use Rattle.cert_tree.specs.declared.way.Turn.{Turn}
use Rattle.cert_tree.specs.Tree.{Tree}
use Rattle.cert_tree.specs.Tree.Tree.{Leaf, Split}
use Rattle.cert_tree.specs.Preorder.{packings_of}
use Rattle.cert_tree.specs.Decisions.{outside_of, inside_of}

abbrev pub turn_of : SplitOn → Bool → Turn
turn_of on inside = record { on = on; inside = inside }

-- the way to a leaf from the top
abbrev pub way_to : Tree SplitOn → ℕ → List Turn
way_to (Leaf cuts) leaf = []
way_to (Split on outside inside) leaf =
    if ltb leaf (length (packings_of outside)) then turn_of on false ∷ way_to outside leaf
    else turn_of on true ∷ way_to inside (leaf - length (packings_of outside))

-- the decision of the child that a turn leads to
abbrev pub after_turn : Decided → Turn → Decided
after_turn d turn = if turn.inside then inside_of d turn.on else outside_of d turn.on

-- .. and after turns, one after another
abbrev pub after_turns : Decided → List Turn → Decided
after_turns d [] = d
after_turns d (turn ∷ turns) = after_turns (after_turn d turn) turns

-- The turns on the way up from a leaf, by the nodes that stand before it, the last of them first, where so many whole
-- trees stand between those nodes and the way. A split with none behind it has the leaf in its outside child; one with
-- one behind it has that as its outside child, and the leaf in its inside child; and one with more has two of them as
-- its children.
abbrev pub turns_up : List (Option SplitOn) → ℕ → List Turn
turns_up [] passed = []
turns_up (None ∷ nodes) passed = turns_up nodes (suc passed)
turns_up (Some on ∷ nodes) zero = turn_of on false ∷ turns_up nodes zero
turns_up (Some on ∷ nodes) (suc zero) = turn_of on true ∷ turns_up nodes zero
turns_up (Some on ∷ nodes) (suc (suc passed)) = turns_up nodes (suc passed)

-- the length of an edge, where there is one
abbrev pub length_at : Option Edge → ℕ
length_at None = 0
length_at (Some e) = e.length

-- the length of the edge that a split is on, where it is on one
abbrev pub length_on : List Edge → SplitOn → ℕ
length_on edges (split.Edge e) = length_at (slice_get edges e)
length_on edges (split.Vertex v) = 0

-- the length that a turn decides to be inside
abbrev pub inside_part : List Edge → Turn → ℕ
inside_part edges turn = if turn.inside then length_on edges turn.on else 0

-- .. and what turns do together
abbrev pub inside_parts : List Edge → List Turn → ℕ
inside_parts edges [] = 0
inside_parts edges (turn ∷ turns) = inside_part edges turn + inside_parts edges turns

-- an edge that a turn is on is one of the edges
abbrev pub IsSplitIn : List Edge → SplitOn → Type 0
IsSplitIn edges (split.Edge e) = e < length edges
IsSplitIn edges (split.Vertex v) = Unit {0}

abbrev pub IsTurnIn : List Edge → Turn → Type 0
IsTurnIn edges turn = IsSplitIn edges turn.on
