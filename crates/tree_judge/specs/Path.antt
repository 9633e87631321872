-- The way of splits to a node of a tree, and what is decided and due there.
use Rattle.std.specs.Prelude.{List, [], ◌∷◌, if◌then◌else◌}
use Rattle.net_graph.specs.Graph.{Graph}
use Rattle.net_graph.specs.Decision.{Decided}
use Rattle.cert_tree.specs.Decisions.{IsUndecidedSplit, inside_of}
use Rattle.cert_tree.specs.Way.{after_turn}
use Rattle.cert_tree.specs.declared.way.Turn.{Turn}

-- The decision under which a node stands, where this is decided at the top of its tree. Its way is the list of the
-- splits above it, the lowest of them first.
abbrev pub decision_along : Decided → List Turn → Decided
decision_along top [] = top
decision_along top (t ∷ above) = after_turn (decision_along top above) t

-- the decisions of the nodes that are due behind it, in preorder: of each split whose outside part it is in, the inside
-- one
abbrev pub decisions_behind : Decided → List Turn → List Decided
decisions_behind top [] = []
decisions_behind top (t ∷ above) =
    if t.inside then decisions_behind top above
    else inside_of (decision_along top above) t.on ∷ decisions_behind top above

-- what each split of the way is on is undecided above it
abbrev pub IsWay : Graph → Decided → List Turn → Type 0
IsWay g top [] = Unit {0}
IsWay g top (t ∷ above) = IsUndecidedSplit g (decision_along top above) t.on × IsWay g top above
