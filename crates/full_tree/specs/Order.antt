-- The orders of codes and of trees, and when a list of trees is in order.
use Rattle.std.specs.Prelude.{ℕ, ◌≡◌, List, length, AllPairs}
use Rattle.std.specs.declared.cmp.Ordering.{Ordering}
use Rattle.std.specs.declared.cmp.Ordering.TheVariants.{Less, Greater}
use Rattle.std.specs.Ordering.{nat_cmp, ordering_then}
use Rattle.std.specs.Option.{option_cmp}
use Rattle.std.specs.Cmp.Lexicographic.{slice_cmp}
use Rattle.full_tree.specs.declared.way.Way.{Way}
use Rattle.full_tree.specs.declared.way.Way.TheVariants.{East, North, West, South}
use Rattle.full_tree.specs.declared.code.Tree.{Tree}
use Rattle.full_tree.specs.declared.code.TreeCode.{TreeCode}
use Rattle.full_tree.specs.declared.code.TreeCode.TheVariants.{Long, Cross}
use Rattle.full_tree.specs.Code.{members_of}

-- the rank of a direction
abbrev pub way_rank : Way → ℕ
way_rank East = 0
way_rank North = 1
way_rank West = 2
way_rank South = 3

-- Long codes come before crosses. Long codes go by root, direction, drops as lists, side and tip, where a
-- list comes before those that it begins and no side before any; crosses go by west, south, east and north.
abbrev pub code_cmp : TreeCode → TreeCode → Ordering
code_cmp (Long r w ds q t) (Long r' w' ds' q' t') =
    ordering_then (nat_cmp r r')
    (ordering_then (nat_cmp (way_rank w) (way_rank w'))
    (ordering_then (slice_cmp nat_cmp ds ds')
    (ordering_then (option_cmp nat_cmp q q') (nat_cmp t t'))))
code_cmp (Long r w ds q t) (Cross w' s e n) = Less
code_cmp (Cross w s e n) (Long r w' ds q t) = Greater
code_cmp (Cross w s e n) (Cross w' s' e' n') =
    ordering_then (nat_cmp w w') (ordering_then (nat_cmp s s') (ordering_then (nat_cmp e e') (nat_cmp n n')))

-- File order: by length, number of members, members as lists and code.
abbrev pub tree_cmp : Tree → Tree → Ordering
tree_cmp a b =
    ordering_then (nat_cmp a.length b.length)
    (ordering_then (nat_cmp (length (members_of a.code)) (length (members_of b.code)))
    (ordering_then (slice_cmp nat_cmp (members_of a.code) (members_of b.code)) (code_cmp a.code b.code)))

-- a list of trees in strictly ascending file order
abbrev pub IsInFileOrder : List Tree → Type 0
IsInFileOrder trees = AllPairs (λ a b. tree_cmp a b ≡ Less) trees
