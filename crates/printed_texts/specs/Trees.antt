-- The text that lists trees (this project's own format).
use Rattle.std.specs.Prelude.{ℕ, Bool, List, [], ◌++◌, flat_map, codes, if◌then◌else◌}
use Rattle.std.specs.Fmt.{decimal, signed_decimal}
use Rattle.points_in.specs.declared.point.Point.{Point}
use Rattle.full_tree.specs.declared.straight.Piece.{Piece}
use Rattle.full_tree.specs.declared.code.Tree.{Tree}
use Rattle.full_tree.specs.Code.{members_of}
use Rattle.full_tree.specs.Pieces.{pieces_of}

-- places, each with a blank behind it
abbrev pub places_text : List ℕ → List ℕ
places_text places = flat_map (λ k. decimal k ++ codes " ") places

-- the line of a tree: its members in ascending order, and its length
abbrev pub tree_line : Tree → List ℕ
tree_line tree = places_text (members_of tree.code) ++ codes "length " ++ decimal tree.length ++ codes "\n"

-- a point by its coordinates
abbrev pub point_text : Point → List ℕ
point_text p = signed_decimal p.x ++ codes " " ++ signed_decimal p.y

-- the line of a piece: its two ends
abbrev pub piece_line : Piece → List ℕ
piece_line piece = codes "  " ++ point_text piece.from ++ codes " " ++ point_text piece.to ++ codes "\n"

-- the lines of a tree of the points: its own, and those of its pieces in their order where they are asked for
abbrev pub tree_lines : List Point → Bool → Tree → List ℕ
tree_lines ps pieces tree = tree_line tree ++ (if pieces then flat_map piece_line (pieces_of ps tree.code) else [])

-- the list of trees of the points, with or without their pieces
abbrev pub tree_list_text : List Point → Bool → List Tree → List ℕ
tree_list_text ps pieces trees = flat_map (tree_lines ps pieces) trees
