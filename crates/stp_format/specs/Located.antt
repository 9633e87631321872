-- The points of a file's terminals.
use Rattle.std.specs.Prelude.{ℕ, ◌==◌, ◌++◌, if◌then◌else◌, List, [], ◌∷◌, length, Result, Ok, Err}
use Rattle.std.specs.List.{list_any}
use Rattle.points_in.specs.declared.point.Point.{Point}
use Rattle.points_in.specs.Terminals.{same_point}
use Rattle.stp_format.specs.declared.fault.StpFault.{StpFault}
use Rattle.stp_format.specs.declared.fault.StpFault.TheVariants.{MissingSection, NoTerminals, NoCoordinates, TooManyPoints}
use Rattle.stp_format.specs.declared.fault.StpSection.TheVariants as section
use Rattle.stp_format.specs.Numbers.{or_fault}
use Rattle.stp_format.specs.Value.{StpValue, point_of_node}
use Rattle.stp_format.specs.Sections.{◌>>=◌}

-- A node's point behind distinct points: a repeated one is dropped, and there are 50 at most.
abbrev pub with_point : ℕ → List Point → Point → Result (List Point) StpFault
with_point node points p =
    if list_any (same_point p) points then Ok points
    else (if length points == 50 then Err (TooManyPoints node) else Ok (points ++ p ∷ []))

-- the points of nodes in turn, behind distinct points
abbrev pub with_nodes : List (ℕ × Point) → List Point → List ℕ → Result (List Point) StpFault
with_nodes located points [] = Ok points
with_nodes located points (node ∷ nodes) = do
  p ← or_fault (NoCoordinates node) (point_of_node located node)
  more ← with_point node points p
  with_nodes located more nodes

-- The distinct points of a file's terminals in their order, or the first reason why there are none.
abbrev pub terminal_points : StpValue → Result (List Point) StpFault
terminal_points v =
    if length v.terminals == 0 then Err NoTerminals
    else (or_fault (MissingSection section.Coordinates) v.coordinates >>= λ located. with_nodes located [] v.terminals)
