-- Drawn points, as an answer of a tool.
use Rattle.std.specs.Prelude.{ℕ, List}
use Rattle.points_in.specs.Text.{points_text}
use Rattle.point_tools.specs.declared.drawn_list.DrawnList.{DrawnList}

abbrev pub drawn_text : DrawnList → List ℕ
drawn_text list = points_text list.drawn
