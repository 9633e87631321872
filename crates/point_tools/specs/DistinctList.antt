-- Distinct points, as an answer of a tool.
use Rattle.std.specs.Prelude.{ℕ, List}
use Rattle.points_in.specs.Text.{points_text}
use Rattle.point_tools.specs.declared.distinct_list.DistinctList.{DistinctList}

abbrev pub distinct_text : DistinctList → List ℕ
distinct_text list = points_text list.points
