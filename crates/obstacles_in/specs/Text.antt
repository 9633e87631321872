-- The text of points and boxes. It is this project's own.
use Rattle.std.specs.Prelude.{ℕ, ◌≡◌, List}
use Rattle.text_in.specs.Lines.{text_of}
use Rattle.section_text.specs.Text.{section_lines}
use Rattle.obstacles_in.specs.Obstacles.{ObstaclesValue, AreObstacles}
use Rattle.obstacles_in.specs.Format.{obstacles_format}

-- The lines: the title, how many points there are, the points, how many boxes there are, the boxes, and the end.
abbrev pub obstacles_lines : ObstaclesValue → List (List (List ℕ))
obstacles_lines v = section_lines obstacles_format v.points v.boxes

-- the spelling of a value
abbrev pub obstacles_text : ObstaclesValue → List ℕ
obstacles_text v = text_of (obstacles_lines v)

-- the bytes spell points and boxes
pub record SpellsObstacles (bytes : List ℕ) (v : ObstaclesValue) : Type 0 where
  pub value : AreObstacles v
  pub text : bytes ≡ obstacles_text v
