-- Points and boxes as a text of sections.
use Rattle.std.specs.Prelude.{ℕ, List}
use Rattle.std.proofs.Common.{arith}
use Rattle.section_text.specs.Text.{Spells}
use Rattle.obstacles_in.specs.Obstacles.{ObstaclesValue}
use Rattle.obstacles_in.specs.Format.{obstacles_format}
use Rattle.obstacles_in.specs.Text.{SpellsObstacles}

pub spelled_obstacles : (bytes : List ℕ) (v : ObstaclesValue) → Spells obstacles_format bytes v →
    SpellsObstacles bytes v
spelled_obstacles bytes v is = grind arith

pub obstacles_spelled : (bytes : List ℕ) (v : ObstaclesValue) → SpellsObstacles bytes v →
    Spells obstacles_format bytes v
obstacles_spelled bytes v is = grind arith
