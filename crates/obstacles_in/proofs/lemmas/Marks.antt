-- How many lines points and boxes have.
use Rattle.std.specs.Prelude.{ℕ, ◌*◌, ◌≤◌, List, length, flat_map}
use Rattle.std.proofs.Common.{arith}
use Rattle.std.proofs.Math.Nat.{mul-le-mul}
use Rattle.std.proofs.lemmas.List.{length-append}
use Rattle.obstacles_in.specs.ObstaclesLaws.{length-corners}
use Rattle.points_in.specs.declared.point.Point.{Point}
use Rattle.hanan_grid.specs.GridLaws.{length-xs_of-le, length-ys_of-le}
use Rattle.obstacles_in.specs.declared.rectangle.Rectangle.{Rectangle}
use Rattle.obstacles_in.specs.Obstacles.{corners_of, marks_of, columns_of, rows_of}
use Rattle.obstacles_in.specs.Faults.{value_of}

few_marks : (ps : List Point) (bs : List Rectangle) → length ps ≤ 50 → length bs ≤ 25
    → length (marks_of (value_of ps bs)) ≤ 100
few_marks ps bs few few_boxes = omega (arith, length-append ps (flat_map corners_of bs), length-corners bs)

-- so there are at most 100 lines in each direction
pub few_columns : (ps : List Point) (bs : List Rectangle) → length ps ≤ 50 → length bs ≤ 25
    → length (columns_of (value_of ps bs)) ≤ 100
few_columns ps bs few few_boxes =
    omega (arith, few_marks ps bs few few_boxes, length-xs_of-le (marks_of (value_of ps bs)))

pub few_rows : (ps : List Point) (bs : List Rectangle) → length ps ≤ 50 → length bs ≤ 25
    → length (rows_of (value_of ps bs)) ≤ 100
few_rows ps bs few few_boxes = omega (arith, few_marks ps bs few few_boxes, length-ys_of-le (marks_of (value_of ps bs)))

-- and so at most 10,000 crossings
pub few_crossings : (a b : ℕ) → a ≤ 100 → b ≤ 100 → a * b ≤ 10000
few_crossings a b few few_others = mul-le-mul few few_others
