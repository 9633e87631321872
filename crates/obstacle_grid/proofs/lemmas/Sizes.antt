-- How many lines, crossings and edges there are.
use Rattle.std.specs.Prelude.{ℕ, ◌+◌, ◌-◌, ◌*◌, ◌≡◌, ◌≤◌, ◌<◌, length, flat_map}
use Rattle.std.proofs.Common.{arith, inl, inr}
use Rattle.std.proofs.lemmas.Bool.{cases_lt}
use Rattle.std.proofs.lemmas.List.{length-append}
use Rattle.std.proofs.lemmas.Nat.{mul-le}
use Rattle.obstacles_in.specs.ObstaclesLaws.{length-corners}
use Rattle.obstacles_in.specs.Obstacles.{ObstaclesValue, AreObstacles, corners_of, marks_of, columns_of, rows_of}
use Rattle.hanan_grid.specs.GridLaws.{length-xs_of-le, length-ys_of-le, length-xs_of-positive, length-ys_of-positive}
use Rattle.hanan_grid.specs.GridLaws.{edges_of_lines, length-edges_of_lines}

-- ---- lines

-- how many marks there are
pub length-marks : (o : ObstaclesValue) → length (marks_of o) ≡ length o.points + (length o.boxes + length o.boxes)
length-marks o = omega (arith, length-append o.points (flat_map corners_of o.boxes), length-corners o.boxes)

-- at most 100
few_marks : (o : ObstaclesValue) → AreObstacles o → length (marks_of o) ≤ 100
few_marks o are = omega (arith, length-marks o, are.points.few, are.few)

some_marks : (o : ObstaclesValue) → AreObstacles o → 0 < length (marks_of o)
some_marks o are = omega (arith, length-marks o, are.points.some)

-- 1 to 100 lines each way
pub few_columns : (o : ObstaclesValue) → AreObstacles o → length (columns_of o) ≤ 100
few_columns o are = omega (arith, length-xs_of-le (marks_of o), few_marks o are)

pub few_rows : (o : ObstaclesValue) → AreObstacles o → length (rows_of o) ≤ 100
few_rows o are = omega (arith, length-ys_of-le (marks_of o), few_marks o are)

pub some_columns : (o : ObstaclesValue) → AreObstacles o → 0 < length (columns_of o)
some_columns o are = length-xs_of-positive (marks_of o) (some_marks o are)

pub some_rows : (o : ObstaclesValue) → AreObstacles o → 0 < length (rows_of o)
some_rows o are = length-ys_of-positive (marks_of o) (some_marks o are)

-- ---- edges

-- two numbers whose sum is at most 97, of which the first is at most 48, have a product of at most 48 * 49
narrow : (a b : ℕ) → a + b ≤ 97 → a ≤ 48 → a * b ≤ 2352
narrow a b sum small =
    let e = 48 - a in
    let wide = mul-le a b a (49 + e) (omega arith) (omega arith) in
    let rest = mul-le a e 49 e (omega arith) (omega arith) in
    let parts : a * (49 + e) ≡ a * 49 + a * e = omega arith in
    omega (arith, wide, rest, parts)

-- so do they in either order
narrow_either : (a b : ℕ) → a + b ≤ 97 → a * b ≤ 2352
narrow_either a b sum = elim (cases_lt a 49) [
  | inl small ↦ narrow a b sum (omega arith)
  | inr large ↦ let turned : a * b ≡ b * a = omega arith in
      omega (arith, turned, narrow b a (omega arith) (omega arith))
]

-- at most 2,500 crossings of a + 1 and b + 1 lines make at most 4,900 edges
few_edges_between : (a b : ℕ) → (a + 1) * (b + 1) ≤ 2500 → (b + 1) * a + b * (a + 1) ≤ 4900
few_edges_between a b few = grind (arith, cases_lt (a + b) 98, narrow_either)

-- the same by the counts of the lines
few_edges_of_counts : (nx ny : ℕ) → 0 < nx → 0 < ny → nx * ny ≤ 2500 → ny * (nx - 1) + (ny - 1) * nx ≤ 4900
few_edges_of_counts nx ny some some' few = grind (arith, few_edges_between)

-- the grid has at most 4,900 edges
pub few_edges : (o : ObstaclesValue) → AreObstacles o → length (edges_of_lines (columns_of o) (rows_of o)) ≤ 4900
few_edges o are =
    grind (arith, length-edges_of_lines (columns_of o) (rows_of o), few_edges_of_counts (length (columns_of o)) (length (rows_of o)) (some_columns o are) (some_rows o are) are.small)
