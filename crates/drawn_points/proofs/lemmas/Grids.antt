-- The grid of points that lie near: its edges do not sum to much.
use Rattle.std.proofs.Common.{zero, suc, ◌≡◌, ◌+◌, ◌-◌, ◌^◌, ◌<◌, ◌≤◌, List, [], ◌∷◌, length, map, arith, subst, refl}
use Rattle.std.specs.Prelude.{ℤ, pos, ◌≤ℤ◌, ◌<ℤ◌, Contains}
use Rattle.std.specs.List.{AllByRecursion}
use Rattle.std.proofs.lemmas.Int.{ints}
use Rattle.std.proofs.lemmas.Nat.{mul-le}
use Rattle.points_in.specs.declared.point.Point.{Point}
use Rattle.points_in.specs.Terminals.{terminals_of}
use Rattle.points_in.specs.TerminalLaws.{length-terminals_of-le, terminals_of_contains}
use Rattle.net_graph.specs.Graph.{total_of}
use Rattle.hanan_grid.specs.Lines.{line_at}
use Rattle.hanan_grid.specs.LinesLaws.{IsRising, Contains-line_at, Contains-from_ascending}
use Rattle.hanan_grid.specs.Grid.{xs_of, ys_of, hanan_grid_of}
use Rattle.hanan_grid.specs.GridLaws.{IsRising-xs_of, IsRising-ys_of, length-xs_of-le, length-ys_of-le}
use Rattle.hanan_grid.specs.TotalLaws.{width_of, total_of-hanan_grid_of, span_of}
use Rattle.drawn_points.specs.Drawn.{IsNear, AreDrawn}

-- a coordinate from 0 to 9999
record IsLow (z : ℤ) : Type 0 where
  above : pos 0 ≤ℤ z
  below : z <ℤ pos 10000

-- a member of near points is near
near_member : (ps : List Point) (p : Point) → AllByRecursion IsNear ps → Contains ps p → IsNear p
near_member [] p near (k, inside, is) = absurd (omega arith)
near_member (q ∷ ps) p near (zero, inside, is) = subst IsNear is near.0
near_member (q ∷ ps) p near (suc k, inside, is) = near_member ps p near.1 (k, omega arith, is)

-- each of the values of near points is low
low_value : (f : Point → ℤ) → ((p : Point) → IsNear p → IsLow (f p)) → (qs : List Point) → ((q : Point) → Contains qs q → IsNear q) →
    (z : ℤ) → Contains (map f qs) z → IsLow z
low_value f low [] near z (k, inside, is) = absurd (omega arith)
low_value f low (q ∷ qs) near z (zero, inside, is) = subst IsLow is (low q (near q (0, omega arith, refl)))
low_value f low (q ∷ qs) near z (suc k, inside, is) =
    low_value f low qs (λ r member. near r (suc member.0, omega arith, member.2)) z (k, omega arith, is)

-- low lines are not far apart
low_width : (lines : List ℤ) → IsRising lines → ((z : ℤ) → Contains lines z → IsLow z) → width_of lines ≤ 9999
low_width [] rises low = omega arith
low_width (y ∷ ys) rises low =
    let lines = y ∷ ys in
    let last : 0 + (length lines - 1) ≡ length lines - 1 = omega arith in
    let whole = rw last at (span_of lines 0 (length lines - 1) (omega arith) rises) in
    let first_low = low (line_at lines 0) (Contains-line_at lines 0 (omega arith)) in
    let last_low = low (line_at lines (length lines - 1)) (Contains-line_at lines (length lines - 1) (omega arith)) in
    omega (arith, ints, whole, first_low.above, last_low.below)

-- The grid of at most 50 near points is short.
near_grid : (qs : List Point) → length qs ≤ 50 → ((q : Point) → Contains qs q → IsNear q) → total_of (hanan_grid_of qs) < 2 ^ 63
near_grid qs few near =
    let wide = low_width (xs_of qs) (IsRising-xs_of qs)
    (λ z member. low_value (λ p. p.x) (λ p is. record { above = is.left; below = is.right }) qs near z (Contains-from_ascending (map (λ p. p.x) qs) z member)) in
    let high = low_width (ys_of qs) (IsRising-ys_of qs)
    (λ z member. low_value (λ p. p.y) (λ p is. record { above = is.low; below = is.high }) qs near z (Contains-from_ascending (map (λ p. p.y) qs) z member)) in
    let columns = length-xs_of-le qs in
    let rows = length-ys_of-le qs in
    let across = mul-le (length (ys_of qs)) (width_of (xs_of qs)) 50 9999 (omega arith) wide in
    let up = mul-le (length (xs_of qs)) (width_of (ys_of qs)) 50 9999 (omega arith) high in
    omega (arith, total_of-hanan_grid_of qs, across, up)

-- and so is that of the distinct ones of drawn points
pub drawn_grid : (ps : List Point) → AreDrawn ps → total_of (hanan_grid_of (terminals_of ps)) < 2 ^ 63
drawn_grid ps drawn =
    let few = drawn.few in
    near_grid (terminals_of ps) (omega (arith, length-terminals_of-le ps, few))
    (λ q member. near_member ps q drawn.near ((terminals_of_contains ps q).0 member))
