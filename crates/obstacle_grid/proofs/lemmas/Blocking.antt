-- A box blocks exactly the segments along an axis that cross its interior.
use Rattle.std.specs.Prelude.{◌≡◌, true, false, ◌&&◌, ℤ, ◌+ℤ◌, ◌<ℤ◌, int_lt}
use Rattle.std.specs.Bool.{Decides}
use Rattle.std.specs.Int.{int_min, int_max}
use Rattle.std.specs.Ordering.{int_eq}
use Rattle.std.proofs.Common.{arith, refl, sym, ◌∙◌, inl, inr}
use Rattle.std.proofs.lemmas.Bool.Decides.{Decides-and, Decides-int_eq}
use Rattle.std.proofs.lemmas.Bool.{cases_Bool}
use Rattle.std.proofs.lemmas.Int.{ints, int_max_is, int_min_is}
use Rattle.points_in.specs.declared.point.Point.{Point}
use Rattle.obstacles_in.specs.declared.rectangle.Rectangle.{Rectangle}
use Rattle.obstacle_grid.specs.Blocked.{HalfPoint, twice, IsAmid, IsWithin, IsBetween, IsOnHorizontal, IsOnVertical}
use Rattle.obstacle_grid.specs.Blocked.{IsOnSegment, CrossesInterior, is_amid, overlap}
use Rattle.obstacle_grid.specs.Blocked.{blocks_level, blocks_upright, is_blocked_by}
use Rattle.obstacle_grid.specs.Crossing.{BlockingIsCrossing}

-- ---- on a line

-- the test of a lower number
int_lt-decides : (y z : ℤ) → Decides (int_lt y z) (y <ℤ z)
int_lt-decides y z = (λ is. omega (arith, ints), λ lower. grind (arith, ints))

-- the test of a number strictly between two others
is_amid-decides : (low high z : ℤ) → Decides (is_amid low high z) ((low <ℤ z) × (z <ℤ high))
is_amid-decides low high z = Decides-and _ _ (int_lt-decides low z) (int_lt-decides z high)

-- twice such a number is as strictly between
amid_twice : (low high z : ℤ) → low <ℤ z → z <ℤ high → IsAmid low high (twice z)
amid_twice low high z lower higher = record { above = omega (arith, ints); below = omega (arith, ints) }

-- two stretches that overlap have the middle of what they share in common
abbrev middle : ℤ → ℤ → ℤ → ℤ → ℤ
middle low high low' high' = int_max low low' +ℤ int_min high high'

middle_amid : (low high low' high' : ℤ) → int_max low low' <ℤ int_min high high'
    → IsAmid low high (middle low high low' high') × IsAmid low' high' (middle low high low' high')
middle_amid low high low' high' shared = grind (arith, int_max_is low low', int_min_is high high', ints)

-- .. and two that have a point in common overlap
common_overlaps : (low high low' high' number : ℤ) → IsAmid low high number → IsAmid low' high' number
    → int_max low low' <ℤ int_min high high'
common_overlaps low high low' high' number amid amid' = grind (arith, ints, int_max_is low low', int_min_is high high')

-- between two numbers of which the first is lower
amid_between : (low high number : ℤ) → low <ℤ high → IsBetween low high number → IsAmid low high number
amid_between low high number lower (inl amid) = amid
amid_between low high number lower (inr amid) = absurd (omega (arith, ints, amid.above, amid.below))

-- ---- in the plane

-- the test of a level segment
pub level_test : (b : Rectangle) (p q : Point) → int_eq p.y q.y ≡ true
    → is_blocked_by b p q ≡ blocks_level b p q
level_test b p q level = rw level refl

-- and of one that isn't level
pub upright_test : (b : Rectangle) (p q : Point) → int_eq p.y q.y ≡ false
    → is_blocked_by b p q ≡ blocks_upright b p q
upright_test b p q other = rw other refl

-- numbers that aren't one are told apart
unequal : (y z : ℤ) → y <ℤ z → int_eq y z ≡ false
unequal y z lower = grind (arith, cases_Bool (int_eq y z), Decides-int_eq y z, ints)

-- what the tests of a line and of a stretch tell together
tests_tell : (line low high from to low' high' : ℤ)
    → Decides (is_amid low high line && overlap from to low' high')
    (((low <ℤ line) × (line <ℤ high)) × (int_max from low' <ℤ int_min to high'))
tests_tell line low high from to low' high' =
    Decides-and _ _ (is_amid-decides low high line) (int_lt-decides (int_max from low') (int_min to high'))

-- a level segment that is blocked crosses the interior
crosses_level : (b : Rectangle) (p q : Point) → p.y ≡ q.y
    → ((b.y1 <ℤ p.y) × (p.y <ℤ b.y2)) × (int_max p.x b.x1 <ℤ int_min q.x b.x2) → CrossesInterior b p q
crosses_level b p q level ((lower, higher), shared) =
    let (on, within) = middle_amid p.x q.x b.x1 b.x2 shared in
    let common : HalfPoint = record { twice_x = middle p.x q.x b.x1 b.x2; twice_y = twice p.y } in
    let horizontal : IsOnHorizontal p q common = record { level = level; y = refl; x = inl on } in
    record {
      common = common;
      on = inl horizontal;
      within = record { x = within; y = amid_twice b.y1 b.y2 p.y lower higher };
    }

-- .. and so does an upright one
crosses_upright : (b : Rectangle) (p q : Point) → p.x ≡ q.x
    → ((b.x1 <ℤ p.x) × (p.x <ℤ b.x2)) × (int_max p.y b.y1 <ℤ int_min q.y b.y2) → CrossesInterior b p q
crosses_upright b p q upright ((lower, higher), shared) =
    let (on, within) = middle_amid p.y q.y b.y1 b.y2 shared in
    let common : HalfPoint = record { twice_x = twice p.x; twice_y = middle p.y q.y b.y1 b.y2 } in
    let vertical : IsOnVertical p q common = record { upright = upright; x = refl; y = inl on } in
    record {
      common = common;
      on = inr vertical;
      within = record { x = amid_twice b.x1 b.x2 p.x lower higher; y = within };
    }

-- a level segment with a point in the interior is blocked
blocked_level : (b : Rectangle) (p q : Point) (h : HalfPoint) → p.x <ℤ q.x → IsOnSegment p q h → IsWithin b h
    → ((b.y1 <ℤ p.y) × (p.y <ℤ b.y2)) × (int_max p.x b.x1 <ℤ int_min q.x b.x2)
blocked_level b p q h later (inr on) within = absurd (omega (arith, ints, on.upright))
blocked_level b p q h later (inl on) within =
    grind (arith, ints, common_overlaps p.x q.x b.x1 b.x2 h.twice_x (amid_between p.x q.x h.twice_x later on.x) within.x)

-- .. and so is an upright one
blocked_upright : (b : Rectangle) (p q : Point) (h : HalfPoint) → p.y <ℤ q.y → IsOnSegment p q h → IsWithin b h
    → ((b.x1 <ℤ p.x) × (p.x <ℤ b.x2)) × (int_max p.y b.y1 <ℤ int_min q.y b.y2)
blocked_upright b p q h later (inl on) within = absurd (omega (arith, ints, on.level))
blocked_upright b p q h later (inr on) within =
    grind (arith, ints, common_overlaps p.y q.y b.y1 b.y2 h.twice_y (amid_between p.y q.y h.twice_y later on.y) within.y)

-- the law
pub blocking_is_crossing_lem : BlockingIsCrossing
blocking_is_crossing_lem b p q (inl (level, later)) =
    let by = level_test b p q ((Decides-int_eq p.y q.y).1 level) in
    let test = tests_tell p.y b.y1 b.y2 p.x q.x b.x1 b.x2 in (
      λ is. crosses_level b p q level (test.0 (sym by ∙ is)),
      λ crosses. by ∙ test.1 (blocked_level b p q crosses.common later crosses.on crosses.within),
    )
blocking_is_crossing_lem b p q (inr (upright, later)) =
    let by = upright_test b p q (unequal p.y q.y later) in
    let test = tests_tell p.x b.x1 b.x2 p.y q.y b.y1 b.y2 in (
      λ is. crosses_upright b p q upright (test.0 (sym by ∙ is)),
      λ crosses. by ∙ test.1 (blocked_upright b p q crosses.common later crosses.on crosses.within),
    )
