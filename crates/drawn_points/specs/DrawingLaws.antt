-- Laws of drawn points.
use Rattle.std.specs.Prelude.{ℕ, zero, suc, ◌+◌, ◌≡◌, ◌<◌, ◌≤◌, [], ◌∷◌, length, refl}
use Rattle.std.specs.List.{AllByRecursion}
use Rattle.std.proofs.Common.{arith, ap}
use Rattle.std.proofs.lemmas.Int.{ints}
use Rattle.rand_core.specs.Steps.{first_words}
use Rattle.rand_pcg.specs.Lcg.{Lcg}
use Rattle.rand_pcg.specs.Pcg.{pcg32}
use Rattle.drawn_points.specs.Drawing.{point_of_words, points_of_words, next_points}
use Rattle.drawn_points.specs.Drawn.{IsNear, AreDrawn}

-- no point is drawn
pub next_points-zero : (generator : Lcg) → next_points 0 generator ≡ []
unfolding next_points first_words
next_points-zero generator = refl

-- one point more is drawn first
pub next_points-suc : (n : ℕ) (generator : Lcg) → next_points (suc n) generator
    ≡ point_of_words (pcg32 generator).0 (pcg32 (pcg32 generator).1).0 ∷ next_points n (pcg32 (pcg32 generator).1).1
unfolding next_points first_words
next_points-suc n generator =
    let twice : suc n + suc n ≡ suc (suc (n + n)) = omega arith in
    ap (λ k. points_of_words (first_words pcg32 k generator)) twice

-- a coordinate is from 0 to 9999
IsNear-point_of_words : (x y : ℕ) → IsNear (point_of_words x y)
IsNear-point_of_words x y = record {
  left = omega (arith, ints);
  right = omega (arith, ints);
  low = omega (arith, ints);
  high = omega (arith, ints);
}

near_points : (n : ℕ) (generator : Lcg) → AllByRecursion IsNear (next_points n generator)
near_points zero generator = rw (next_points-zero generator) tt
near_points (suc n) generator =
    rw (next_points-suc n generator) (
      IsNear-point_of_words (pcg32 generator).0 (pcg32 (pcg32 generator).1).0,
      near_points n (pcg32 (pcg32 generator).1).1,
    )

pub length-next_points : (n : ℕ) (generator : Lcg) → length (next_points n generator) ≡ n
length-next_points zero generator = rw (next_points-zero generator) refl
length-next_points (suc n) generator =
    rw (next_points-suc n generator) (omega (arith, length-next_points n (pcg32 (pcg32 generator).1).1))

-- the points of a seed are drawn points
pub AreDrawn-next_points : (n : ℕ) (generator : Lcg) → 0 < n → n ≤ 50 → AreDrawn (next_points n generator)
AreDrawn-next_points n generator some few = record {
  some = omega (arith, length-next_points n generator);
  few = omega (arith, length-next_points n generator);
  near = near_points n generator;
}
