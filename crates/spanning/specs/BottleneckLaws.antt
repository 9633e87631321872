-- Bottlenecks as distances: two terminals have one, it is at most the rectilinear distance, and a way by a third
-- terminal is no narrower.
use Rattle.std.specs.Prelude.{ℕ, ◌≡◌, ◌<◌, ◌≤◌, ℤ, pos, negsuc, ◌-ℤ◌, List, length, max, suc, zero, unsigned_abs}
use Rattle.std.specs.Prelude.{slice_index_or}
use Rattle.std.proofs.Common.{arith, ap, refl, neg_ℤ}
use Rattle.std.proofs.Math.IntN.{+ℤ_invr, +ℤ_comm, neg_ℤ-+ℤ, neg_ℤ-neg_ℤ}
use Rattle.points_in.specs.declared.point.Point.{Point}
use Rattle.hanan_grid.specs.Distance.{origin, distance_of}
use Rattle.net_graph.specs.Search.{Leads}
use Rattle.net_graph.specs.SearchLaws.{Leads-start, Leads-more, Leads-trans, Leads-back, Leads-weaker}
use Rattle.spanning.specs.Bottleneck.{IsHop, IsBottleneck}

-- a number is no way from itself
no_way : (z : ℤ) → unsigned_abs (z -ℤ z) ≡ 0
no_way z = ap unsigned_abs (+ℤ_invr z)

-- .. and as far from another as that one from it
unsigned_abs-neg : (z : ℤ) → unsigned_abs (neg_ℤ z) ≡ unsigned_abs z
unsigned_abs-neg (pos zero) = refl
unsigned_abs-neg (pos (suc n)) = refl
unsigned_abs-neg (negsuc n) = refl

same_way : (y z : ℤ) → unsigned_abs (y -ℤ z) ≡ unsigned_abs (z -ℤ y)
same_way y z =
    grind (arith, y -ℤ z, neg_ℤ-+ℤ z (neg_ℤ y), neg_ℤ-neg_ℤ y, +ℤ_comm (neg_ℤ z) y, unsigned_abs-neg (z -ℤ y))

-- a point is no distance from itself
pub distance_of-same : (ps : List Point) (i : ℕ) → distance_of ps i i ≡ 0
distance_of-same ps i = let p = slice_index_or ps i origin in omega (arith, no_way p.x, no_way p.y)

-- .. and as far from another as that one from it
pub distance_of-back : (ps : List Point) (i j : ℕ) → distance_of ps i j ≡ distance_of ps j i
distance_of-back ps i j =
    grind (
      arith,
      same_way (slice_index_or ps i origin).x (slice_index_or ps j origin).x,
      same_way (slice_index_or ps i origin).y (slice_index_or ps j origin).y,
    )

-- longer hops lead at least as far
pub Leads-longer : (ps : List Point) (least most i j : ℕ) → least ≤ most → Leads (IsHop ps least) i j →
    Leads (IsHop ps most) i j
Leads-longer ps least most i j longer led =
    Leads-weaker (IsHop ps least) (IsHop ps most) (λ u w hop. record {
      from = hop.from;
      to = hop.to;
      short = omega (arith, hop.short, longer);
    }) i j led

-- one hop
pub Leads-hop : (ps : List Point) (i j : ℕ) → i < length ps → j < length ps →
    Leads (IsHop ps (distance_of ps i j)) i j
Leads-hop ps i j i_in j_in =
    grind (arith, Leads-more (IsHop ps (distance_of ps i j)) i i j (Leads-start (IsHop ps (distance_of ps i j)) i))

-- chains lead back
pub Leads-hops_back : (ps : List Point) (most i j : ℕ) → Leads (IsHop ps most) i j → Leads (IsHop ps most) j i
Leads-hops_back ps most i j led =
    Leads-back (IsHop ps most) (IsHop ps most) (λ u w hop. record {
      from = hop.to;
      to = hop.from;
      short = omega (arith, hop.short, distance_of-back ps u w);
    }) i j led

-- two terminals have one bottleneck
pub IsBottleneck-one : (ps : List Point) (i j b c : ℕ) → IsBottleneck ps i j b → IsBottleneck ps i j c → b ≡ c
IsBottleneck-one ps i j b c first second = omega (arith, first.least c second.chain, second.least b first.chain)

-- that of a terminal and itself is 0
pub IsBottleneck-same : (ps : List Point) (i b : ℕ) → IsBottleneck ps i i b → b ≡ 0
IsBottleneck-same ps i b is = omega (arith, is.least 0 (Leads-start (IsHop ps 0) i))

-- it is the same both ways
pub IsBottleneck-back : (ps : List Point) (i j b : ℕ) → IsBottleneck ps i j b → IsBottleneck ps j i b
IsBottleneck-back ps i j b is = record {
  chain = Leads-hops_back ps b i j is.chain;
  least = λ most led. is.least most (Leads-hops_back ps most j i led);
}

-- it is at most the distance
pub IsBottleneck-direct : (ps : List Point) (i j b : ℕ) → i < length ps → j < length ps →
    IsBottleneck ps i j b → b ≤ distance_of ps i j
IsBottleneck-direct ps i j b i_in j_in is = is.least (distance_of ps i j) (Leads-hop ps i j i_in j_in)

-- a way by a third terminal is no narrower
pub IsBottleneck-between : (ps : List Point) (i k j a b c : ℕ) → IsBottleneck ps i k a →
    IsBottleneck ps k j b → IsBottleneck ps i j c → c ≤ max a b
IsBottleneck-between ps i k j a b c first second direct =
    direct.least (max a b)
    (Leads-trans (IsHop ps (max a b)) i k j (Leads-longer ps a (max a b) i k (omega arith) first.chain)
    (Leads-longer ps b (max a b) k j (omega arith) second.chain))
