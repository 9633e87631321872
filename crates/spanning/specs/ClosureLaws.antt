-- Lengths that are made shorter by way of one terminal after another become bottlenecks.
use Rattle.std.specs.Prelude.{ℕ, zero, suc, ◌≡◌, ◌+◌, ◌<◌, ◌≤◌, ◌⊎◌, List, length, min, max}
use Rattle.std.proofs.Common.{inl, inr, sym, subst, refl, arith, add-one}
use Rattle.std.proofs.lemmas.Bool.{cases_eq, cases_lt}
use Rattle.points_in.specs.declared.point.Point.{Point}
use Rattle.hanan_grid.specs.Distance.{distance_of}
use Rattle.net_graph.specs.Search.{Leads}
use Rattle.net_graph.specs.SearchLaws.{Leads-keeps, Leads-trans}
use Rattle.spanning.specs.Bottleneck.{IsHop, IsBottleneck}
use Rattle.spanning.specs.BottleneckLaws.{distance_of-same, Leads-longer, Leads-hop}
use Rattle.spanning.specs.Relaxing.{relaxed}

-- The lengths are the longest hops of some chains, are no longer than one hop, and get no shorter by way of any of
-- the first k terminals.
pub record IsClosedBelow (ps : List Point) (k : ℕ) (d : ℕ → ℕ → ℕ) : Type 0 where
  pub chains : (i j : ℕ) → i < length ps → j < length ps → Leads (IsHop ps (d i j)) i j
  pub direct : (i j : ℕ) → i < length ps → j < length ps → d i j ≤ distance_of ps i j
  pub closed : (m i j : ℕ) → m < k → m < length ps → i < length ps → j < length ps →
      d i j ≤ max (d i m) (d m j)

-- the distances are closed below no terminal
pub closed-at_first : (ps : List Point) (d : ℕ → ℕ → ℕ) →
    ((i j : ℕ) → i < length ps → j < length ps → d i j ≡ distance_of ps i j) → IsClosedBelow ps 0 d
closed-at_first ps d is = grind (arith, Leads-hop)

-- the lesser of two numbers
min_cases : (a b : ℕ) → (min a b ≡ a) ⊎ (min a b ≡ b)
min_cases a b = grind (arith, cases_lt a b)

-- what is closed below m stays so by way of m
stays_closed : (ij im mj ik kj mk km : ℕ) → ij ≤ max ik kj → im ≤ max ik km → mj ≤ max mk kj →
    min ij (max im mj) ≤ max (min ik (max im mk)) (min kj (max km mj))
stays_closed ij im mj ik kj mk km by_k to_m from_m = omega arith

-- by way of the terminal m itself nothing changes to it and from it
closed_at_it : (ij im mj mm : ℕ) → min ij (max im mj) ≤ max (min im (max im mm)) (min mj (max mm mj))
closed_at_it ij im mj mm = omega arith

-- one more terminal
pub closed-more : (ps : List Point) (k : ℕ) (d e : ℕ → ℕ → ℕ) → k < length ps → IsClosedBelow ps k d →
    ((i j : ℕ) → i < length ps → j < length ps → e i j ≡ relaxed d k i j) → IsClosedBelow ps (k + 1) e
closed-more ps k d e k_in closed is = record {
  chains = λ i j i_in j_in.
      let goes : Leads (IsHop ps (relaxed d k i j)) i j = elim (min_cases (d i j) (max (d i k) (d k j))) [
        | inl direct ↦ subst (λ most. Leads (IsHop ps most) i j) (sym direct) (closed.chains i j i_in j_in)
        | inr through ↦ subst (λ most. Leads (IsHop ps most) i j) (sym through)
            (Leads-trans (IsHop ps (max (d i k) (d k j))) i k j
            (Leads-longer ps (d i k) (max (d i k) (d k j)) i k (omega arith) (closed.chains i k i_in k_in))
            (Leads-longer ps (d k j) (max (d i k) (d k j)) k j (omega arith) (closed.chains k j k_in j_in)))
      ] in
      subst (λ most. Leads (IsHop ps most) i j) (sym (is i j i_in j_in)) goes;
  direct = λ i j i_in j_in. omega (arith, is i j i_in j_in, closed.direct i j i_in j_in);
  closed = λ m i j below m_in i_in j_in. elim (cases_eq m k) [
    | inl same ↦
        let at_k : e i j ≤ max (e i k) (e k j) =
        rw (is i j i_in j_in, is i k i_in k_in, is k j k_in j_in) (closed_at_it (d i j) (d i k) (d k j) (d k k)) in
        subst (λ v. e i j ≤ max (e i v) (e v j)) (sym same) at_k
    | inr apart ↦
        let less : m < k = omega arith in
        rw (is i j i_in j_in, is i m i_in m_in, is m j m_in j_in)
        (stays_closed (d i j) (d i k) (d k j) (d i m) (d m j) (d k m) (d m k)
        (closed.closed m i j less m_in i_in j_in) (closed.closed m i k less m_in i_in k_in)
        (closed.closed m k j less m_in k_in j_in))
  ];
}

-- what is closed by way of every terminal is the bottleneck
pub IsBottleneck-from_closed : (ps : List Point) (d : ℕ → ℕ → ℕ) → IsClosedBelow ps (length ps) d →
    (i j : ℕ) → i < length ps → j < length ps → IsBottleneck ps i j (d i j)
IsBottleneck-from_closed ps d closed i j i_in j_in = record {
  chain = closed.chains i j i_in j_in;
  least = λ most led.
      (Leads-keeps (IsHop ps most) (λ v. (v < length ps) × (d i v ≤ most)) i j
      (i_in, omega (arith, closed.direct i i i_in i_in, distance_of-same ps i))
      (λ u w so_far hop. (
        hop.to,
        omega (
          arith,
          so_far.1,
          closed.closed u i w hop.from hop.from i_in hop.to,
          closed.direct u w hop.from hop.to,
          hop.short,
        ),
      )) led).1;
}

-- the distances, made shorter by way of the first k terminals
closure : List Point → ℕ → ℕ → ℕ → ℕ
closure ps zero = distance_of ps
closure ps (suc k) = relaxed (closure ps k) k

-- .. are closed below k
closure-closed : (ps : List Point) (k : ℕ) → k ≤ length ps → IsClosedBelow ps k (closure ps k)
unfolding closure
closure-closed ps zero few = closed-at_first ps (closure ps zero) (λ i j i_in j_in. refl)
closure-closed ps (suc k) few =
    subst (λ n. IsClosedBelow ps n (closure ps (suc k))) (add-one k)
    (closed-more ps k (closure ps k) (closure ps (suc k)) (omega arith) (closure-closed ps k (omega arith))
    (λ i j i_in j_in. refl))

-- each two terminals have a bottleneck
pub some_bottleneck : (ps : List Point) (i j : ℕ) → i < length ps → j < length ps →
    (b : ℕ) × IsBottleneck ps i j b
some_bottleneck ps i j i_in j_in = (
  closure ps (length ps) i j,
  IsBottleneck-from_closed ps (closure ps (length ps))
      (closure-closed ps (length ps) (omega arith)) i j i_in j_in,
)
