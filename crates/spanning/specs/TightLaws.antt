-- The pairs of terminals whose distance is their bottleneck join all terminals.
use Rattle.std.specs.Prelude.{ℕ, zero, suc, ◌<◌, ◌≤◌, List, length}
use Rattle.std.proofs.Common.{inl, inr, subst, arith}
use Rattle.std.proofs.lemmas.Bool.{cases_eq}
use Rattle.points_in.specs.declared.point.Point.{Point}
use Rattle.hanan_grid.specs.Distance.{distance_of}
use Rattle.net_graph.specs.Search.{Leads}
use Rattle.net_graph.specs.SearchLaws.{Leads-start, Leads-more, Leads-keeps, Leads-trans}
use Rattle.spanning.specs.Bottleneck.{IsHop, IsBottleneck, IsTight}
use Rattle.spanning.specs.BottleneckLaws.{IsBottleneck-direct}
use Rattle.spanning.specs.ClosureLaws.{some_bottleneck}

-- two terminals with a bottleneck below m are joined
joined_below : (ps : List Point) (m i j b : ℕ) → IsBottleneck ps i j b → b < m → Leads (IsTight ps) i j
joined_below ps zero i j b is below = absurd (omega arith)
joined_below ps (suc m) i j b is below =
    Leads-keeps (IsHop ps b) (λ v. Leads (IsTight ps) i v) i j (Leads-start (IsTight ps) i)
    (λ u w so_far hop. Leads-trans (IsTight ps) i u w so_far (elim (cases_eq u w) [
      | inl same ↦ subst (λ v. Leads (IsTight ps) u v) same (Leads-start (IsTight ps) u)
      | inr apart ↦
          let some : (c : ℕ) × IsBottleneck ps u w c = some_bottleneck ps u w hop.from hop.to in
          elim (cases_eq some.0 (distance_of ps u w)) [
            | inl tight ↦ Leads-more (IsTight ps) u u w (Leads-start (IsTight ps) u)
                record {
                  from = hop.from;
                  to = hop.to;
                  apart = apart;
                  bottleneck = subst (λ c. IsBottleneck ps u w c) tight some.1;
                }
            | inr wide ↦
                let direct : some.0 ≤ distance_of ps u w = IsBottleneck-direct ps u w some.0 hop.from hop.to some.1 in
                joined_below ps m u w some.0 some.1 (omega (arith, direct, hop.short, below, wide))
          ]
    ])) is.chain

-- all terminals are joined
pub tight_pairs-join : (ps : List Point) (i j : ℕ) → i < length ps → j < length ps → Leads (IsTight ps) i j
tight_pairs-join ps i j i_in j_in =
    let some : (c : ℕ) × IsBottleneck ps i j c = some_bottleneck ps i j i_in j_in in
    joined_below ps (suc some.0) i j some.0 some.1 (omega arith)
