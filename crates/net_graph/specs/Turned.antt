-- Arcs that are walked against their direction.
use Rattle.std.specs.Prelude.{ℕ, ◌≡◌, ◌+◌, ◌*◌, Bool, List, ◌↔◌}
use Rattle.std.proofs.Common.{refl, sym, ap, ◌∙◌, inl, inr, ⊎_elim, arith}
use Rattle.std.proofs.lemmas.Grind.{common_steps}
use Rattle.net_graph.specs.declared.edge.Edge.{Edge}
use Rattle.net_graph.specs.Arcs.{forward_arc, backward_arc, partner_of}
use Rattle.net_graph.specs.Search.{OpenStep, Leads}
use Rattle.net_graph.specs.SearchLaws.{Leads-back}

-- the partner of an edge's first arc is its second
pub partner_of-even : (n : ℕ) → partner_of (2 * n) ≡ 2 * n + 1
partner_of-even n = grind (arith, common_steps)

-- .. and the other way round
pub partner_of-odd : (n : ℕ) → partner_of (2 * n + 1) ≡ 2 * n
partner_of-odd n = grind (arith, common_steps)

-- an arc whose partner is open is a step back along the partner
pub OpenStep-turned : (edges : List Edge) (opens : ℕ → Bool) (v w : ℕ) →
    OpenStep edges (λ arc. opens (partner_of arc)) v w → OpenStep edges opens w v
OpenStep-turned edges opens v w (arc, (n, e, at, way), is_open, leaves, comes) =
    ⊎_elim (λ (is : arc ≡ forward_arc n e). (
      backward_arc n e,
      (n, e, at, inr refl),
      ap opens (sym (ap (λ x. partner_of x.number) is ∙ partner_of-even n)) ∙ is_open,
      ap (λ x. x.to) (sym is) ∙ comes,
      ap (λ x. x.from) (sym is) ∙ leaves,
    ))
    (λ (is : arc ≡ backward_arc n e). (
      forward_arc n e,
      (n, e, at, inl refl),
      ap opens (sym (ap (λ x. partner_of x.number) is ∙ partner_of-odd n)) ∙ is_open,
      ap (λ x. x.to) (sym is) ∙ comes,
      ap (λ x. x.from) (sym is) ∙ leaves,
    )) way

-- .. and a step along an open arc is a step back along an arc whose partner is open
pub OpenStep-turned_back : (edges : List Edge) (opens : ℕ → Bool) (v w : ℕ) → OpenStep edges opens v w →
    OpenStep edges (λ arc. opens (partner_of arc)) w v
OpenStep-turned_back edges opens v w (arc, (n, e, at, way), is_open, leaves, comes) =
    ⊎_elim (λ (is : arc ≡ forward_arc n e). (
      backward_arc n e,
      (n, e, at, inr refl),
      ap opens (partner_of-odd n ∙ ap (λ x. x.number) (sym is)) ∙ is_open,
      ap (λ x. x.to) (sym is) ∙ comes,
      ap (λ x. x.from) (sym is) ∙ leaves,
    ))
    (λ (is : arc ≡ backward_arc n e). (
      forward_arc n e,
      (n, e, at, inl refl),
      ap opens (partner_of-even n ∙ ap (λ x. x.number) (sym is)) ∙ is_open,
      ap (λ x. x.to) (sym is) ∙ comes,
      ap (λ x. x.from) (sym is) ∙ leaves,
    )) way

-- arcs whose partners are open lead from v to w where open arcs lead from w to v
pub Leads-turned : (edges : List Edge) (opens : ℕ → Bool) (v w : ℕ) →
    Leads (OpenStep edges (λ arc. opens (partner_of arc))) v w ↔ Leads (OpenStep edges opens) w v
Leads-turned edges opens v w = (
  Leads-back (OpenStep edges (λ arc. opens (partner_of arc))) (OpenStep edges opens) (OpenStep-turned edges opens) v w,
  Leads-back (OpenStep edges opens) (OpenStep edges (λ arc. opens (partner_of arc)))
      (OpenStep-turned_back edges opens) w v,
)
