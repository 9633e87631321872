-- The two ends of an edge, and a node that is seen at the other end of its edge.
use Rattle.std.specs.Prelude.{ℕ, ◌≡◌, ◌⊎◌, ◌==◌, Some, if◌then◌else◌}
use Rattle.std.proofs.Common.{sym, ap, ◌∙◌, inl, inr, arith}
use Rattle.std.proofs.lemmas.Bool.{eq-eqb, ne_eqb}
use Rattle.std.proofs.lemmas.Option.{same_Some}
use Rattle.net_graph.specs.declared.edge.Edge.{Edge}
use Rattle.net_graph.specs.Network.{HasEnds}
use Rattle.graph_reduce.specs.State.{Bundle, State, HasEdge}

-- an edge that is found at one place is one edge
pub same_edge : (s : State) (n : ℕ) (x y : Bundle) → HasEdge s n x → HasEdge s n y → x ≡ y
same_edge s n x y first second = same_Some x y (same_Some (Some x) (Some y) (sym first ∙ second))

-- a node that is dropped, seen at the other end of its edge
abbrev pub seen_at : ℕ → ℕ → ℕ → ℕ
seen_at v other u = if u == v then other else u

pub seen_same : (v other u : ℕ) → u ≡ v → seen_at v other u ≡ other
seen_same v other u is = ap (λ b. if b then other else u) (eq-eqb u v is)

pub seen_other : (v other u : ℕ) → (u ≡ v → ⊥) → seen_at v other u ≡ u
seen_other v other u apart = ap (λ b. if b then other else u) (ne_eqb u v apart)

-- the two ends of an edge are its two ends
pub ends_are : (x : Bundle) (v w a b : ℕ) → HasEnds x.edge v w → HasEnds x.edge a b →
    ((a ≡ v) × (b ≡ w)) ⊎ ((a ≡ w) × (b ≡ v))
ends_are x v w a b (inl one) (inl two) = inl (sym two.0 ∙ one.0, sym two.1 ∙ one.1)
ends_are x v w a b (inl one) (inr two) = inr (sym two.1 ∙ one.1, sym two.0 ∙ one.0)
ends_are x v w a b (inr one) (inl two) = inr (sym two.0 ∙ one.0, sym two.1 ∙ one.1)
ends_are x v w a b (inr one) (inr two) = inl (sym two.1 ∙ one.1, sym two.0 ∙ one.0)

-- .. which are seen at one node, where the one is seen at the other
pub seen_ends : (x : Bundle) (v other a b : ℕ) → HasEnds x.edge v other → HasEnds x.edge a b →
    seen_at v other a ≡ seen_at v other b
seen_ends x v other a b ends step = grind (arith, seen_same)

-- an edge has one other end
pub other_is : (e : Edge) (v u w : ℕ) → HasEnds e v u → HasEnds e v w → u ≡ w
other_is e v u w (inl p) (inl q) = sym p.1 ∙ q.1
other_is e v u w (inl p) (inr q) = sym p.1 ∙ q.1 ∙ sym p.0 ∙ q.0
other_is e v u w (inr p) (inl q) = sym p.0 ∙ q.0 ∙ sym p.1 ∙ q.1
other_is e v u w (inr p) (inr q) = sym p.0 ∙ q.0

-- an end of an edge
pub first_end : (x : Bundle) (v u : ℕ) → HasEnds x.edge v u → (x.edge.a ≡ v) ⊎ (x.edge.b ≡ v)
first_end x v u (inl is) = inl is.0
first_end x v u (inr is) = inr is.1
