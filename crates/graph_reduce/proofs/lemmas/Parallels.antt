-- The rule that drops one of two parallel edges keeps what joins the terminals.
use Rattle.std.specs.Prelude.{ℕ, ◌≡◌, ◌≤◌, nat_lt, Bool, true, false, List, slice_set, Option, Some, None, if◌then◌else◌}
use Rattle.std.proofs.Common.{refl, sym, ap, ◌∙◌, inl, inr, ⊎_elim, subst, arith}
use Rattle.std.proofs.lemmas.Bool.{cases_eq, cases_Bool, ltb-true, ltb-false, both_ways}
use Rattle.net_graph.specs.EntryLaws.{slice_get-set_other}
use Rattle.net_graph.specs.Network.{HasEnds}
use Rattle.net_graph.specs.SearchLaws.{Leads-weaker}
use Rattle.graph_reduce.specs.State.{Bundle, State, HasEdge}
use Rattle.graph_reduce.specs.Rules.{DropsParallel, without_edge}
use Rattle.graph_reduce.proofs.lemmas.Choices.{put, put_same, put_other, put_in}
use Rattle.graph_reduce.proofs.lemmas.Ends.{same_edge}
use Rattle.graph_reduce.proofs.lemmas.Keeping.{Narrowed, Keeps, dropped, Keeps-dropped, still_joins, short_by_drop}
use Rattle.graph_reduce.proofs.lemmas.Lengths.{part, part_none, length_in-set, length_in-choice}
use Rattle.graph_reduce.proofs.lemmas.Walks.{Joins, IsNet}

-- an edge beside one that has its ends, and is no longer, can be dropped
module _ (s : State) (n k : ℕ) (x y : Bundle) (apart : k ≡ n → ⊥) (x_at : HasEdge s n x) (y_at : HasEdge s k y)
    (ends : (v w : ℕ) → HasEnds x.edge v w → HasEnds y.edge v w) (short : y.edge.length ≤ x.edge.length) where
  abbrev left : List (Option Bundle)
  left = slice_set s.edges n None

  -- the other edge is chosen in its place
  taken : (F : ℕ → Bool) → IsNet s F → F n ≡ true → Narrowed s (dropped s s.nodes n) F
  taken F net chosen = record {
    G = put F k true;
    net = λ v w first second. Leads-weaker (Joins s.edges F) (Joins left (put F k true)) step v w (net v w first second);
    short = omega (
      arith,
      length_in-choice left k (Some y) F (put F k true) (slice_get-set_other s.edges n k None apart ∙ y_at)
          (λ j other. sym (put_other F k true j other)),
      ap (part (Some y)) (put_same F k true),
      length_in-set s.edges n (Some x) None F F x_at (λ j other. refl),
      ap (part (Some x)) chosen,
      part_none (F n),
      short,
    );
  }
    where
      step : (v w : ℕ) → Joins s.edges F v w → Joins left (put F k true) v w
      step v w j = elim (cases_eq j.place n) [
        | inl here ↦
            (let same : j.x ≡ x = same_edge s n j.x x (subst (λ m. HasEdge s m j.x) here j.at) x_at in
            record {
              place = k;
              x = y;
              chosen = put_same F k true;
              at = slice_get-set_other s.edges n k None apart ∙ y_at;
              ends = ends v w (subst (λ z. HasEnds z.edge v w) same j.ends);
            })
        | inr other ↦ still_joins s.edges n None F (put F k true) v w j other (put_in F k j.place j.chosen)
      ]

  -- it was not chosen
  not_taken : (F : ℕ → Bool) → IsNet s F → F n ≡ false → Narrowed s (dropped s s.nodes n) F
  not_taken F net out = record {
    G = F;
    net = λ v w first second. Leads-weaker (Joins s.edges F) (Joins left F) step v w (net v w first second);
    short = short_by_drop s s.nodes n x F x_at;
  }
    where
      step : (v w : ℕ) → Joins s.edges F v w → Joins left F v w
      step v w j = still_joins s.edges n None F F v w j
          (λ here. both_ways (F n) out (subst (λ m. F m ≡ true) here j.chosen)) j.chosen

  pub Keeps-beside : Keeps s (dropped s s.nodes n)
  Keeps-beside = Keeps-dropped s s.nodes n x x_at
      (λ F net. ⊎_elim (taken F net) (not_taken F net) (cases_Bool (F n)))

-- two edges that have the same two ends
ends_along : (x y : Bundle) (v w : ℕ) → HasEnds y.edge x.edge.a x.edge.b → HasEnds x.edge v w → HasEnds y.edge v w
ends_along x y v w (inl same) (inl ends) = inl (same.0 ∙ ends.0, same.1 ∙ ends.1)
ends_along x y v w (inl same) (inr ends) = inr (same.0 ∙ ends.0, same.1 ∙ ends.1)
ends_along x y v w (inr same) (inl ends) = inr (same.0 ∙ ends.1, same.1 ∙ ends.0)
ends_along x y v w (inr same) (inr ends) = inl (same.0 ∙ ends.1, same.1 ∙ ends.0)

ends_against : (x y : Bundle) (v w : ℕ) → HasEnds y.edge x.edge.a x.edge.b → HasEnds y.edge v w → HasEnds x.edge v w
ends_against x y v w (inl same) (inl ends) = inl (sym same.0 ∙ ends.0, sym same.1 ∙ ends.1)
ends_against x y v w (inl same) (inr ends) = inr (sym same.0 ∙ ends.0, sym same.1 ∙ ends.1)
ends_against x y v w (inr same) (inl ends) = inr (sym same.1 ∙ ends.1, sym same.0 ∙ ends.0)
ends_against x y v w (inr same) (inr ends) = inl (sym same.1 ∙ ends.1, sym same.0 ∙ ends.0)

pub Keeps-parallel : (place : ℕ) (old new : State) → DropsParallel place old new → Keeps old new
Keeps-parallel place old new drops =
    subst (Keeps old) (sym drops.becomes) (by_test (nat_lt drops.y.edge.length drops.x.edge.length) refl)
  where
    by_test : (b : Bool) → nat_lt drops.y.edge.length drops.x.edge.length ≡ b →
        Keeps old (without_edge old (if b then place else drops.later))
    by_test true is = Keeps-beside old place drops.later drops.x drops.y (λ e. omega (arith, drops.parallel.order))
        drops.parallel.first_at drops.parallel.second_at
        (λ v w ends. ends_along drops.x drops.y v w drops.parallel.same_ends ends)
        (omega (arith, ltb-true drops.y.edge.length drops.x.edge.length is))
    by_test false is = Keeps-beside old drops.later place drops.y drops.x (λ e. omega (arith, drops.parallel.order))
        drops.parallel.second_at drops.parallel.first_at
        (λ v w ends. ends_against drops.x drops.y v w drops.parallel.same_ends ends)
        (ltb-false drops.y.edge.length drops.x.edge.length is)
