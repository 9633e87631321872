-- Where two edges of a node are joined, a choice of the edges that are left is one of the edges before.
use Rattle.std.specs.Prelude.{ℕ, ◌≡◌, ◌+◌, Bool, true, false, List, slice_get, Option, Some, None}
use Rattle.std.proofs.Common.{refl, sym, ap, ◌∙◌, inl, inr, ⊎_elim, subst, arith}
use Rattle.std.proofs.lemmas.Bool.{cases_eq}
use Rattle.net_graph.specs.Flags.{has}
use Rattle.net_graph.specs.Network.{HasEnds}
use Rattle.net_graph.specs.Search.{Leads}
use Rattle.net_graph.specs.SearchLaws.{Leads-more}
use Rattle.graph_reduce.specs.State.{Bundle, State, HasEdge}
use Rattle.graph_reduce.specs.Rules.{JoinsEdges, joined}
use Rattle.graph_reduce.proofs.lemmas.Choices.{put, put_same, put_other}
use Rattle.graph_reduce.proofs.lemmas.Ends.{same_edge}
use Rattle.graph_reduce.proofs.lemmas.Keeping.{Carries, Widened}
use Rattle.graph_reduce.proofs.lemmas.Lengths.{part, part_none, length_in-set}
use Rattle.graph_reduce.proofs.lemmas.Unions.{union_cases, union_left, union_right}
use Rattle.graph_reduce.proofs.lemmas.Walks.{Joins, IsNet, HasEnds-back, walk_back, Leads-one, Leads-mapped}
use Rattle.graph_reduce.proofs.lemmas.JoinedPlaces.{one as one_of, mid as mid_of, left as left_of, after as after_of, apart, one_at, later_at, found, still}

-- what both edges have is what the joined one has
part_joined : (x y : Bundle) (u w : ℕ) (flag : Bool) →
    part (Some (joined x y u w)) flag ≡ part (Some x) flag + part (Some y) flag
part_joined x y u w true = refl
part_joined x y u w false = omega arith

module _ (v : ℕ) (old new : State) (joins : JoinsEdges v old new) where
  abbrev one : Bundle
  one = one_of v old new joins

  abbrev mid : List (Option Bundle)
  mid = mid_of v old new joins

  abbrev left : List (Option Bundle)
  left = left_of v old new joins

  abbrev after : State
  after = after_of v old new joins

  -- ---- a choice of the edges that are left

  module _ (G : ℕ → Bool) (net : IsNet after G) where
    -- both edges are chosen where the joined one is
    abbrev F : ℕ → Bool
    F = put G joins.later (G joins.earlier)

    F_earlier : F joins.earlier ≡ G joins.earlier
    F_earlier = put_other G joins.later (G joins.earlier) joins.earlier (apart v old new joins)

    F_later : F joins.later ≡ G joins.earlier
    F_later = put_same G joins.later (G joins.earlier)

    across : G joins.earlier ≡ true → Leads (Joins old.edges F) joins.u joins.w
    across chosen = Leads-more (Joins old.edges F) joins.u v joins.w
        (Leads-one (Joins old.edges F) joins.u v (record {
          place = joins.earlier;
          x = joins.x;
          chosen = F_earlier ∙ chosen;
          at = joins.earlier_at;
          ends = HasEnds-back joins.x v joins.u joins.earlier_ends;
        }))
        (record {
          place = joins.later;
          x = joins.y;
          chosen = F_later ∙ chosen;
          at = joins.later_at;
          ends = joins.later_ends;
        })

    step_before : (a b : ℕ) → Joins left G a b → Leads (Joins old.edges F) a b
    step_before a b j = ⊎_elim
        (λ (p : (j.place ≡ joins.earlier) × (one ≡ j.x)).
        by_ends (subst (λ k. G k ≡ true) p.0 j.chosen) (subst (λ z. HasEnds z.edge a b) (sym p.1) j.ends))
        (λ (p : (j.place ≡ joins.earlier → ⊥) × (j.place ≡ joins.later → ⊥)
        × (slice_get old.edges j.place ≡ Some (Some j.x))).
        Leads-one (Joins old.edges F) a b (record {
          place = j.place;
          x = j.x;
          chosen = put_other G joins.later (G joins.earlier) j.place p.1 ∙ j.chosen;
          at = p.2;
          ends = j.ends;
        }))
        (found v old new joins j.place j.x j.at)
      where
        by_ends : G joins.earlier ≡ true → HasEnds one.edge a b → Leads (Joins old.edges F) a b
        by_ends chosen (inl is) = subst (λ p. Leads (Joins old.edges F) p b) is.0
            (subst (λ q. Leads (Joins old.edges F) joins.u q) is.1 (across chosen))
        by_ends chosen (inr is) = subst (λ p. Leads (Joins old.edges F) p b) is.1
            (subst (λ q. Leads (Joins old.edges F) joins.w q) is.0
            (walk_back old.edges F joins.u joins.w (across chosen)))

    by_joined : (e : ℕ) → G joins.earlier ≡ true → has one.originals e ≡ true → Carries left G e
    by_joined e chosen original = record {
      place = joins.earlier;
      x = one;
      chosen = chosen;
      at = (one_at v old new joins);
      original = original;
    }

    carries_into : (e : ℕ) → Carries old.edges F e → Carries left G e
    carries_into e c = elim (cases_eq c.place joins.earlier) [
      | inl here ↦
          (let same : c.x ≡ joins.x = same_edge old joins.earlier c.x joins.x
          (subst (λ n. HasEdge old n c.x) here c.at) joins.earlier_at in
          by_joined e (sym F_earlier ∙ subst (λ n. F n ≡ true) here c.chosen)
          (union_left joins.x.originals joins.y.originals e (subst (λ x. has x.originals e ≡ true) same c.original)))
      | inr not_earlier ↦ elim (cases_eq c.place joins.later) [
        | inl here ↦
            (let same : c.x ≡ joins.y = same_edge old joins.later c.x joins.y
            (subst (λ n. HasEdge old n c.x) here c.at) joins.later_at in
            by_joined e (sym F_later ∙ subst (λ n. F n ≡ true) here c.chosen)
            (union_right joins.x.originals joins.y.originals e (subst (λ x. has x.originals e ≡ true) same c.original)))
        | inr not_later ↦ (record {
          place = c.place;
          x = c.x;
          chosen = sym (put_other G joins.later (G joins.earlier) c.place not_later) ∙ c.chosen;
          at = still v old new joins c.place c.x not_earlier not_later c.at;
          original = c.original;
        })
      ]
    ]

    carries_back : (e : ℕ) → Carries left G e → Carries old.edges F e
    carries_back e c = ⊎_elim
        (λ (p : (c.place ≡ joins.earlier) × (one ≡ c.x)).
        by_parts (subst (λ k. G k ≡ true) p.0 c.chosen) (subst (λ z. has z.originals e ≡ true) (sym p.1) c.original))
        (λ (p : (c.place ≡ joins.earlier → ⊥) × (c.place ≡ joins.later → ⊥)
        × (slice_get old.edges c.place ≡ Some (Some c.x))). record {
          place = c.place;
          x = c.x;
          chosen = put_other G joins.later (G joins.earlier) c.place p.1 ∙ c.chosen;
          at = p.2;
          original = c.original;
        })
        (found v old new joins c.place c.x c.at)
      where
        by_parts : G joins.earlier ≡ true → has one.originals e ≡ true → Carries old.edges F e
        by_parts chosen original = ⊎_elim
            (λ (is : has joins.x.originals e ≡ true). record {
              place = joins.earlier;
              x = joins.x;
              chosen = F_earlier ∙ chosen;
              at = joins.earlier_at;
              original = is;
            })
            (λ (is : has joins.y.originals e ≡ true). record {
              place = joins.later;
              x = joins.y;
              chosen = F_later ∙ chosen;
              at = joins.later_at;
              original = is;
            })
            (union_cases joins.x.originals joins.y.originals e original)

    pub widened : Widened old after G
    widened = record {
      F = F;
      net = λ t u first second. let led = net t u first second in
          Leads-mapped (Joins left G) (Joins old.edges F) (λ z. z) step_before t u led;
      into = λ e is. ⊎_elim (λ (f : has old.forced e ≡ true). inl f)
          (λ (c : Carries old.edges F e). inr (carries_into e c)) is;
      back = λ e is. ⊎_elim (λ (f : has old.forced e ≡ true). inl f)
          (λ (c : Carries left G e). inr (carries_back e c)) is;
      value = omega (
        arith,
        length_in-set mid joins.later (Some joins.y) None F G (later_at v old new joins)
            (λ k other. put_other G joins.later (G joins.earlier) k other),
        length_in-set old.edges joins.earlier (Some joins.x) (Some one) F F joins.earlier_at (λ k other. refl),
        ap (part (Some joins.x)) F_earlier,
        ap (part (Some one)) F_earlier,
        ap (part (Some joins.y)) F_later,
        part_joined joins.x joins.y joins.u joins.w (G joins.earlier),
        part_none (G joins.later),
      );
    }
