-- The rule that joins the two edges of a node keeps what joins the terminals.
use Rattle.std.specs.Prelude.{ℕ, ◌≡◌, ◌+◌, ◌≤◌, ◌⊎◌, ◌&&◌, Bool, true, false, List, Option, Some, None, if◌then◌else◌}
use Rattle.std.proofs.Common.{refl, sym, ap, ◌∙◌, inl, inr, ⊎_elim, subst, arith}
use Rattle.std.proofs.lemmas.Bool.{cases_eq, cases_Bool, and_from}
use Rattle.net_graph.specs.Network.{HasEnds}
use Rattle.net_graph.specs.Search.{Leads}
use Rattle.net_graph.specs.SearchLaws.{Leads-start}
use Rattle.graph_reduce.specs.State.{Bundle, State, HasEdge, EndsIn}
use Rattle.graph_reduce.specs.Rules.{JoinsEdges, joined}
use Rattle.graph_reduce.proofs.lemmas.Choices.{put, put_same, put_other}
use Rattle.graph_reduce.proofs.lemmas.Ends.{same_edge, seen_at, seen_same, seen_other, seen_ends, ends_are}
use Rattle.graph_reduce.proofs.lemmas.Keeping.{Narrowed, Keeps}
use Rattle.graph_reduce.proofs.lemmas.Lengths.{part, part_none, length_in-set}
use Rattle.graph_reduce.proofs.lemmas.Terminals.{In, Contains-from_In}
use Rattle.graph_reduce.proofs.lemmas.Walks.{Joins, IsNet, Joins-back, Leads-one, Leads-mapped}
use Rattle.graph_reduce.proofs.lemmas.JoinedPlaces.{one as one_of, mid as mid_of, left as left_of, after as after_of, apart, one_at, later_at, still}
use Rattle.graph_reduce.proofs.lemmas.JoinedWidens.{widened}

-- both edges, where both are chosen, have what the joined one has, and elsewhere no less
part_joined-le : (x y : Bundle) (u w : ℕ) (one two : Bool) →
    part (Some (joined x y u w)) (one && two) ≤ part (Some x) one + part (Some y) two
part_joined-le x y u w true true = omega arith
part_joined-le x y u w true false = omega arith
part_joined-le x y u w false true = omega arith
part_joined-le x y u w false false = omega arith

module _ (v : ℕ) (old new : State) (joins : JoinsEdges v old new) (no_loop : joins.w ≡ v → ⊥) where
  abbrev one : Bundle
  one = one_of v old new joins

  abbrev mid : List (Option Bundle)
  mid = mid_of v old new joins

  abbrev left : List (Option Bundle)
  left = left_of v old new joins

  abbrev after : State
  after = after_of v old new joins

  -- ---- a choice of the edges before

  module _ (F : ℕ → Bool) (net : IsNet old F) where
    -- the joined edge is chosen where both were
    abbrev G : ℕ → Bool
    G = put F joins.earlier (F joins.earlier && F joins.later)

    -- the node is seen at the other end of an edge that was chosen, the earlier one if it was
    abbrev seen : ℕ → ℕ
    seen = seen_at v (if F joins.earlier then joins.u else joins.w)

    seen_by : (b : Bool) → F joins.earlier ≡ b → (z : ℕ) → seen z ≡ seen_at v (if b then joins.u else joins.w) z
    seen_by b is z = ap (λ c. seen_at v (if c then joins.u else joins.w) z) is

    stands : (a b : ℕ) → seen a ≡ seen b → Leads (Joins left G) (seen a) (seen b)
    stands a b is = subst (λ z. Leads (Joins left G) (seen a) z) is (Leads-start (Joins left G) (seen a))

    -- a step along the earlier edge leads nowhere
    step_earlier : (a b : ℕ) → F joins.earlier ≡ true → HasEnds joins.x.edge a b → Leads (Joins left G) (seen a) (seen b)
    step_earlier a b chosen ends = stands a b (seen_by true chosen a
        ∙ seen_ends joins.x v joins.u a b joins.earlier_ends ends ∙ sym (seen_by true chosen b))

    -- .. and neither does one along the later edge, where the earlier one was not chosen
    step_later_alone : (a b : ℕ) → F joins.earlier ≡ false → HasEnds joins.y.edge a b →
        Leads (Joins left G) (seen a) (seen b)
    step_later_alone a b out ends = stands a b (seen_by false out a
        ∙ seen_ends joins.y v joins.w a b joins.later_ends ends ∙ sym (seen_by false out b))

    over : F joins.earlier ≡ true → F joins.later ≡ true → Joins left G joins.u joins.w
    over chosen too = record {
      place = joins.earlier;
      x = one;
      chosen = put_same F joins.earlier (F joins.earlier && F joins.later)
          ∙ and_from (F joins.earlier) (F joins.later) chosen too;
      at = (one_at v old new joins);
      ends = inl (refl, refl);
    }

    -- .. where it was, such a step is one along the joined edge
    step_later : (a b : ℕ) → F joins.earlier ≡ true → F joins.later ≡ true → HasEnds joins.y.edge a b →
        Leads (Joins left G) (seen a) (seen b)
    step_later a b chosen too ends = by_ends (ends_are joins.y v joins.w a b joins.later_ends ends)
      where
        at_v : (z : ℕ) → z ≡ v → seen z ≡ joins.u
        at_v z is = seen_by true chosen z ∙ seen_same v joins.u z is

        at_w : (z : ℕ) → z ≡ joins.w → seen z ≡ joins.w
        at_w z is = seen_by true chosen z ∙ seen_other v joins.u z (λ e. no_loop (sym is ∙ e)) ∙ is

        by_ends : ((a ≡ v) × (b ≡ joins.w)) ⊎ ((a ≡ joins.w) × (b ≡ v)) → Leads (Joins left G) (seen a) (seen b)
        by_ends (inl is) = subst (λ p. Leads (Joins left G) p (seen b)) (sym (at_v a is.0))
            (subst (λ q. Leads (Joins left G) joins.u q) (sym (at_w b is.1))
            (Leads-one (Joins left G) joins.u joins.w (over chosen too)))
        by_ends (inr is) = subst (λ p. Leads (Joins left G) p (seen b)) (sym (at_w a is.0))
            (subst (λ q. Leads (Joins left G) joins.w q) (sym (at_v b is.1))
            (Leads-one (Joins left G) joins.w joins.u (Joins-back left G joins.u joins.w (over chosen too))))

    -- any other step stays
    step_other : (a b : ℕ) (j : Joins old.edges F a b) → (j.place ≡ joins.earlier → ⊥) → (j.place ≡ joins.later → ⊥) →
        Leads (Joins left G) (seen a) (seen b)
    step_other a b j not_earlier not_later = subst (λ p. Leads (Joins left G) p (seen b)) (sym (stays a a_end))
        (subst (λ q. Leads (Joins left G) a q) (sym (stays b b_end)) (Leads-one (Joins left G) a b (record {
          place = j.place;
          x = j.x;
          chosen = put_other F joins.earlier (F joins.earlier && F joins.later) j.place not_earlier ∙ j.chosen;
          at = still v old new joins j.place j.x not_earlier not_later j.at;
          ends = j.ends;
        })))
      where
        a_end : (j.x.edge.a ≡ a) ⊎ (j.x.edge.b ≡ a)
        a_end = ⊎_elim (λ (along : (j.x.edge.a ≡ a) × (j.x.edge.b ≡ b)). inl along.0)
            (λ (against : (j.x.edge.a ≡ b) × (j.x.edge.b ≡ a)). inr against.1) j.ends

        b_end : (j.x.edge.a ≡ b) ⊎ (j.x.edge.b ≡ b)
        b_end = ⊎_elim (λ (along : (j.x.edge.a ≡ a) × (j.x.edge.b ≡ b)). inr along.1)
            (λ (against : (j.x.edge.a ≡ b) × (j.x.edge.b ≡ a)). inl against.0) j.ends

        ends_in : (z : ℕ) → (j.x.edge.a ≡ z) ⊎ (j.x.edge.b ≡ z) → z ≡ v → EndsIn old v j.place
        ends_in z end is = (j.x, j.at, subst (λ q. (j.x.edge.a ≡ q) ⊎ (j.x.edge.b ≡ q)) is end)

        stays : (z : ℕ) → (j.x.edge.a ≡ z) ⊎ (j.x.edge.b ≡ z) → seen z ≡ z
        stays z end = seen_other v (if F joins.earlier then joins.u else joins.w) z
            (λ is. ⊎_elim not_earlier not_later (joins.only j.place (ends_in z end is)))

    step_after : (a b : ℕ) → Joins old.edges F a b → Leads (Joins left G) (seen a) (seen b)
    step_after a b j = elim (cases_eq j.place joins.earlier) [
      | inl here ↦
          (let same : j.x ≡ joins.x = same_edge old joins.earlier j.x joins.x
          (subst (λ n. HasEdge old n j.x) here j.at) joins.earlier_at in
          step_earlier a b (subst (λ n. F n ≡ true) here j.chosen) (subst (λ z. HasEnds z.edge a b) same j.ends))
      | inr not_earlier ↦ elim (cases_eq j.place joins.later) [
        | inl here ↦
            (let same : j.x ≡ joins.y = same_edge old joins.later j.x joins.y
            (subst (λ n. HasEdge old n j.x) here j.at) joins.later_at in
            let too : F joins.later ≡ true = subst (λ n. F n ≡ true) here j.chosen in
            let ends : HasEnds joins.y.edge a b = subst (λ z. HasEnds z.edge a b) same j.ends in
            ⊎_elim (λ (chosen : F joins.earlier ≡ true). step_later a b chosen too ends)
            (λ (out : F joins.earlier ≡ false). step_later_alone a b out ends) (cases_Bool (F joins.earlier)))
        | inr not_later ↦ step_other a b j not_earlier not_later
      ]
    ]

    terminal_stays : (t : ℕ) → In old.terminals t → seen t ≡ t
    terminal_stays t is = seen_other v (if F joins.earlier then joins.u else joins.w) t
        (λ e. joins.free (Contains-from_In old.terminals v (subst (In old.terminals) e is)))

    narrowed : Narrowed old after F
    narrowed = record {
      G = G;
      net = λ t u first second. subst (λ p. Leads (Joins left G) p u) (terminal_stays t first)
          (subst (λ q. Leads (Joins left G) (seen t) q) (terminal_stays u second)
          (Leads-mapped (Joins old.edges F) (Joins left G) seen step_after t u (net t u first second)));
      short = omega (
        arith,
        length_in-set mid joins.later (Some joins.y) None G G (later_at v old new joins) (λ k other. refl),
        length_in-set old.edges joins.earlier (Some joins.x) (Some one) F G joins.earlier_at
            (λ k other. sym (put_other F joins.earlier (F joins.earlier && F joins.later) k other)),
        ap (part (Some one)) (put_same F joins.earlier (F joins.earlier && F joins.later)),
        ap (part (Some joins.y)) (put_other F joins.earlier (F joins.earlier && F joins.later) joins.later
            (λ e. (apart v old new joins) (sym e))),
        part_joined-le joins.x joins.y joins.u joins.w (F joins.earlier) (F joins.later),
        part_none (G joins.later),
      );
    }

  pub Keeps-joined : Keeps old new
  Keeps-joined = subst (Keeps old) (sym joins.becomes) (record { widens = widened v old new joins; narrows = narrowed })
