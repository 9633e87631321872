-- The rule that forces the one edge of a terminal keeps what joins the terminals.
use Rattle.std.specs.Prelude.{ℕ, ◌≡◌, ◌+◌, ◌⊎◌, Bool, true, false, length, slice_set, Some, None}
use Rattle.std.proofs.Common.{refl, sym, ap, ◌∙◌, inl, inr, ⊎_elim, subst, arith}
use Rattle.std.proofs.lemmas.Bool.{cases_eq}
use Rattle.net_graph.specs.EntryLaws.{slice_get-set_other}
use Rattle.net_graph.specs.Flags.{has}
use Rattle.net_graph.specs.Search.{Leads}
use Rattle.net_graph.specs.SearchLaws.{Leads-keeps, Leads-trans, Leads-weaker}
use Rattle.graph_reduce.specs.State.{State, HasEdge, union}
use Rattle.graph_reduce.specs.Rules.{ForcesEdge, moved}
use Rattle.graph_reduce.proofs.lemmas.Choices.{put, put_same, put_other, put_in}
use Rattle.graph_reduce.proofs.lemmas.Drops.{step_past_leaf}
use Rattle.graph_reduce.proofs.lemmas.Ends.{same_edge, seen_at, seen_same, seen_other}
use Rattle.graph_reduce.proofs.lemmas.Keeping.{Carries, Lifts, Widened, Narrowed, Keeps, found_before}
use Rattle.graph_reduce.proofs.lemmas.Lengths.{part, part_none, length_in-set}
use Rattle.graph_reduce.proofs.lemmas.Terminals.{In, In-from_Contains, AreDistinct, In-moved, In-moved_from, In-moved_to, another}
use Rattle.graph_reduce.proofs.lemmas.Unions.{union_cases, union_left, union_right}
use Rattle.graph_reduce.proofs.lemmas.Walks.{Joins, IsNet, HasEnds-back, walk_back, Leads-one, Leads-mapped}

module _ (v : ℕ) (old new : State) (forces : ForcesEdge v old new) (distinct : AreDistinct old.terminals)
    (more : length old.terminals ≡ 1 → ⊥) (no_loop : forces.other ≡ v → ⊥) where
  abbrev after : State
  after = record {
    nodes = slice_set old.nodes v false;
    edges = slice_set old.edges forces.place None;
    terminals = moved old.terminals v forces.other;
    forced = union old.forced forces.x.originals;
    offset = old.offset + forces.x.edge.length;
  }

  is_in : In old.terminals v
  is_in = In-from_Contains old.terminals v forces.terminal

  other_in : In after.terminals forces.other
  other_in = In-moved_to old.terminals v forces.other is_in no_loop

  -- ---- a choice of the edges that are left, and the edge

  module _ (G : ℕ → Bool) (net : IsNet after G) where
    abbrev F : ℕ → Bool
    F = put G forces.place true

    step_before : (a b : ℕ) → Joins after.edges G a b → Joins old.edges F a b
    step_before a b j =
        let before = found_before old.edges forces.place j.place j.x j.at in
        record {
          place = j.place;
          x = j.x;
          chosen = put_in G forces.place j.place j.chosen;
          at = before.1;
          ends = j.ends;
        }

    -- the other end leads to each terminal
    from_other : (t : ℕ) → In old.terminals t → Leads (Joins old.edges F) forces.other t
    from_other t is = elim (cases_eq t v) [
      | inl here ↦ subst (λ z. Leads (Joins old.edges F) forces.other z) (sym here)
          (Leads-one (Joins old.edges F) forces.other v (record {
            place = forces.place;
            x = forces.x;
            chosen = put_same G forces.place true;
            at = forces.edge.at;
            ends = HasEnds-back forces.x v forces.other forces.edge.ends;
          }))
      | inr apart ↦ Leads-weaker (Joins after.edges G) (Joins old.edges F) step_before forces.other t
          (net forces.other t other_in (In-moved_from old.terminals v forces.other t is apart))
    ]

    carries_into : (e : ℕ) → Carries old.edges F e → Lifts after G e
    carries_into e c = elim (cases_eq c.place forces.place) [
      | inl here ↦
          (let same : c.x ≡ forces.x = same_edge old forces.place c.x forces.x
          (subst (λ n. HasEdge old n c.x) here c.at) forces.edge.at in
          inl (union_right old.forced forces.x.originals e (subst (λ x. has x.originals e ≡ true) same c.original)))
      | inr apart ↦ inr (record {
        place = c.place;
        x = c.x;
        chosen = sym (put_other G forces.place true c.place apart) ∙ c.chosen;
        at = slice_get-set_other old.edges forces.place c.place None apart ∙ c.at;
        original = c.original;
      })
    ]

    into : (e : ℕ) → Lifts old F e → Lifts after G e
    into e (inl forced) = inl (union_left old.forced forces.x.originals e forced)
    into e (inr c) = carries_into e c

    back : (e : ℕ) → Lifts after G e → Lifts old F e
    back e (inl forced) = ⊎_elim (λ (before : has old.forced e ≡ true). inl before)
        (λ (original : has forces.x.originals e ≡ true). inr (record {
          place = forces.place;
          x = forces.x;
          chosen = put_same G forces.place true;
          at = forces.edge.at;
          original = original;
        })) (union_cases old.forced forces.x.originals e forced)
    back e (inr c) =
        let before = found_before old.edges forces.place c.place c.x c.at in
        inr (record {
          place = c.place;
          x = c.x;
          chosen = put_in G forces.place c.place c.chosen;
          at = before.1;
          original = c.original;
        })

    widened : Widened old after G
    widened = record {
      F = F;
      net = λ t w first second. Leads-trans (Joins old.edges F) t forces.other w
          (walk_back old.edges F forces.other t (from_other t first)) (from_other w second);
      into = into;
      back = back;
      value = omega (
        arith,
        length_in-set old.edges forces.place (Some forces.x) None F G forces.edge.at
            (λ k apart. put_other G forces.place true k apart),
        ap (part (Some forces.x)) (put_same G forces.place true),
        part_none (G forces.place),
      );
    }

  -- ---- a choice that joins the terminals has the edge

  module _ (F : ℕ → Bool) (net : IsNet old F) where
    leaves : (a b : ℕ) → (a ≡ v) ⊎ (F forces.place ≡ true) → Joins old.edges F a b →
        (b ≡ v) ⊎ (F forces.place ≡ true)
    leaves a b (inr chosen) j = inr chosen
    leaves a b (inl here) j = inr (subst (λ n. F n ≡ true) (forces.edge.only j.place (j.x, j.at, end)) j.chosen)
      where
        end : (j.x.edge.a ≡ v) ⊎ (j.x.edge.b ≡ v)
        end = ⊎_elim (λ (along : (j.x.edge.a ≡ a) × (j.x.edge.b ≡ b)). inl (along.0 ∙ here))
            (λ (against : (j.x.edge.a ≡ b) × (j.x.edge.b ≡ a)). inr (against.1 ∙ here)) j.ends

    is_chosen : F forces.place ≡ true
    is_chosen =
        let (w, w_in, apart) = another old.terminals v distinct is_in more in
        ⊎_elim (λ (here : w ≡ v). absurd (apart here)) (λ (chosen : F forces.place ≡ true). chosen)
        (Leads-keeps (Joins old.edges F) (λ z. (z ≡ v) ⊎ (F forces.place ≡ true)) v w (inl refl) leaves
        (net v w is_in w_in))

    -- each terminal that is left is where one of before is seen
    seen_from : (t : ℕ) → In after.terminals t → (z : ℕ) × In old.terminals z × (seen_at v forces.other z ≡ t)
    seen_from t is = ⊎_elim (λ (here : t ≡ forces.other). (v, is_in, seen_same v forces.other v refl ∙ sym here))
        (λ (p : In old.terminals t × (t ≡ v → ⊥)). (t, p.0, seen_other v forces.other t p.1))
        (In-moved old.terminals v forces.other t is_in is)

    narrowed : Narrowed old after F
    narrowed = record {
      G = F;
      net = λ t u first second. let (y, y_in, y_is) = seen_from t first in let (z, z_in, z_is) = seen_from u second in
          subst (λ p. Leads (Joins after.edges F) p u) y_is
          (subst (λ q. Leads (Joins after.edges F) (seen_at v forces.other y) q) z_is
          (Leads-mapped (Joins old.edges F) (Joins after.edges F) (seen_at v forces.other)
          (step_past_leaf old v forces.place forces.x forces.other forces.edge F) y z (net y z y_in z_in)));
      short = omega (
        arith,
        length_in-set old.edges forces.place (Some forces.x) None F F forces.edge.at (λ k apart. refl),
        ap (part (Some forces.x)) is_chosen,
        part_none (F forces.place),
      );
    }

  pub Keeps-forced : Keeps old new
  Keeps-forced = subst (Keeps old) (sym forces.becomes) (record { widens = widened; narrows = narrowed })
