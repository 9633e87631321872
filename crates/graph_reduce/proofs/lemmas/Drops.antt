-- The rules that drop edges and nodes keep what joins the terminals.
use Rattle.std.specs.Prelude.{ℕ, ◌≡◌, ◌⊎◌, Bool, true, false, List, [], ◌∷◌, length, slice_set, Option, Some, None}
use Rattle.std.proofs.Common.{refl, sym, ◌∙◌, inl, inr, ⊎_elim, subst, arith}
use Rattle.std.proofs.lemmas.Bool.{cases_eq}
use Rattle.net_graph.specs.EntryLaws.{slice_get-replicate}
use Rattle.net_graph.specs.Flags.{has}
use Rattle.net_graph.specs.Network.{HasEnds}
use Rattle.net_graph.specs.Search.{Leads}
use Rattle.net_graph.specs.SearchLaws.{Leads-start}
use Rattle.graph_reduce.specs.State.{Bundle, State, HasEdge, HasOneEdge}
use Rattle.graph_reduce.specs.Rules.{DropsAllEdges, DropsLoop, DropsLoneNode, DropsLeaf, without_edges}
use Rattle.graph_reduce.proofs.lemmas.Lengths.{length_in-none, length_in-nothing}
use Rattle.graph_reduce.proofs.lemmas.Terminals.{In, Contains-from_In}
use Rattle.graph_reduce.proofs.lemmas.Walks.{Joins, IsNet, Leads-one, Leads-mapped}
use Rattle.graph_reduce.proofs.lemmas.Ends.{same_edge, seen_at, seen_other, seen_ends}
use Rattle.graph_reduce.proofs.lemmas.Keeping.{Carries, Widened, Narrowed, Keeps, dropped, Keeps-dropped, still_joins, short_by_drop}

-- ---- the edges where there is one terminal

only_terminal : (xs : List ℕ) (v w : ℕ) → length xs ≡ 1 → In xs v → In xs w → v ≡ w
only_terminal [] v w one first second = absurd first
only_terminal (x ∷ []) v w one (inl first) (inl second) = sym first ∙ second
only_terminal (x ∷ []) v w one (inl first) (inr second) = absurd second
only_terminal (x ∷ []) v w one (inr first) second = absurd first
only_terminal (x ∷ y ∷ xs) v w one first second = absurd (omega arith)

pub Keeps-all_edges : (old new : State) → DropsAllEdges old new → Keeps old new
Keeps-all_edges old new drops = subst (Keeps old) (sym drops.becomes) (record { widens = widens; narrows = narrows })
  where
    after : State
    after = without_edges old

    net : (edges : List (Option Bundle)) (F : ℕ → Bool) (v w : ℕ) → In old.terminals v → In old.terminals w →
        Leads (Joins edges F) v w
    net edges F v w first second = subst (λ u. Leads (Joins edges F) v u)
        (only_terminal old.terminals v w drops.one first second) (Leads-start (Joins edges F) v)

    no_edge : (F : ℕ → Bool) (e : ℕ) → Carries after.edges F e → ⊥
    no_edge F e c = let none : None ≡ Some c.x = slice_get-replicate _ c.place None (Some c.x) c.at in cc

    widens : (G : ℕ → Bool) → IsNet after G → Widened old after G
    widens G given = record {
      F = λ n. false;
      net = net old.edges (λ n. false);
      into = grind arith;
      back = λ e is. ⊎_elim (λ (f : has old.forced e ≡ true). inl f)
          (λ (c : Carries after.edges G e). absurd (no_edge G e c)) is;
      value = omega (arith, length_in-nothing old.edges, length_in-none (length old.edges) G);
    }

    narrows : (F : ℕ → Bool) → IsNet old F → Narrowed old after F
    narrows F given = record {
      G = F;
      net = net after.edges F;
      short = omega (arith, length_in-none (length old.edges) F);
    }

-- ---- a loop

pub Keeps-loop : (place : ℕ) (old new : State) → DropsLoop place old new → Keeps old new
Keeps-loop place old new drops = subst (Keeps old) (sym drops.becomes)
    (Keeps-dropped old old.nodes place drops.loop drops.at narrows)
  where
    step : (F : ℕ → Bool) (v w : ℕ) → Joins old.edges F v w → Leads (Joins (slice_set old.edges place None) F) v w
    step F v w j = elim (cases_eq j.place place) [
      | inl here ↦
          grind arith
      | inr apart ↦ Leads-one (Joins (slice_set old.edges place None) F) v w
          (still_joins old.edges place None F F v w j apart j.chosen)
    ]

    narrows : (F : ℕ → Bool) → IsNet old F → Narrowed old (dropped old old.nodes place) F
    narrows F net = record {
      G = F;
      net = λ v w first second. Leads-mapped (Joins old.edges F) (Joins (slice_set old.edges place None) F) (λ u. u)
          (step F) v w (net v w first second);
      short = short_by_drop old old.nodes place drops.loop F drops.at;
    }

-- ---- a node with no edge

pub Keeps-lone_node : (v : ℕ) (old new : State) → DropsLoneNode v old new → Keeps old new
Keeps-lone_node v old new drops = subst (Keeps old) (sym drops.becomes) (record {
  widens = λ G net. record { F = G; net = net; into = λ e is. is; back = λ e is. is; value = refl };
  narrows = λ F net. record { G = F; net = net; short = omega arith };
})

-- ---- a node with one edge

-- a step along the edge of such a node leads nowhere, and any other stays
pub step_past_leaf : (s : State) (v place : ℕ) (x : Bundle) (other : ℕ) → HasOneEdge s v place x other →
    (F : ℕ → Bool) (u w : ℕ) → Joins s.edges F u w →
    Leads (Joins (slice_set s.edges place None) F) (seen_at v other u) (seen_at v other w)
step_past_leaf s v place x other edge F u w j = elim (cases_eq j.place place) [
  | inl here ↦ search (Leads-start, arith)
  | inr apart ↦ Leads-one Left _ _ (subst (λ z. Left z (seen_at v other w)) (sym (seen_other v other u (λ is. apart
      (edge.only j.place (j.x, j.at, u_end is))))) (subst (λ z. Left u z) (sym (seen_other v other w (λ is. apart
      (edge.only j.place (j.x, j.at, w_end is))))) (still_joins s.edges place None F F u w j apart j.chosen)))
]
  where
    Left : ℕ → ℕ → Type 0
    Left = Joins (slice_set s.edges place None) F

    u_end : u ≡ v → (j.x.edge.a ≡ v) ⊎ (j.x.edge.b ≡ v)
    u_end is = ⊎_elim (λ (along : (j.x.edge.a ≡ u) × (j.x.edge.b ≡ w)). inl (along.0 ∙ is))
        (λ (against : (j.x.edge.a ≡ w) × (j.x.edge.b ≡ u)). inr (against.1 ∙ is)) j.ends

    w_end : w ≡ v → (j.x.edge.a ≡ v) ⊎ (j.x.edge.b ≡ v)
    w_end is = ⊎_elim (λ (along : (j.x.edge.a ≡ u) × (j.x.edge.b ≡ w)). inr (along.1 ∙ is))
        (λ (against : (j.x.edge.a ≡ w) × (j.x.edge.b ≡ u)). inl (against.0 ∙ is)) j.ends

    both : j.place ≡ place → seen_at v other u ≡ seen_at v other w
    both here = seen_ends x v other u w edge.ends (subst (λ y. HasEnds y.edge u w) (same_edge s place j.x x
        (subst (λ n. HasEdge s n j.x) here j.at) edge.at) j.ends)

pub Keeps-leaf : (v : ℕ) (old new : State) → DropsLeaf v old new → Keeps old new
Keeps-leaf v old new drops = subst (Keeps old) (sym drops.becomes)
    (Keeps-dropped old (slice_set old.nodes v false) drops.place drops.x drops.edge.at narrows)
  where
    after : List (Option Bundle)
    after = slice_set old.edges drops.place None

    stays : (t : ℕ) → In old.terminals t → seen_at v drops.other t ≡ t
    stays t is = seen_other v drops.other t
        (λ e. drops.free (Contains-from_In old.terminals v (subst (In old.terminals) e is)))

    narrows : (F : ℕ → Bool) → IsNet old F → Narrowed old (dropped old (slice_set old.nodes v false) drops.place) F
    narrows F net = record {
      G = F;
      net = λ t u first second. subst (λ z. Leads (Joins after F) z u) (stays t first)
          (subst (λ z. Leads (Joins after F) (seen_at v drops.other t) z) (stays u second)
          (Leads-mapped (Joins old.edges F) (Joins after F) (seen_at v drops.other)
          (step_past_leaf old v drops.place drops.x drops.other drops.edge F) t u (net t u first second)));
      short = short_by_drop old (slice_set old.nodes v false) drops.place drops.x F drops.edge.at;
    }
