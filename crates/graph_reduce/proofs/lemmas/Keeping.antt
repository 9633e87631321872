-- What a step of a reduction keeps: choices of places of one state, and of the next, that join the terminals.
use Rattle.std.specs.Prelude.{ℕ, ◌≡◌, ◌+◌, ◌≤◌, ◌⊎◌, Bool, true, false, List, slice_get, slice_set, Option, Some, None}
use Rattle.std.proofs.Common.{refl, ap, ◌∙◌, inl, inr, ⊎_elim, arith}
use Rattle.net_graph.specs.EntryLaws.{slice_get-set_other}
use Rattle.net_graph.specs.Flags.{has}
use Rattle.net_graph.specs.SearchLaws.{Leads-weaker}
use Rattle.graph_reduce.specs.State.{Bundle, State, HasEdge}
use Rattle.graph_reduce.proofs.lemmas.Choices.{put, put_same, put_other, put_out, set_cases}
use Rattle.graph_reduce.proofs.lemmas.Lengths.{part, length_in, part_none, length_in-set}
use Rattle.graph_reduce.proofs.lemmas.Walks.{Joins, IsNet}

-- a chosen place holds an edge that stands for this edge of the graph
pub record Carries (edges : List (Option Bundle)) (F : ℕ → Bool) (e : ℕ) : Type 0 where
  pub place : ℕ
  pub x : Bundle
  pub chosen : F place ≡ true
  pub at : slice_get edges place ≡ Some (Some x)
  pub original : has x.originals e ≡ true

-- the choice stands for this edge of the graph
abbrev pub Lifts : State → (ℕ → Bool) → ℕ → Type 0
Lifts s F e = (has s.forced e ≡ true) ⊎ Carries s.edges F e

-- the length of a choice with the offset
abbrev pub value_of : State → (ℕ → Bool) → ℕ
value_of s F = length_in s.edges F + s.offset

-- a choice of the old state that stands for what a choice of the new state does, with the same length
pub record Widened (old new : State) (G : ℕ → Bool) : Type 0 where
  pub F : ℕ → Bool
  pub net : IsNet old F
  pub into : (e : ℕ) → Lifts old F e → Lifts new G e
  pub back : (e : ℕ) → Lifts new G e → Lifts old F e
  pub value : value_of old F ≡ value_of new G

-- a choice of the new state that is no longer than a choice of the old one
pub record Narrowed (old new : State) (F : ℕ → Bool) : Type 0 where
  pub G : ℕ → Bool
  pub net : IsNet new G
  pub short : value_of new G ≤ value_of old F

-- the one state keeps the choices of the other, in both directions
pub record Keeps (old new : State) : Type 0 where
  pub widens : (G : ℕ → Bool) → IsNet new G → Widened old new G
  pub narrows : (F : ℕ → Bool) → IsNet old F → Narrowed old new F

-- a state keeps its own
pub Keeps-same : (s : State) → Keeps s s
Keeps-same s = record {
  widens = λ G net. record { F = G; net = net; into = λ e is. is; back = λ e is. is; value = refl };
  narrows = λ F net. record { G = F; net = net; short = omega arith };
}

-- .. and what a second state keeps of a first, and a third of the second, the third keeps of the first
pub Keeps-then : (one two three : State) → Keeps one two → Keeps two three → Keeps one three
Keeps-then one two three first second = record { widens = widens; narrows = narrows }
  where
    widens : (G : ℕ → Bool) → IsNet three G → Widened one three G
    widens G net =
        let mid : Widened two three G = second.widens G net in
        let low : Widened one two mid.F = first.widens mid.F mid.net in
        record {
          F = low.F;
          net = low.net;
          into = λ e is. mid.into e (low.into e is);
          back = λ e is. low.back e (mid.back e is);
          value = low.value ∙ mid.value;
        }

    narrows : (F : ℕ → Bool) → IsNet one F → Narrowed one three F
    narrows F net =
        let mid : Narrowed one two F = first.narrows F net in
        let high : Narrowed two three mid.G = second.narrows mid.G mid.net in
        record { G = high.G; net = high.net; short = omega (arith, mid.short, high.short) }

-- ---- where one edge is dropped

-- the state without the edge at a place, and with these nodes
abbrev pub dropped : State → List Bool → ℕ → State
dropped s nodes place = record s { nodes = nodes; edges = slice_set s.edges place None }

-- an edge that is found there was found before, at another place
pub found_before : (edges : List (Option Bundle)) (n k : ℕ) (y : Bundle) →
    slice_get (slice_set edges n None) k ≡ Some (Some y) → (k ≡ n → ⊥) × (slice_get edges k ≡ Some (Some y))
found_before edges n k y found = grind (arith, set_cases)

-- a choice of the edges that are left is one of the edges before
pub widened_by_drop : (s : State) (nodes : List Bool) (n : ℕ) (x : Bundle) → HasEdge s n x → (G : ℕ → Bool) →
    IsNet (dropped s nodes n) G → Widened s (dropped s nodes n) G
widened_by_drop s nodes n x at G net = record {
  F = F;
  net = λ v w first second. Leads-weaker (Joins after G) (Joins s.edges F) step v w (net v w first second);
  into = λ e is. ⊎_elim (λ (f : has s.forced e ≡ true). inl f) (λ (c : Carries s.edges F e). inr (carries_into e c)) is;
  back = λ e is. ⊎_elim (λ (f : has s.forced e ≡ true). inl f) (λ (c : Carries after G e). inr (carries_back e c)) is;
  value = omega (
    arith,
    length_in-set s.edges n (Some x) None F G at (λ k apart. put_other G n false k apart),
    part_none (G n),
    out,
  );
}
  where
    F : ℕ → Bool
    F = put G n false

    out : part (Some x) (F n) ≡ 0
    out = ap (part (Some x)) (put_same G n false)

    after : List (Option Bundle)
    after = slice_set s.edges n None

    step : (v w : ℕ) → Joins after G v w → Joins s.edges F v w
    step v w j =
        let before = found_before s.edges n j.place j.x j.at in
        record {
          place = j.place;
          x = j.x;
          chosen = put_other G n false j.place before.0 ∙ j.chosen;
          at = before.1;
          ends = j.ends;
        }

    carries_back : (e : ℕ) → Carries after G e → Carries s.edges F e
    carries_back e c =
        let before = found_before s.edges n c.place c.x c.at in
        record {
          place = c.place;
          x = c.x;
          chosen = put_other G n false c.place before.0 ∙ c.chosen;
          at = before.1;
          original = c.original;
        }

    carries_into : (e : ℕ) → Carries s.edges F e → Carries after G e
    carries_into e c =
        let left = put_out G n c.place c.chosen in
        grind (arith, slice_get-set_other)

-- a state that drops an edge, where the choices before can do without it
pub Keeps-dropped : (s : State) (nodes : List Bool) (n : ℕ) (x : Bundle) → HasEdge s n x →
    ((F : ℕ → Bool) → IsNet s F → Narrowed s (dropped s nodes n) F) → Keeps s (dropped s nodes n)
Keeps-dropped s nodes n x at narrows = record { widens = widened_by_drop s nodes n x at; narrows = narrows }

-- an edge at another place is still there
pub still_joins : (edges : List (Option Bundle)) (n : ℕ) (z : Option Bundle) (F G : ℕ → Bool) (v w : ℕ) →
    (j : Joins edges F v w) → (j.place ≡ n → ⊥) → G j.place ≡ true → Joins (slice_set edges n z) G v w
still_joins edges n z F G v w j apart chosen = grind (arith, slice_get-set_other)

-- an edge that is dropped, where the choice stays as it is, takes its length with it
pub short_by_drop : (s : State) (nodes : List Bool) (n : ℕ) (x : Bundle) (F : ℕ → Bool) → HasEdge s n x →
    value_of (dropped s nodes n) F ≤ value_of s F
short_by_drop s nodes n x F at =
    omega (arith, length_in-set s.edges n (Some x) None F F at (λ k apart. refl), part_none (F n))
