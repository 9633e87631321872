-- The invariants of a search that goes on from found vertices.
use Rattle.std.proofs.Common.{◌≡◌, ℕ, ◌+◌, ◌<◌, ◌≤◌, Bool, List, [], ◌∷◌, ◌++◌, length, get_or, slice_get, Some, Contains, ◌⊎◌, ◌↔◌, ⊎_elim, sym, refl, ap, ◌∙◌, subst, arith, length-append}
use Rattle.std.proofs.lemmas.Bool.{cases_lt}
use Rattle.std.proofs.lemmas.List.{get_or_append_left}
use Rattle.std.proofs.lemmas.List.Elements.{All-contains, Contains-get_or, Contains-append_left, Contains-append_cases, Contains-push}
use Rattle.std.proofs.lemmas.Option.{same_Some, slice_get_within, slice_get-get_or, get_or_from_slice_get}
use Rattle.net_graph.specs.declared.arcs.Arc.{Arc}
use Rattle.net_graph.specs.declared.edge.Edge.{Edge}
use Rattle.net_graph.specs.Arcs.{partner_of}
use Rattle.net_graph.specs.Flags.{has}
use Rattle.net_graph.specs.Growth.{LeadsToOne, LeadsFromOne, HasArc, IsClosedBut, IsGoneOver}
use Rattle.net_graph.specs.Search.{OpenStep, Extends}
use Rattle.net_graph.specs.SearchLaws.{Leads-start, Leads-more, Leads-trans, Leads-weaker}
use Rattle.net_graph.specs.Turned.{OpenStep-turned, Leads-turned}
use Rattle.net_graph.proofs.lemmas.SearchLemmas.{Extends-more, Extends-keeps}

-- each of the vertices leads to itself
pub LeadsToOne-start : (Step : ℕ → ℕ → Type 0) (ends : List ℕ) (v : ℕ) → Contains ends v → LeadsToOne Step ends v
LeadsToOne-start Step ends v listed = (v, listed, Leads-start Step v)

-- one step before
pub LeadsToOne-before : (Step : ℕ → ℕ → Type 0) (ends : List ℕ) (u v : ℕ) → Step u v → LeadsToOne Step ends v → LeadsToOne Step ends u
LeadsToOne-before Step ends u v step (end, listed, led) = (end, listed, Leads-trans Step u v end (Leads-more Step u u v (Leads-start Step u) step) led)

-- what holds of the old vertices and of those that stand behind them holds of all
pub Extends-all : (P Q : ℕ → Type 0) (old now : List ℕ) → Extends P old now → ((v : ℕ) → Contains old v → Q v) → ((v : ℕ) → P v → Q v) → (v : ℕ) → Contains now v → Q v
Extends-all P Q old now more before behind v listed =
    let inside : Contains (old ++ more.rest) v = rw more.is at listed in
    ⊎_elim (before v) (λ new. behind v (All-contains P more.rest v more.each new)) (Contains-append_cases old more.rest v inside)

-- the tails of those of the first n arcs that lead to an old vertex were added, and no others than what the arcs lead from
pub record AddsTails (size : ℕ) (arcs : List Arc) (n : ℕ) (old now : List ℕ) : Type 0 where
  pub more : Extends (λ u. (u < size) × LeadsToOne (HasArc arcs) old u) old now
  pub every : (k : ℕ) (arc : Arc) → k < n → slice_get arcs k ≡ Some arc → Contains old arc.to → Contains now arc.from

-- an arc that doesn't lead to a found vertex
pub AddsTails-apart : (size : ℕ) (arcs : List Arc) (n : ℕ) (old now : List ℕ) (arc : Arc) → AddsTails size arcs n old now → slice_get arcs n ≡ Some arc → (Contains now arc.to → ⊥) → AddsTails size arcs (n + 1) old now
AddsTails-apart size arcs n old now arc adds at apart = record {
  more = adds.more;
  every = λ k x lt at_k listed. ⊎_elim (λ earlier. adds.every k x earlier at_k listed)
      (λ later. let same : n ≡ k = omega arith in
      let same_arc : x ≡ arc = same_Some x arc (sym (subst (λ i. slice_get arcs i ≡ Some x) (sym same) at_k) ∙ at) in
      absurd (apart (Extends-keeps (λ u. (u < size) × LeadsToOne (HasArc arcs) old u) old now arc.to adds.more (subst (λ (y : Arc). Contains old y.to) same_arc listed)))) (cases_lt k n);
}

-- an arc that leads to a found vertex
pub AddsTails-added : (size : ℕ) (arcs : List Arc) (n : ℕ) (old now next : List ℕ) (arc : Arc) → AddsTails size arcs n old now → slice_get arcs n ≡ Some arc → arc.from < size → Contains now arc.to →
    (next ≡ now ++ arc.from ∷ []) ⊎ (Contains now arc.from × (next ≡ now)) → AddsTails size arcs (n + 1) old next
AddsTails-added size arcs n old now next arc adds at below found added =
    let P : ℕ → Type 0 = λ u. (u < size) × LeadsToOne (HasArc arcs) old u in
    let listed_arc : Contains arcs arc = (n, slice_get_within arcs n arc at, get_or_from_slice_get arcs n arc arc at) in
    let ends : LeadsToOne (HasArc arcs) old arc.to = Extends-all P (LeadsToOne (HasArc arcs) old) old now adds.more (LeadsToOne-start (HasArc arcs) old) (λ v p. p.1) arc.to found in
    let here : P arc.from = (below, LeadsToOne-before (HasArc arcs) old arc.from arc.to (arc, listed_arc, refl, refl) ends) in
    let last : Extends P old next × Contains next arc.from × ((v : ℕ) → Contains now v → Contains next v) = ⊎_elim
    (λ new. rw new (Extends-more P old now arc.from adds.more here, Contains-push now arc.from, Contains-append_left now (arc.from ∷ [])))
    (λ (has, same). rw same (adds.more, has, λ v listed. listed)) added in
    record {
      more = last.0;
      every = λ k x lt at_k listed. ⊎_elim (λ earlier. last.2 x.from (adds.every k x earlier at_k listed))
          (λ later. let same : n ≡ k = omega arith in
          let same_arc : arc ≡ x = same_Some arc x (sym at ∙ subst (λ i. slice_get arcs i ≡ Some x) (sym same) at_k) in
          subst (λ (y : Arc). Contains next y.from) same_arc last.1) (cases_lt k n);
    }

-- when all arcs were gone over
pub AddsTails-all : (size : ℕ) (arcs : List Arc) (n : ℕ) (old now : List ℕ) → length arcs ≤ n → AddsTails size arcs n old now → (u v : ℕ) → Contains old v → HasArc arcs u v → Contains now u
AddsTails-all size arcs n old now all adds u v listed (arc, (k, lt, is), leaves, comes) =
    subst (Contains now) leaves (adds.every k arc (omega arith) (slice_get-get_or arcs k arc lt ∙ ap (λ x. Some x) is) (subst (Contains old) (sym comes) listed))

-- the arcs may be walked
Step-from_arc : (vertices : ℕ) (edges : List Edge) (opens : ℕ → Bool) (arcs : List Arc) (order : List ℕ) → IsClosedBut vertices edges opens arcs order → (u v : ℕ) → HasArc arcs u v → OpenStep edges opens u v
Step-from_arc vertices edges opens arcs order but u v (arc, listed, leaves, comes) =
    let step : OpenStep edges opens arc.from arc.to = All-contains (λ (x : Arc). OpenStep edges opens x.from x.to) arcs arc but.steps listed in
    subst (λ y. OpenStep edges opens u y) comes (subst (λ x. OpenStep edges opens x arc.to) leaves step)

-- a search against the arcs' direction goes on from the old vertices once the tails of the arcs were added
pub IsGoneOver-grown : (vertices : ℕ) (edges : List Edge) (opens : ℕ → Bool) (arcs : List Arc) (old now : List ℕ) → IsClosedBut vertices edges opens arcs old → ((v : ℕ) → Contains old v → v < vertices) →
    Extends (λ u. (u < vertices) × LeadsToOne (HasArc arcs) old u) old now → ((u v : ℕ) → Contains old v → HasArc arcs u v → Contains now u) →
    IsGoneOver vertices (OpenStep edges (λ arc. opens (partner_of arc))) (length old) now
IsGoneOver-grown vertices edges opens arcs old now but low more every =
    let Arcs : ℕ → ℕ → Type 0 = HasArc arcs in
    let Step : ℕ → ℕ → Type 0 = OpenStep edges opens in
    let P : ℕ → Type 0 = λ u. (u < vertices) × LeadsToOne Arcs old u in
    record {
      below = λ k d lt. Extends-all P (λ v. v < vertices) old now more low (λ v p. p.0) (get_or now k d) (Contains-get_or now k d lt);
      within = let is : now ≡ old ++ more.rest = more.is in omega (arith, ap length is, length-append old more.rest);
      closed = λ k v w lt at back.
          let is : now ≡ old ++ more.rest = more.is in
          let here : get_or old k v ≡ v = sym (get_or_append_left old more.rest v k lt) ∙ get_or_from_slice_get (old ++ more.rest) k v v (rw is at at) in
          let step : Step w v = OpenStep-turned edges opens v w back in
          ⊎_elim (Extends-keeps P old now w more) (every w v (k, lt, here)) (but.closed w v (k, lt, here) step);
    }

-- those to which steps back lead from an old vertex or from the tails that were added are those that lead to an old one
pub LeadsToOne-iff_back : (vertices : ℕ) (edges : List Edge) (opens : ℕ → Bool) (arcs : List Arc) (old now : List ℕ) → IsClosedBut vertices edges opens arcs old →
    Extends (λ u. (u < vertices) × LeadsToOne (HasArc arcs) old u) old now → (v : ℕ) →
    LeadsFromOne (OpenStep edges (λ arc. opens (partner_of arc))) now v ↔ LeadsToOne (OpenStep edges opens) old v
LeadsToOne-iff_back vertices edges opens arcs old now but more v =
    let Arcs : ℕ → ℕ → Type 0 = HasArc arcs in
    let Step : ℕ → ℕ → Type 0 = OpenStep edges opens in
    let P : ℕ → Type 0 = λ u. (u < vertices) × LeadsToOne Arcs old u in
    let wider : (w : ℕ) → P w → LeadsToOne Step old w = λ w (below, (end, listed, led)). (end, listed, Leads-weaker Arcs Step (Step-from_arc vertices edges opens arcs old but) w end led) in (
      λ (start, listed, led).
          let (end, ends, on) = Extends-all P (LeadsToOne Step old) old now more (LeadsToOne-start Step old) wider start listed in
          (end, ends, Leads-trans Step v start end ((Leads-turned edges opens start v).0 led) on),
      λ (end, listed, led). (end, Extends-keeps P old now end more listed, (Leads-turned edges opens end v).1 led),
    )
