-- What holds of every state of a reduction: sizes, lengths, and that no edge of the graph is held twice.
use Rattle.std.specs.Prelude.{ℕ, suc, ◌≡◌, ◌+◌, ◌<◌, ◌≤◌, ◌⊎◌, Bool, true, false, List, [], ◌∷◌, length, replicate, slice_get, sum_by, Some, None, All}
use Rattle.std.proofs.Common.{refl, sym, ap, ◌∙◌, inl, inr, ⊎_elim, subst, arith, length-set}
use Rattle.std.proofs.lemmas.List.{length-replicate}
use Rattle.std.proofs.lemmas.List.Sums.{sum_by-cons}
use Rattle.std.proofs.lemmas.Option.{same_Some, slice_get-get_or, slice_get_within}
use Rattle.net_graph.specs.declared.edge.Edge.{Edge}
use Rattle.net_graph.specs.EntryLaws.{slice_get-replicate}
use Rattle.net_graph.specs.Flags.{has}
use Rattle.net_graph.specs.Joins.{slice_get-has}
use Rattle.net_graph.specs.Graph.{Graph, IsGraph, total_of}
use Rattle.graph_reduce.specs.State.{Bundle, State, HasEdge, bundles_from, start_of}
use Rattle.net_graph.specs.Distinct.{distinct_of}
use Rattle.graph_reduce.specs.Rules.{DropsAllEdges, DropsParallel, DropsLoneNode, JoinsEdges, ForcesEdge, moved}
use Rattle.graph_reduce.specs.Step.{Rule, Takes, Applies, order_of}
use Rattle.graph_reduce.specs.Step.Rule.{OneTerminal, Loop, Parallel, Leaf, Passed, TerminalLeaf}
use Rattle.graph_reduce.proofs.lemmas.Beginning.{single_is}
use Rattle.graph_reduce.proofs.lemmas.JoinedPlaces.{one, mid, later_at, found}
use Rattle.graph_reduce.proofs.lemmas.Keeping.{value_of, dropped, found_before, short_by_drop}
use Rattle.graph_reduce.proofs.lemmas.Lengths.{length_in, length_in-set, length_in-none}
use Rattle.graph_reduce.proofs.lemmas.Soundness.{bundle_at, no_loop}
use Rattle.graph_reduce.proofs.lemmas.Terminals.{In, In-from_Contains, In-moved_to}
use Rattle.graph_reduce.proofs.lemmas.Unions.{union_cases, length-union}

-- all places are chosen
abbrev pub all : ℕ → Bool
all n = true

pub record Fits (g : Graph) (s : State) : Type 0 where
  pub nodes : length s.nodes ≡ g.vertices
  pub edges : length s.edges ≡ length g.edges
  pub forced : length s.forced ≡ length g.edges
  pub sizes : (n : ℕ) (x : Bundle) → HasEdge s n x → length x.originals ≡ length g.edges
  pub positive : (n : ℕ) (x : Bundle) → HasEdge s n x → 0 < x.edge.length
  pub some : 0 < length s.terminals
  pub total : value_of s all ≤ total_of g
  pub apart : (n m e : ℕ) (x y : Bundle) → HasEdge s n x → HasEdge s m y → has x.originals e ≡ true →
      has y.originals e ≡ true → n ≡ m
  pub unforced : (n e : ℕ) (x : Bundle) → HasEdge s n x → has x.originals e ≡ true → has s.forced e ≡ true → ⊥

some_from_In : (xs : List ℕ) (v : ℕ) → In xs v → 0 < length xs
some_from_In [] v is = absurd is
some_from_In (x ∷ xs) v is = omega arith

-- ---- the first state

pub length-bundles_from : (size n : ℕ) (es : List Edge) → length (bundles_from size n es) ≡ length es
length-bundles_from size n [] = refl
length-bundles_from size n (e ∷ es) = ap suc (length-bundles_from size (n + 1) es)

all_at_start : (size n : ℕ) (es : List Edge) → length_in (bundles_from size n es) all ≡ sum_by (λ e. e.length) es
all_at_start size n [] = refl
all_at_start size n (e ∷ es) = search (sum_by-cons, all_at_start size (n + 1) es)

some_distinct : (xs : List ℕ) → 0 < length xs → 0 < length (distinct_of xs)
some_distinct [] some = absurd (omega arith)
some_distinct (x ∷ xs) some = omega arith

positive_at : (es : List Edge) (n : ℕ) (e : Edge) → All (λ x. 0 < x.length) es → slice_get es n ≡ Some e → 0 < e.length
positive_at es n e positive at =
    grind (arith, slice_get_within es n e, same_Some, slice_get-get_or es n e (slice_get_within es n e at), positive n e (slice_get_within es n e at))

pub Fits-start : (g : Graph) → IsGraph g → Fits g (start_of g)
Fits-start g graph = record {
  nodes = length-replicate g.vertices true;
  edges = length-bundles_from (length g.edges) 0 g.edges;
  forced = length-replicate (length g.edges) false;
  sizes = λ n x at. ap length (bundle_at (length g.edges) 0 g.edges n x at).1
      ∙ length-set (replicate (length g.edges) false) (0 + n) true ∙ length-replicate (length g.edges) false;
  positive = λ n x at. positive_at g.edges n x.edge graph.lengths (bundle_at (length g.edges) 0 g.edges n x at).0;
  some = some_distinct g.terminals graph.terminal;
  total = omega (arith, all_at_start (length g.edges) 0 g.edges);
  apart = λ n m e x y x_at y_at x_has y_has.
      let here = is_place n e x x_at x_has in let there = is_place m e y y_at y_has in omega (arith, here, there);
  unforced = λ n e x at is forced. let no : false ≡ true = search (slice_get-replicate, slice_get-has) in cc;
}
  where
    is_place : (n e : ℕ) (x : Bundle) → HasEdge (start_of g) n x → has x.originals e ≡ true → e ≡ n
    is_place n e x at is =
        let here : e ≡ 0 + n = grind (arith, single_is, bundle_at) in omega (arith, here)

-- ---- the rules

-- fewer edges, with the same forced ones
fits_less : (g : Graph) (old new : State) → Fits g old → length new.nodes ≡ length old.nodes →
    length new.edges ≡ length old.edges → new.terminals ≡ old.terminals → new.forced ≡ old.forced →
    value_of new all ≤ value_of old all → ((n : ℕ) (x : Bundle) → HasEdge new n x → HasEdge old n x) → Fits g new
fits_less g old new fits nodes edges terminals forced total fewer = grind arith

fits_dropped : (g : Graph) (s : State) (nodes : List Bool) (n : ℕ) (x : Bundle) → Fits g s →
    length nodes ≡ length s.nodes → HasEdge s n x → Fits g (dropped s nodes n)
fits_dropped g s nodes n x fits size at = fits_less g s (dropped s nodes n) fits size (length-set s.edges n None)
    refl refl (short_by_drop s nodes n x all at) (λ k y y_at. (found_before s.edges n k y y_at).1)

fits_none : (g : Graph) (old new : State) → Fits g old → DropsAllEdges old new → Fits g new
fits_none g old new fits drops = grind (arith, fits_less, length-replicate, length_in-none, slice_get-replicate)

fits_lone : (g : Graph) (v : ℕ) (old new : State) → Fits g old → DropsLoneNode v old new → Fits g new
fits_lone g v old new fits drops = subst (Fits g) (sym drops.becomes)
    (fits_less g old _ fits (length-set old.nodes v false) refl refl refl (omega arith) (λ n x at. at))

fits_parallel : (g : Graph) (place : ℕ) (old new : State) → Fits g old → DropsParallel place old new → Fits g new
fits_parallel g place old new fits drops = search (fits_dropped, arith)

module _ (g : Graph) (v : ℕ) (old new : State) (fits : Fits g old) (joins : JoinsEdges v old new) where
  -- an edge at the place stands for this one
  abbrev HeldAt : ℕ → ℕ → Type 0
  HeldAt n e = (z : Bundle) × HasEdge old n z × (has z.originals e ≡ true)

  -- an edge that is left is the joined one, or was there before at another place
  abbrev Origin : ℕ → Bundle → Type 0
  Origin n x = ((n ≡ joins.earlier) × (one v old new joins ≡ x)) ⊎
      ((n ≡ joins.earlier → ⊥) × (n ≡ joins.later → ⊥) × (slice_get old.edges n ≡ Some (Some x)))

  -- .. and so is what it stands for
  abbrev Held : ℕ → ℕ → Type 0
  Held n e = ((n ≡ joins.earlier) × (HeldAt joins.earlier e ⊎ HeldAt joins.later e)) ⊎
      ((n ≡ joins.earlier → ⊥) × (n ≡ joins.later → ⊥) × HeldAt n e)

  held_by : (n e : ℕ) (x : Bundle) → Origin n x → has x.originals e ≡ true → Held n e
  held_by n e x (inl p) is = inl (
    p.0,
    ⊎_elim
        (λ (a : has joins.x.originals e ≡ true). inl (joins.x, joins.earlier_at, a))
        (λ (a : has joins.y.originals e ≡ true). inr (joins.y, joins.later_at, a))
        (union_cases joins.x.originals joins.y.originals e (ap (λ y. has y.originals e) p.1 ∙ is)),
  )
  held_by n e x (inr p) is = inr (p.0, p.1, (x, p.2, is))

  held_once : (n m e : ℕ) → HeldAt n e → HeldAt m e → n ≡ m
  held_once n m e (x, x_at, x_has) (y, y_at, y_has) = fits.apart n m e x y x_at y_at x_has y_has

  held_apart : (n m e : ℕ) → Held n e → Held m e → n ≡ m
  held_apart n m e (inl p) (inl q) = p.0 ∙ sym q.0
  held_apart n m e (inl (here, inl a)) (inr q) = absurd (q.0 (held_once m joins.earlier e q.2 a))
  held_apart n m e (inl (here, inr a)) (inr q) = absurd (q.1 (held_once m joins.later e q.2 a))
  held_apart n m e (inr p) (inl (here, inl a)) = absurd (p.0 (held_once n joins.earlier e p.2 a))
  held_apart n m e (inr p) (inl (here, inr a)) = absurd (p.1 (held_once n joins.later e p.2 a))
  held_apart n m e (inr p) (inr q) = held_once n m e p.2 q.2

  held_unforced : (n e : ℕ) → Held n e → has old.forced e ≡ true → ⊥
  held_unforced n e (inl (here, inl (x, at, is))) forced = fits.unforced joins.earlier e x at is forced
  held_unforced n e (inl (here, inr (x, at, is))) forced = fits.unforced joins.later e x at is forced
  held_unforced n e (inr (p, q, (x, at, is))) forced = fits.unforced n e x at is forced

  size_of : (n : ℕ) (x : Bundle) → Origin n x → length x.originals ≡ length g.edges
  size_of n x (inl p) = grind (arith, length-union)
  size_of n x (inr p) = fits.sizes n x p.2

  positive_of : (n : ℕ) (x : Bundle) → Origin n x → 0 < x.edge.length
  positive_of n x (inl p) = grind arith
  positive_of n x (inr p) = fits.positive n x p.2

  fits_joined : Fits g new
  fits_joined = subst (Fits g) (sym joins.becomes) (record {
    nodes = length-set old.nodes v false ∙ fits.nodes;
    edges = length-set (mid v old new joins) joins.later None
        ∙ length-set old.edges joins.earlier (Some (one v old new joins)) ∙ fits.edges;
    forced = fits.forced;
    sizes = λ n x at. size_of n x (found v old new joins n x at);
    positive = λ n x at. positive_of n x (found v old new joins n x at);
    some = fits.some;
    total = omega (
      arith,
      fits.total,
      length_in-set (mid v old new joins) joins.later (Some joins.y) None all all (later_at v old new joins)
          (λ k other. refl),
      length_in-set old.edges joins.earlier (Some joins.x) (Some (one v old new joins)) all all joins.earlier_at
          (λ k other. refl),
    );
    apart = λ n m e x y x_at y_at x_has y_has. held_apart n m e (held_by n e x (found v old new joins n x x_at) x_has)
        (held_by m e y (found v old new joins m y y_at) y_has);
    unforced = λ n e x at is forced. held_unforced n e (held_by n e x (found v old new joins n x at) is) forced;
  })

fits_forced : (g : Graph) (v : ℕ) (old new : State) → Fits g old → (forces : ForcesEdge v old new) →
    (forces.other ≡ v → ⊥) → Fits g new
fits_forced g v old new fits forces apart = subst (Fits g) (sym forces.becomes) (record {
  nodes = length-set old.nodes v false ∙ fits.nodes;
  edges = length-set old.edges forces.place None ∙ fits.edges;
  forced = length-union old.forced forces.x.originals (fits.forced ∙ sym size) ∙ size;
  sizes = λ n x at. fits.sizes n x (found_before old.edges forces.place n x at).1;
  positive = λ n x at. fits.positive n x (found_before old.edges forces.place n x at).1;
  some = some_from_In (moved old.terminals v forces.other) forces.other (In-moved_to old.terminals v forces.other
      (In-from_Contains old.terminals v forces.terminal) apart);
  total = omega (
    arith,
    fits.total,
    length_in-set old.edges forces.place (Some forces.x) None all all forces.edge.at (λ k other. refl),
  );
  apart = grind (arith, found_before);
  unforced = λ n e x at is f. let before = found_before old.edges forces.place n x at in grind (arith, union_cases);
})
  where
    size : length forces.x.originals ≡ length g.edges
    size = fits.sizes forces.place forces.x forces.edge.at

-- a step keeps all this, where no loop is left before an edge is forced
pub Fits-step : (g : Graph) (rule : Rule) (at : ℕ) (old new : State) → Fits g old → Takes rule at old new →
    (order_of Loop < order_of rule → (place : ℕ) → ¬ Applies old Loop place) → Fits g new
Fits-step g OneTerminal at old new fits drops none = fits_none g old new fits drops
Fits-step g Loop at old new fits drops none = grind (arith, fits_dropped)
Fits-step g Parallel at old new fits drops none = fits_parallel g at old new fits drops
Fits-step g Leaf at old new fits (inl drops) none = fits_lone g at old new fits drops
Fits-step g Leaf at old new fits (inr drops) none = grind (arith, fits_dropped, length-set)
Fits-step g Passed at old new fits joins none = fits_joined g at old new fits joins
Fits-step g TerminalLeaf at old new fits forces none = fits_forced g at old new fits forces
    (no_loop old forces.place forces.x at forces.other (none (omega arith)) forces.edge.at forces.edge.ends)
