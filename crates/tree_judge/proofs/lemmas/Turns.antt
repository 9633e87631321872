-- What one more split decides, and how what it decided is undone.
use Rattle.std.proofs.Common.{ℕ, zero, suc, ◌≡◌, List, [], ◌∷◌, set, slice_get, Some, None, ◌⊎◌, inl, inr, refl, sym, ap, ◌∙◌, arith, length-set}
use Rattle.std.specs.Prelude.{Option}
use Rattle.std.proofs.lemmas.Bool.{cases_eq}
use Rattle.std.proofs.lemmas.Option.{same_Some, slice_get_within}
use Rattle.net_graph.specs.declared.state.EdgeState.{EdgeState}
use Rattle.net_graph.specs.declared.state.EdgeState.TheVariants.{Undecided, Inside, Outside}
use Rattle.net_graph.specs.declared.state.VertexState.{VertexState}
use Rattle.net_graph.specs.declared.state.VertexState.TheVariants.{Met, Missed}
use Rattle.net_graph.specs.declared.state.VertexState.TheVariants as vertex
use Rattle.net_graph.specs.EntryLaws.{slice_get-set_same, slice_get-set_other}
use Rattle.net_graph.specs.Graph.{Graph}
use Rattle.net_graph.specs.Decision.{Decided, IsUndecided, IsVertexUndecided, decided_of, states_of}
use Rattle.net_graph.specs.DecisionLaws.{state_at_ends-undecided, states_of-at, states_of-inside, states_of-parts}
use Rattle.net_graph.specs.DecidingLaws.{IsUndecided-before_edge, IsUndecided-before_vertex}
use Rattle.cert_tree.specs.declared.split.SplitOn.{SplitOn}
use Rattle.cert_tree.specs.declared.split.SplitOn.TheVariants as split
use Rattle.cert_tree.specs.Decisions.{IsUndecidedSplit, outside_of, inside_of}
use Rattle.tree_judge.specs.Ways.{undecided_of}

-- an entry that is written twice
set-set : {A : Type 0} (xs : List A) (n : ℕ) (x y : A) → set (set xs n x) n y ≡ set xs n y
set-set [] n x y = refl
set-set (z ∷ xs) zero x y = refl
set-set (z ∷ xs) (suc n) x y = ap (λ ys. z ∷ ys) (set-set xs n x y)

-- one that is written as it was
set-same : {A : Type 0} (xs : List A) (n : ℕ) (x : A) → slice_get xs n ≡ Some x → set xs n x ≡ xs
set-same [] n x at = refl
set-same (z ∷ xs) zero x at = ap (λ y. y ∷ xs) (sym (same_Some z x at))
set-same (z ∷ xs) (suc n) x at = ap (λ ys. z ∷ ys) (set-same xs n x at)

-- one that is written past the last
set-none : {A : Type 0} (xs : List A) (n : ℕ) (x : A) → slice_get xs n ≡ None → set xs n x ≡ xs
set-none [] n x at = refl
set-none (z ∷ xs) zero x at = cc
set-none (z ∷ xs) (suc n) x at = ap (λ ys. z ∷ ys) (set-none xs n x at)

-- ---- there and back

-- an undecided vertex stays as it is where it is undecided again
own_vertex : (g : Graph) (d : Decided) (v : ℕ) → IsVertexUndecided g d v →
    set d.vertices v vertex.Undecided ≡ d.vertices
own_vertex g d v is = cases (slice_get d.vertices v) refl
  where
    cases : (found : Option VertexState) → slice_get d.vertices v ≡ found →
        set d.vertices v vertex.Undecided ≡ d.vertices
    cases None at = set-none d.vertices v vertex.Undecided at
    cases (Some vertex.Undecided) at = set-same d.vertices v vertex.Undecided at
    cases (Some Met) at = absurd (is.not_required (inr (inr at)))
    cases (Some Missed) at = absurd (is.not_missed at)

-- what is decided by a split is undone
pub undecided_again : (g : Graph) (d : Decided) (on : SplitOn) → IsUndecidedSplit g d on →
    undecided_of (inside_of d on) on ≡ d
undecided_again g d (split.Edge n) undecided =
    ap (λ xs. decided_of xs d.vertices)
    (set-set d.edges n Inside Undecided ∙ set-same d.edges n Undecided (grind (arith, states_of-parts g d n Undecided undecided, state_at_ends-undecided)))
undecided_again g d (split.Vertex v) undecided =
    ap (λ xs. decided_of d.edges xs)
    (set-set d.vertices v Met vertex.Undecided ∙ own_vertex g d v undecided)

-- the inside part behind the outside one
pub inside_again : (d : Decided) (on : SplitOn) → inside_of (outside_of d on) on ≡ inside_of d on
inside_again d (split.Edge n) = ap (λ xs. decided_of xs d.vertices) (set-set d.edges n Outside Inside)
inside_again d (split.Vertex v) = ap (λ xs. decided_of d.edges xs) (set-set d.vertices v Missed Met)

-- ---- states behind one more split

-- an edge that is inside in the outside part is so before
inside_before : (d : Decided) (on : SplitOn) (n : ℕ) → slice_get (outside_of d on).edges n ≡ Some Inside →
    slice_get d.edges n ≡ Some Inside
inside_before d (split.Vertex v) n is = is
inside_before d (split.Edge m) n is =
    grind (arith, cases_eq n m, slice_get_within (set d.edges m Outside) n Inside is, length-set d.edges m Outside, slice_get-set_same, same_Some, slice_get-set_other)

-- an edge that is undecided in the outside part is so before
undecided_before : (g : Graph) (d : Decided) (on : SplitOn) (n : ℕ) → IsUndecidedSplit g d on →
    IsUndecided g (outside_of d on) n → IsUndecided g d n
undecided_before g d (split.Edge m) n undecided is = IsUndecided-before_edge g d m n Outside undecided is
undecided_before g d (split.Vertex v) n undecided is = IsUndecided-before_vertex g d v n Missed undecided is

-- an edge's state in the outside part is Outside or as before
pub state_outside : (g : Graph) (d : Decided) (on : SplitOn) (n : ℕ) (state : EdgeState) → IsUndecidedSplit g d on →
    slice_get (states_of g (outside_of d on)) n ≡ Some state →
    (state ≡ Outside) ⊎ (slice_get (states_of g d) n ≡ Some state)
state_outside g d on n Outside undecided is = inl refl
state_outside g d on n Undecided undecided is = inr (undecided_before g d on n undecided is)
state_outside g d on n Inside undecided is =
    grind (arith, states_of-parts g (outside_of d on) n Inside is, inside_before d on n (states_of-inside g (outside_of d on) n is), states_of-inside g (outside_of d on) n is, states_of-at)
