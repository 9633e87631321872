-- The splits of a way: what they are on has a state, and each inside edge and each met vertex is that of one of them.
use Rattle.std.proofs.Common.{ℕ, zero, suc, ◌≡◌, Bool, true, false, List, [], ◌∷◌, slice_get, Some, inl, inr, refl, sym, ap, ◌∙◌, subst, arith}
use Rattle.std.specs.Prelude.{◌⊎◌, if◌then◌else◌}
use Rattle.std.proofs.lemmas.Bool.{cases_eq}
use Rattle.std.proofs.lemmas.Option.{same_Some}
use Rattle.net_graph.specs.declared.state.EdgeState.TheVariants.{Undecided, Inside}
use Rattle.net_graph.specs.declared.state.VertexState.TheVariants.{Met}
use Rattle.net_graph.specs.declared.state.VertexState.TheVariants as vertex
use Rattle.net_graph.specs.EntryLaws.{slice_get-replicate, slice_get-set_other}
use Rattle.net_graph.specs.Graph.{Graph}
use Rattle.net_graph.specs.Decision.{Decided, EndsInside, IsMet, nothing_decided}
use Rattle.cert_tree.specs.declared.split.SplitOn.{SplitOn}
use Rattle.cert_tree.specs.declared.split.SplitOn.TheVariants as split
use Rattle.cert_tree.specs.Decisions.{IsUndecidedSplit, outside_of, inside_of}
use Rattle.cert_tree.specs.declared.way.Turn.{Turn}
use Rattle.tree_judge.specs.Path.{IsWay, decision_along}
use Rattle.tree_judge.specs.declared.way.Way.{Way}
use Rattle.tree_judge.specs.Ways.{HasState, RequiresOn, StandsOnWay}
use Rattle.tree_judge.proofs.lemmas.WaySteps.{undecided_has_state}

-- ---- what splits are on

-- it was undecided above it
turn_along : (g : Graph) (top : Decided) (path : List Turn) (k : ℕ) (t : Turn) → IsWay g top path →
    slice_get path k ≡ Some t → (d : Decided) × IsUndecidedSplit g d t.on
turn_along g top [] k t way at = cc
turn_along g top (u ∷ above) zero t way at =
    (decision_along top above, subst (λ (x : Turn). IsUndecidedSplit g (decision_along top above) x.on) (same_Some u t at) way.0)
turn_along g top (u ∷ above) (suc k) t way at = turn_along g top above k t way.1 at

-- so it has a state
pub turn_has_state : (g : Graph) (way : Way) (k : ℕ) (t : Turn) → StandsOnWay g way → slice_get way.path k ≡ Some t →
    HasState way.decided t.on
turn_has_state g way k t stands at =
    grind (arith, turn_along g (nothing_decided g) way.path k t stands.splits, undecided_has_state)

-- ---- inside edges and met vertices

-- what is decided of an edge that a split is not on stays
edge_by : (d : Decided) (on : SplitOn) (inside : Bool) (n : ℕ) →
    (on ≡ split.Edge n) ⊎ (slice_get (if inside then inside_of d on else outside_of d on).edges n ≡ slice_get d.edges n)
edge_by d (split.Vertex v) true n = inr refl
edge_by d (split.Vertex v) false n = inr refl
edge_by d (split.Edge m) true n = grind (arith, cases_eq n m, slice_get-set_other)
edge_by d (split.Edge m) false n = grind (arith, cases_eq n m, slice_get-set_other)

vertex_by : (d : Decided) (on : SplitOn) (inside : Bool) (v : ℕ) →
    (on ≡ split.Vertex v) ⊎ (slice_get (if inside then inside_of d on else outside_of d on).vertices v ≡ slice_get d.vertices v)
vertex_by d (split.Edge m) true v = inr refl
vertex_by d (split.Edge m) false v = inr refl
vertex_by d (split.Vertex w) true v = grind (arith, cases_eq v w, slice_get-set_other)
vertex_by d (split.Vertex w) false v = grind (arith, cases_eq v w, slice_get-set_other)

-- a split of the way is on this
abbrev IsTurned : List Turn → SplitOn → Type 0
IsTurned path on = (k : ℕ) × (t : Turn) × (slice_get path k ≡ Some t) × (t.on ≡ on)

-- where nothing else is decided, an inside edge is that of a split
inside_along : (g : Graph) (path : List Turn) (n : ℕ) →
    slice_get (decision_along (nothing_decided g) path).edges n ≡ Some Inside → IsTurned path (split.Edge n)
inside_along g [] n is = let same = slice_get-replicate _ n Undecided Inside is in cc
inside_along g (t ∷ above) n is = elim (edge_by (decision_along (nothing_decided g) above) t.on t.inside n) [
  | inl here ↦ (0, t, refl, here)
  | inr before ↦ let (k, u, at, same) = inside_along g above n (sym before ∙ is) in (suc k, u, at, same)
]

-- .. and a met vertex too
met_along : (g : Graph) (path : List Turn) (v : ℕ) →
    slice_get (decision_along (nothing_decided g) path).vertices v ≡ Some Met → IsTurned path (split.Vertex v)
met_along g [] v is = let same = slice_get-replicate _ v vertex.Undecided Met is in cc
met_along g (t ∷ above) v is = elim (vertex_by (decision_along (nothing_decided g) above) t.on t.inside v) [
  | inl here ↦ (0, t, refl, here)
  | inr before ↦ let (k, u, at, same) = met_along g above v (sym before ∙ is) in (suc k, u, at, same)
]

-- so a vertex that is required by what is decided is required by what a split of the way is on
pub required_turned : (g : Graph) (way : Way) (v : ℕ) → StandsOnWay g way →
    EndsInside g way.decided v ⊎ IsMet way.decided v →
    (k : ℕ) × (t : Turn) × (slice_get way.path k ≡ Some t) × RequiresOn g way.decided t.on v
required_turned g way v stands (inl (n, e, is, at, ends)) =
    let (k, t, turned, same) = inside_along g way.path n (sym (ap (λ (d : Decided). slice_get d.edges n) stands.decided) ∙ is) in
    (k, t, turned, subst (λ on. RequiresOn g way.decided on v) (sym same) (e, is, at, ends))
required_turned g way v stands (inr met) =
    let (k, t, turned, same) = met_along g way.path v (sym (ap (λ (d : Decided). slice_get d.vertices v) stands.decided) ∙ met) in
    (k, t, turned, subst (λ on. RequiresOn g way.decided on v) (sym same) (refl, met))

-- and the other way round
pub required_by : (g : Graph) (d : Decided) (on : SplitOn) (v : ℕ) → RequiresOn g d on v →
    EndsInside g d v ⊎ IsMet d v
required_by g d (split.Edge n) v (e, is, at, ends) = inl (n, e, is, at, ends)
required_by g d (split.Vertex w) v (same, met) = inr (subst (λ x. IsMet d x) same met)
