-- The list of the required vertices, one vertex after another.
use Rattle.std.proofs.Common.{ℕ, ◌≡◌, ◌+◌, ◌<◌, ◌≤◌, List, [], ◌∷◌, ◌++◌, All, Contains, ⊎_elim, subst, arith, length-append}
use Rattle.std.specs.List.Sorted.{IsStrictlyIncreasing}
use Rattle.std.proofs.lemmas.Bool.{cases_lt}
use Rattle.std.proofs.lemmas.List.{get_or_append_left, get_or_push}
use Rattle.std.proofs.lemmas.List.Elements.{All-push, All-weaker, All-contains, Contains-append_left, Contains-push}
use Rattle.std.proofs.lemmas.Option.{slice_get_within, get_or_from_slice_get}
use Rattle.net_graph.specs.Graph.{Graph, IsGraph}
use Rattle.net_graph.specs.Decision.{Decided, IsDecisionFor, IsRequired}
use Rattle.dual_ascent.specs.Steps.{AreRequired}

-- the required ones of the vertices below a bound
pub record RequiredBelow (g : Graph) (decision : Decided) (bound : ℕ) (list : List ℕ) : Type 0 where
  pub each : All (IsRequired g decision) list
  pub below : All (λ v. v < bound) list
  pub every : (v : ℕ) → v < bound → IsRequired g decision v → Contains list v
  pub ascending : IsStrictlyIncreasing list

-- one more vertex, which isn't required
pub RequiredBelow-skip : (g : Graph) (decision : Decided) (v : ℕ) (list : List ℕ) → RequiredBelow g decision v list → (IsRequired g decision v → ⊥) → RequiredBelow g decision (v + 1) list
RequiredBelow-skip g decision v list so_far out = grind arith

-- one more vertex, which is required
pub RequiredBelow-take : (g : Graph) (decision : Decided) (v : ℕ) (list : List ℕ) → RequiredBelow g decision v list → IsRequired g decision v → RequiredBelow g decision (v + 1) (list ++ v ∷ [])
RequiredBelow-take g decision v list so_far here = record {
  each = All-push (IsRequired g decision) list v so_far.each here;
  below = All-push (λ w. w < v + 1) list v (All-weaker (λ w. w < v) (λ w. w < v + 1) (λ w low. omega arith) list so_far.below) (omega arith);
  every = λ w low required. ⊎_elim (λ less. Contains-append_left list (v ∷ []) w (so_far.every w less required))
      (λ last. let same : v ≡ w = omega arith in subst (Contains (list ++ v ∷ [])) same (Contains-push list v)) (cases_lt w v);
  ascending = grind (arith, length-append, get_or_append_left, get_or_push, cases_lt);
}

-- a required vertex is a vertex
pub IsRequired-below : (g : Graph) (decision : Decided) (v : ℕ) → IsGraph g → IsDecisionFor g decision → IsRequired g decision v → v < g.vertices
IsRequired-below g decision v graph decided required =
    grind (arith, All-contains, get_or_from_slice_get, slice_get_within, slice_get_within)

-- when all vertices were gone over
pub AreRequired-all : (g : Graph) (decision : Decided) (bound : ℕ) (list : List ℕ) → IsGraph g → IsDecisionFor g decision → g.vertices ≤ bound → RequiredBelow g decision bound list → AreRequired g decision list
AreRequired-all g decision bound list graph decided all so_far = record {
  each = so_far.each;
  every = λ v required. let low : v < g.vertices = IsRequired-below g decision v graph decided required in so_far.every v (omega arith) required;
}
