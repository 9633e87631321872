-- A set of edges that are all inside is no longer than the inside edges.
use Rattle.std.proofs.Common.{ℕ, suc, ◌≡◌, ◌≤◌, Bool, true, false, List, [], ◌∷◌, slice_get, Some, refl, arith}
use Rattle.net_graph.specs.declared.edge.Edge.{Edge}
use Rattle.net_graph.specs.declared.state.EdgeState.{EdgeState}
use Rattle.net_graph.specs.declared.state.EdgeState.TheVariants.{Undecided, Inside, Outside}
use Rattle.net_graph.specs.Network.{length_of_edges}
use Rattle.net_graph.specs.Packing.{inside_length}

-- each edge of the set is inside
abbrev pub AreInside : List EdgeState → List Bool → Type 0
AreInside states set = (n : ℕ) → slice_get set n ≡ Some true → slice_get states n ≡ Some Inside

none_inside : (es : List Edge) (set : List Bool) → AreInside [] set → length_of_edges es set ≤ 0
none_inside [] set each = omega arith
none_inside (e ∷ es) [] each = omega arith
none_inside (e ∷ es) (true ∷ set) each = let no : slice_get {X = EdgeState} [] 0 ≡ Some Inside = each 0 refl in absurd cc
none_inside (e ∷ es) (false ∷ set) each = omega (arith, none_inside es set (λ n at. each (suc n) at))

pub inside-covers : (es : List Edge) (states : List EdgeState) (set : List Bool) → AreInside states set →
    length_of_edges es set ≤ inside_length es states
inside-covers [] states set each = omega arith
inside-covers (e ∷ es) states [] each = omega arith
inside-covers (e ∷ es) [] (flag ∷ set) each = none_inside (e ∷ es) (flag ∷ set) each
inside-covers (e ∷ es) (Inside ∷ states) (true ∷ set) each = omega (arith, inside-covers es states set (λ n at. each (suc n) at))
inside-covers (e ∷ es) (Inside ∷ states) (false ∷ set) each = omega (arith, inside-covers es states set (λ n at. each (suc n) at))
inside-covers (e ∷ es) (Undecided ∷ states) (true ∷ set) each = let no : Some Undecided ≡ Some Inside = each 0 refl in absurd cc
inside-covers (e ∷ es) (Undecided ∷ states) (false ∷ set) each = omega (arith, inside-covers es states set (λ n at. each (suc n) at))
inside-covers (e ∷ es) (Outside ∷ states) (true ∷ set) each = let no : Some Outside ≡ Some Inside = each 0 refl in absurd cc
inside-covers (e ∷ es) (Outside ∷ states) (false ∷ set) each = omega (arith, inside-covers es states set (λ n at. each (suc n) at))
