-- The cuts of a leaf: what one more of them makes of the loads that are kept.
use Rattle.std.proofs.Common.{ℕ, ◌≡◌, ◌≢◌, ◌+◌, ◌<◌, ◌≤◌, List, [], ◌∷◌, ◌++◌, length, get_or, slice_get, Some, sym, ◌∙◌, subst, inl, inr, false, arith}
use Rattle.std.proofs.lemmas.Bool.{cases_eq, cases_lt}
use Rattle.std.proofs.lemmas.Option.{same_Some, slice_get_within}
use Rattle.std.proofs.lemmas.List.Sums.{sum_by-append, sum_by-cons}
use Rattle.net_graph.specs.declared.edge.Edge.{Edge}
use Rattle.net_graph.specs.declared.state.EdgeState.{EdgeState}
use Rattle.net_graph.specs.declared.packing.Cut.{Cut}
use Rattle.net_graph.specs.Graph.{Graph}
use Rattle.net_graph.specs.Decision.{Decided, states_of}
use Rattle.net_graph.specs.Packing.{IsCut, enters, load}
use Rattle.net_graph.specs.Feasible.{KeepsRoom}
use Rattle.tree_judge.specs.declared.leaf.Excess.{Excess}
use Rattle.tree_judge.specs.Cuts.{IsFirstOverload, PacksCut}
use Rattle.tree_judge.specs.ArcLoads.{ArcLoads}
use Rattle.tree_judge.specs.Loads.{IsLeafOf, IsOverload, KeepsEdge, KeepsLoads, LoadsBelow, LoadsOnly}
use Rattle.tree_judge.specs.Borders.{IsWhole}
use Rattle.tree_judge.proofs.lemmas.Loading.{within_room}

-- the loads of another edge stay
KeepsEdge-elsewhere : (g : Graph) (cuts : List Cut) (n k : ℕ) (d : Decided) (old new : ArcLoads) → LoadsOnly n old new →
    k ≢ n → KeepsEdge g cuts d old k → KeepsEdge g cuts d new k
KeepsEdge-elsewhere g cuts n k d old new only apart keeps e state at state_at =
    grind (arith, only.there k apart, only.back k apart, keeps e state)

-- one edge more
pub LoadsBelow-more : (g : Graph) (cuts : List Cut) (c : Cut) (n : ℕ) (e : Edge) (state : EdgeState) (d : Decided)
    (old new : ArcLoads) → LoadsOnly n old new → slice_get g.edges n ≡ Some e →
    slice_get (states_of g d) n ≡ Some state →
    (KeepsLoads state e cuts (get_or old.there n 0) (get_or old.back n 0) →
    KeepsLoads state e (cuts ++ c ∷ []) (get_or new.there n 0) (get_or new.back n 0)) → LoadsBelow g cuts c n d old →
    LoadsBelow g cuts c (n + 1) d new
LoadsBelow-more g cuts c n e state d old new only at state_at passes below = record {
  passed = λ k lt. elim (cases_eq k n) [
    | inl is ↦ subst (KeepsEdge g (cuts ++ c ∷ []) d new) (sym is) here
    | inr apart ↦ KeepsEdge-elsewhere g (cuts ++ c ∷ []) n k d old new only apart (below.passed k (omega arith))
  ];
  ahead = λ k le. let apart : k ≢ n =
      λ is. omega arith in KeepsEdge-elsewhere g cuts n k d old new only apart (below.ahead k (omega arith));
}
  where
    here : KeepsEdge g (cuts ++ c ∷ []) d new n
    here x y at_x at_y =
        let same : e ≡ x = same_Some e x (sym at ∙ at_x) in
        let same_state : state ≡ y = same_Some state y (sym state_at ∙ at_y) in
        subst (λ s. KeepsLoads s x (cuts ++ c ∷ []) (get_or new.there n 0) (get_or new.back n 0)) same_state
        (subst (λ (z : Edge). KeepsLoads state z (cuts ++ c ∷ []) (get_or new.there n 0) (get_or new.back n 0)) same
        (passes (below.ahead n (omega arith) e state at state_at)))

-- before the first edge none is loaded with it
pub LoadsBelow-none : (g : Graph) (cuts : List Cut) (c : Cut) (n : ℕ) (d : Decided) (loads : ArcLoads) → n ≡ 0 →
    IsLeafOf g cuts d loads → LoadsBelow g cuts c n d loads
LoadsBelow-none g cuts c n d loads none leaf = grind arith

-- a cut that an arc doesn't enter loads it no more
load-none : (cuts : List Cut) (c : Cut) (u v : ℕ) → enters c.members u v ≡ false →
    load (cuts ++ c ∷ []) u v ≡ load cuts u v
load-none cuts c u v out = grind (arith, sum_by-append, sum_by-cons)

-- so an edge of which neither arc enters it keeps its loads
KeepsEdge-whole : (g : Graph) (cuts : List Cut) (c : Cut) (n : ℕ) (d : Decided) (loads : ArcLoads) →
    IsWhole g c.members n → KeepsEdge g cuts d loads n → KeepsEdge g (cuts ++ c ∷ []) d loads n
KeepsEdge-whole g cuts c n d loads whole keeps e state at state_at =
    grind (arith, keeps e state, whole e, load-none cuts c e.a e.b (whole e at).0, load-none cuts c e.b e.a (whole e at).1)

-- so such edges are passed over
pub LoadsBelow-whole : (g : Graph) (cuts : List Cut) (c : Cut) (n m : ℕ) (d : Decided) (loads : ArcLoads) →
    n ≤ m → ((k : ℕ) → n ≤ k → k < m → IsWhole g c.members k) → LoadsBelow g cuts c n d loads →
    LoadsBelow g cuts c m d loads
LoadsBelow-whole g cuts c n m d loads le whole below = record {
  passed = λ k lt. elim (cases_lt k n) [
    | inl before ↦ below.passed k before
    | inr from ↦ KeepsEdge-whole g cuts c k d loads (whole k from lt) (below.ahead k from)
  ];
  ahead = λ k from. below.ahead k (omega arith);
}

-- all edges
pub IsLeafOf-below : (g : Graph) (cuts : List Cut) (c : Cut) (n : ℕ) (d : Decided) (loads : ArcLoads) →
    length g.edges ≤ n → LoadsBelow g cuts c n d loads → IsLeafOf g (cuts ++ c ∷ []) d loads
IsLeafOf-below g cuts c n d loads all below k e state at state_at =
    below.passed k (omega (arith, slice_get_within g.edges k e at)) e state at state_at

-- an edge whose loads are kept keeps its room
KeepsRoom-kept : (g : Graph) (packing : List Cut) (d : Decided) (loads : ArcLoads) (n : ℕ) →
    KeepsEdge g packing d loads n → KeepsRoom g d packing n
KeepsRoom-kept g packing d loads n keeps e state at state_at = grind (arith, keeps e state, within_room)

-- a cut with which no arc is loaded above its room may stand there
pub PacksCut-kept : (g : Graph) (cuts : List Cut) (c : Cut) (d : Decided) (loads : ArcLoads) → IsCut g d c.members →
    IsLeafOf g (cuts ++ c ∷ []) d loads → PacksCut g d cuts c
PacksCut-kept g cuts c d loads cut leaf = grind (arith, KeepsRoom-kept)

-- the next edge is the first of which an arc is loaded above its room
pub IsFirstOverload-kept : (g : Graph) (cuts : List Cut) (c : Cut) (n : ℕ) (e : Edge) (state : EdgeState) (over : Excess)
    (d : Decided) (loads : ArcLoads) → slice_get g.edges n ≡ Some e → slice_get (states_of g d) n ≡ Some state →
    LoadsBelow g cuts c n d loads →
    (KeepsLoads state e cuts (get_or loads.there n 0) (get_or loads.back n 0) →
    IsOverload state e (cuts ++ c ∷ []) c.members over) →
    IsFirstOverload g d (cuts ++ c ∷ []) c.members n over.load over.room
IsFirstOverload-kept g cuts c n e state over d loads at state_at below overloads = grind (arith, KeepsRoom-kept)
