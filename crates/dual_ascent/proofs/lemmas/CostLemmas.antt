-- What is left of the arcs' room: a loop's steps.
use Rattle.std.proofs.Common.{ℕ, ◌≡◌, ◌+◌, ◌<◌, List, [], ◌∷◌, ◌++◌, map, length, get_or, take, Option, Some, ◌⊎◌, inl, inr, ⊎_elim, refl, sym, ap, ◌∙◌, arith}
use Rattle.std.specs.List.{zip}
use Rattle.std.proofs.lemmas.List.{take_more}
use Rattle.std.proofs.lemmas.List.Elements.{Contains-append_left, Contains-push, Contains-push_cases}
use Rattle.net_graph.specs.declared.edge.Edge.{Edge}
use Rattle.net_graph.specs.declared.state.EdgeState.{EdgeState}
use Rattle.net_graph.specs.declared.packing.Cut.{Cut}
use Rattle.dual_ascent.specs.declared.entering.EnteringArc.{EnteringArc}
use Rattle.dual_ascent.specs.Costs.{left_of, costs_of, lesser_of, IsLeastOf}
use Rattle.dual_ascent.specs.Entering.{IsLeftOfOne}

-- the costs are those of each edge and its state
pub map-zip-left_of : (edges : List Edge) (decision : List EdgeState) (packing : List Cut) →
    map (λ (pair : Edge × EdgeState). left_of pair.0 pair.1 packing) (zip edges decision) ≡ costs_of edges decision packing
map-zip-left_of [] decision packing = refl
map-zip-left_of (e ∷ edges) [] packing = refl
map-zip-left_of (e ∷ edges) (state ∷ decision) packing = ap (λ costs. left_of e state packing ∷ costs) (map-zip-left_of edges decision packing)

-- the lesser of two least numbers is the least of both kinds
pub IsLeastOf-either : (P Q R : ℕ → Type 0) (x y : Option ℕ) → ((n : ℕ) → R n → P n ⊎ Q n) → ((n : ℕ) → P n → R n) → ((n : ℕ) → Q n → R n) →
    IsLeastOf P x → IsLeastOf Q y → IsLeastOf R (lesser_of x y)
IsLeastOf-either P Q R x y split left right p q = grind arith

-- one more listed arc
pub IsLeftOfOne-more : (list : List EnteringArc) (i : ℕ) (d : EnteringArc) (least : Option ℕ) → i < length list → IsLeastOf (IsLeftOfOne (take i list)) least →
    IsLeastOf (IsLeftOfOne (take (i + 1) list)) (lesser_of least (Some (get_or list i d).left))
IsLeftOfOne-more list i d least within so_far =
    let last : EnteringArc = get_or list i d in
    rw (take_more list i d within)
    (IsLeastOf-either (IsLeftOfOne (take i list)) (λ n. n ≡ last.left) (IsLeftOfOne (take i list ++ last ∷ [])) least (Some last.left)
    (λ n (e, listed, is). ⊎_elim
    (λ earlier. inl (e, earlier, is))
    (λ same. inr (sym is ∙ sym (ap (λ (x : EnteringArc). x.left) same)))
    (Contains-push_cases (take i list) last e listed))
    (λ n (e, listed, is). (e, Contains-append_left (take i list) (last ∷ []) e listed, is))
    (λ n is. (last, Contains-push (take i list) last, sym is))
    so_far (refl, λ n is. omega arith))
