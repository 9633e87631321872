-- Each edge so far is no undecided one that ends at the vertex and has an arc without room.
use Rattle.std.proofs.Common.{◌≡◌, ◌≤◌, ⊎_elim, false, slice_get, refl, sym, ap, ◌∙◌, subst, arith}
use Rattle.std.proofs.lemmas.Bool.{both_ways, cases_lt}
use Rattle.std.proofs.lemmas.Option.{slice_get_within, same_Some}
use Rattle.net_graph.specs.declared.edge.Edge.{Edge}
use Rattle.net_graph.specs.declared.state.EdgeState.TheVariants.{Undecided}
use Rattle.net_graph.specs.Decision.{IsUndecided}
use Rattle.branch.specs.SaturatedArcs.{IsUsedUpEdge}
use Rattle.branch.proofs.saturation.ends_used_up_edge.Goals as goal
use Rattle.branch.proofs.saturation.ends_used_up_edge.Goals.{else-edge-vertex-2-via-then-edge-vertex-2+then-is_used_up_edge+else-state-eq0, else-edge-vertex-2-via-then-edge-vertex-2+else-is_used_up_edge, else-edge-vertex-2-via-else-edge-vertex-2}

pub loop-n-preserved : goal.loop-n-preserved
loop-n-preserved c = λ has.
    let n = c.loop-n.n in
    let low : n ≤ has.number = c.loop-n.invariant has in
    let other : has.number ≡ n → ⊥ = λ is.
    let same : has.edge ≡ c.edge-edge.result =
    same_Some has.edge c.edge-edge.result (sym has.at ∙ ap (λ k. slice_get c.args.g.now.edges k) is ∙ c.edge-edge.ensures.edge) in
    elim c.else-edge-vertex-2.branch [
      | else-edge-vertex-2-via-then-edge-vertex-2+then-is_used_up_edge+else-state-eq0 w ↦
          let undecided : w.state.result ≡ Undecided = same_Some w.state.result Undecided (sym w.state.ensures
          ∙ subst (λ k. IsUndecided c.args.g.now c.args.decision.now k) is has.undecided) in
          let no = rw undecided at w.if-state-eq0.false in absurd cc
      | else-edge-vertex-2-via-then-edge-vertex-2+else-is_used_up_edge w ↦
          both_ways w.is_used_up_edge.result w.if-is_used_up_edge.false
          (w.is_used_up_edge.ensures.1 (subst (λ k. IsUsedUpEdge c.args.costs.now k) is has.used_up))
      | else-edge-vertex-2-via-else-edge-vertex-2 w ↦
          ⊎_elim (λ at. w.if-edge-vertex-2.false.0 (ap (λ (e : Edge). e.a) (sym same) ∙ at))
          (λ at. w.if-edge-vertex-2.false.1 (ap (λ (e : Edge). e.b) (sym same) ∙ at)) has.ends
    ] in
    ⊎_elim (λ less. omega arith) (λ past. absurd (other (omega arith))) (cases_lt n has.number)

pub returns : goal.returns
returns c = (
  λ yes. absurd (both_ways false refl yes),
  λ has. absurd (
      let low = c.loop-n.invariant has in
      let within = slice_get_within c.args.g.now.edges has.number has.edge has.at in
      omega arith),
)
