use Rattle.std.proofs.Common.{ℕ, ◌≡◌, ◌↔◌, ◌∙◌, true, get_or, take, subst, sym, arith}
use Rattle.std.proofs.lemmas.Bool.{both_ways}
use Rattle.std.proofs.lemmas.List.{take_all, take_more}
use Rattle.net_graph.specs.Flags.{has}
use Rattle.net_graph.specs.Graph.{root_of}
use Rattle.dual_ascent.specs.declared.active.ActiveVertex.{ActiveVertex}
use Rattle.dual_ascent.specs.Active.{IsKept}
use Rattle.dual_ascent.specs.Steps.{SaturatedLeads}
use Rattle.dual_ascent.proofs.lemmas.ActiveLemmas.{AreActive-skip, AreActive-push, below_next}
use Rattle.dual_ascent.proofs.active.active_vertices.Goals as goal
use Rattle.dual_ascent.proofs.active.active_vertices.Goals.{then-not-has+in_ok-leading+in_ok-push, else-not-has}

pub loop-v-init : goal.loop-v-init
loop-v-init c = rw c.new-active.ensures.items (grind arith)

pub loop-v-preserved : goal.loop-v-preserved
loop-v-preserved c =
    let gr = c.args.g.now in
    let costs = c.args.costs.now in
    let vertices = c.args.vertices.now in
    let i = c.loop-v.v-index in
    let v : ℕ = get_or vertices i 0 in
    let list = c.loop-v.active.items in
    let root : c.root.result ≡ root_of gr = c.root.ensures.root in
    let reached : (has c.in_ok-reached.reached v ≡ true) ↔ SaturatedLeads gr costs (root_of gr) v =
    subst (λ r. (has c.in_ok-reached.reached v ≡ true) ↔ SaturatedLeads gr costs r v) root (c.in_ok-reached.ensures.reached v) in
    rw (take_more vertices i 0 c.loop-v-test.true)
    (elim c.if-not-has.branch [
      | then-not-has+in_ok-leading+in_ok-push w ↦
          let a : ActiveVertex = record { vertex = v; leading = w.in_ok-leading.leading } in
          let kept : IsKept gr costs a = record { size = w.in_ok-leading.ensures.size; leading = w.in_ok-leading.ensures.leading } in
          rw (w.active-is, w.in_ok-push.ensures.items)
          (AreActive-push gr (take i vertices) costs list a c.loop-v.invariant kept
          (λ led. both_ways (has c.in_ok-reached.reached v) (sym c.has.ensures.within ∙ w.if-not-has.true) (reached.1 led))
          (below_next vertices i c.loop-v-test.true c.requires.ascending))
      | else-not-has w ↦
          rw w.active-is
          (AreActive-skip gr (take i vertices) costs list v c.loop-v.invariant (reached.0 (sym c.has.ensures.within ∙ w.if-not-has.false)))
    ])

pub returns : goal.returns
returns c = grind (arith, take_all)
