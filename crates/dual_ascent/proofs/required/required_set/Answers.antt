use Rattle.std.proofs.Common.{◌<◌, ◌≡◌, ◌+◌, List, Bool, ℕ, false, replicate, inl, inr, ⊎_elim, subst, sym, arith}
use Rattle.std.proofs.lemmas.Bool.{both_ways, cases_eq}
use Rattle.std.proofs.lemmas.List.{length-replicate}
use Rattle.net_graph.specs.AddsLaws.{Adds-iff, Adds-nothing, Adds-one, Adds-then}
use Rattle.net_graph.specs.Decision.{IsRequired}
use Rattle.dual_ascent.proofs.lemmas.RequiredLemmas.{IsRequired-below}
use Rattle.dual_ascent.proofs.required.required_set.Goals as goal
use Rattle.dual_ascent.proofs.required.required_set.Goals.{then-required, else-required}

pub loop-v-init : goal.loop-v-init
loop-v-init c = grind (arith, Adds-nothing)

pub add-requires : goal.add-requires
add-requires c = omega (arith, c.loop-v.invariant.size, length-replicate c.args.g.now.vertices false)

pub loop-v-preserved : goal.loop-v-preserved
loop-v-preserved c =
    let gr = c.args.g.now in
    let d = c.args.d.now in
    let v = c.loop-v.v in
    let none : List Bool = replicate gr.vertices false in
    let Now : ℕ → Type 0 = λ w. (w < v) × IsRequired gr d w in
    let Next : ℕ → Type 0 = λ w. (w < v + 1) × IsRequired gr d w in
    elim c.if-required.branch [
      | then-required w ↦
          let here : IsRequired gr d v = c.required.ensures.0 w.if-required.true in
          rw (w.set-is, w.add.ensures)
          (Adds-then Now (λ e. e ≡ v) Next none c.loop-v.set _ c.loop-v.invariant
          (Adds-one c.loop-v.set v (omega (arith, c.loop-v.invariant.size, length-replicate gr.vertices false)))
          (λ e is. (omega (arith, is.0), is.1))
          (λ e is. (omega arith, subst (IsRequired gr d) (sym is) here))
          (λ e is. ⊎_elim (λ same. inr same) (λ apart. inl (omega (arith, is.0), is.1)) (cases_eq e v)))
      | else-required w ↦
          rw w.set-is
          (Adds-iff Now Next none c.loop-v.set
          (λ e is. (omega (arith, is.0), is.1))
          (λ e is. ⊎_elim
          (λ (same : e ≡ v). absurd (both_ways c.required.result w.if-required.false (c.required.ensures.1 (subst (IsRequired gr d) same is.1))))
          (λ apart. (omega (arith, is.0), is.1))
          (cases_eq e v))
          c.loop-v.invariant)
    ]

pub returns : goal.returns
returns c = grind (arith, Adds-iff, IsRequired-below)
