use Rattle.std.proofs.Common.{◌≡◌, ◌≢◌, ◌∙◌, ◌<◌, ◌≤◌, List, get_or, set, length, ⊎_elim, subst, sym, arith, refl}
use Rattle.std.proofs.lemmas.Bool.{cases_lt}
use Rattle.std.proofs.lemmas.List.{get_or_default, get_or-set_same, get_or-set_other, length-map}
use Rattle.dual_ascent.specs.declared.active.ActiveVertex.{ActiveVertex}
use Rattle.dual_ascent.specs.Growing.{IsGrown}
use Rattle.dual_ascent.proofs.active.grow_all.Goals as goal

-- the item is as it was in the beginning
pub grow_leading_to-requires : goal.grow_leading_to-requires
grow_leading_to-requires c =
    grind (arith, c.requires.each (c.loop-a.a-index) (c.a-item.result) c.loop-a-test.true, length-map)

pub loop-a-preserved : goal.loop-a-preserved
loop-a-preserved c =
    let old : List ActiveVertex = c.args.active.now in
    let now : List ActiveVertex = c.loop-a.active in
    let i = c.loop-a.a-index in
    let e : ActiveVertex = c.a-item.result in
    let next : ActiveVertex = record { vertex = (get_or now i e).vertex; leading = c.grow_leading_to.new.found } in
    let within : i < length now = omega arith in (
      λ k d lt. ⊎_elim
          (λ (before : k < i). let apart : k ≢ i = omega arith in
          subst (IsGrown c.args.g.now c.args.costs.now (get_or old k d)) (sym (get_or-set_other now i k next d apart)) (c.loop-a.invariant.0 k d before))
          (λ (from : i ≤ k). let same : i ≡ k = omega arith in
          let first : get_or now i e ≡ get_or old i d = c.loop-a.invariant.1 i e (omega arith) ∙ get_or_default old i e d c.loop-a-test.true in
          let last : get_or (set now i next) i d ≡ next = get_or-set_same now i next d within in
          let grown : IsGrown c.args.g.now c.args.costs.now (get_or now i e) next = record { vertex = refl; size = c.grow_leading_to.ensures.size; leading = c.grow_leading_to.ensures.leading } in
          subst (λ j. IsGrown c.args.g.now c.args.costs.now (get_or old j d) (get_or (set now i next) j d)) same
          (subst (IsGrown c.args.g.now c.args.costs.now (get_or old i d)) (sym last) (subst (λ b. IsGrown c.args.g.now c.args.costs.now b next) first grown)))
          (cases_lt k i),
      λ k d le. let apart : k ≢ i = omega arith in get_or-set_other now i k next d apart ∙ c.loop-a.invariant.1 k d (omega arith),
    )

pub returns : goal.returns
returns c = record { count = c.loop-a.auto.active; each = λ k d lt. c.loop-a.invariant.0 k d (omega arith) }
