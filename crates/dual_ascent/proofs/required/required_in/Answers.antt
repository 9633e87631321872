use Rattle.std.proofs.Common.{◌∙◌, Some, true, false, sym, arith}
use Rattle.net_graph.specs.AddsLaws.{Adds-holds}
use Rattle.net_graph.specs.Decision.{IsRequired}
use Rattle.std.proofs.lemmas.List.{length-replicate}
use Rattle.std.proofs.lemmas.Option.{same_Some}
use Rattle.dual_ascent.proofs.lemmas.RequiredLemmas.{RequiredBelow-skip, RequiredBelow-take, AreRequired-all}
use Rattle.dual_ascent.proofs.required.required_in.Goals as goal
use Rattle.dual_ascent.proofs.required.required_in.Goals.{then-has, else-has}

pub has-requires : goal.has-requires
has-requires c = omega (arith, c.requires.set.size, length-replicate c.args.g.now.vertices false)

pub loop-v-preserved : goal.loop-v-preserved
loop-v-preserved c =
    let gr = c.args.g.now in
    let d = c.args.d.now in
    elim c.if-has.branch [
      | then-has w ↦
          let here : IsRequired gr d c.loop-v.v =
          Adds-holds (IsRequired gr d) gr.vertices c.args.set.now c.requires.set c.loop-v.v (c.has.ensures.flag ∙ (λ i. Some (w.if-has.true i))) in (
            rw (w.list-is, w.push_reserved.ensures.items) (RequiredBelow-take gr d c.loop-v.v c.loop-v.list.items c.loop-v.invariant.0 here),
            rw w.list-is (omega arith),
            rw w.list-is (omega arith),
          )
      | else-has w ↦ (
        rw w.list-is (RequiredBelow-skip gr d c.loop-v.v c.loop-v.list.items c.loop-v.invariant.0
            (λ here. let same = same_Some c.has.result true (sym c.has.ensures.flag ∙ c.requires.set.put c.loop-v.v here) in cc)),
        rw w.list-is (omega arith),
        rw w.list-is (omega arith),
      )
    ]

pub returns-clause-required : goal.returns-clause-required
returns-clause-required c = AreRequired-all c.args.g.now c.args.d.now c.loop-v.v c.loop-v.list.items c.vertex_count-count.ensures.graph c.requires.decision (omega arith) c.loop-v.invariant.0
