use Rattle.std.proofs.Common.{◌≡◌, ◌∙◌, ◌≤◌, ap, get_or, length, arith, true}
use Rattle.std.proofs.lemmas.Option.{slice_get-get_or}
use Rattle.net_graph.specs.declared.arcs.Arc.{Arc}
use Rattle.net_graph.proofs.lemmas.GrowthLemmas.{AddsTails-apart, AddsTails-added, AddsTails-all}
use Rattle.net_graph.proofs.growth.add_tails.Goals as goal
use Rattle.net_graph.proofs.growth.add_tails.Goals.{then-has, else-has}

pub loop-arc-preserved : goal.loop-arc-preserved
loop-arc-preserved c =
    let arcs = c.args.arcs.now in
    let n = c.loop-arc.arc-index in
    let d : Arc = record { number = 0; from = 0; to = 0 } in
    let arc : Arc = get_or arcs n d in
    let at = slice_get-get_or arcs n d c.loop-arc-test.true in
    let below = c.requires.below n d c.loop-arc-test.true in
    elim c.if-has.branch [
      | then-has w ↦ (
        rw w.found-is (AddsTails-added _ arcs n _ _ _ arc c.loop-arc.invariant.0 at below.0 (c.has.ensures.0 w.if-has.true) w.add.ensures.order),
        ap (λ f. f.size) w.found-is ∙ w.add.ensures.size ∙ c.loop-arc.invariant.1,
      )
      | else-has w ↦ (
        rw w.found-is (AddsTails-apart _ arcs n _ _ arc c.loop-arc.invariant.0 at (λ listed. let yes : c.has.result ≡ true = c.has.ensures.1 listed in cc)),
        ap (λ f. f.size) w.found-is ∙ c.loop-arc.invariant.1,
      )
    ]

pub returns-clause-every : goal.returns-clause-every
returns-clause-every c =
    let all : length c.args.arcs.now ≤ c.loop-arc.arc-index = omega arith in
    AddsTails-all c.args.found.now.size c.args.arcs.now c.loop-arc.arc-index c.args.found.now.order c.loop-arc.found.order all c.loop-arc.invariant.0
