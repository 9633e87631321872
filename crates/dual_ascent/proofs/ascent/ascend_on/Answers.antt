use Rattle.net_graph.specs.DecisionLaws.{length-states_of}
use Rattle.dual_ascent.specs.CostLaws.{length-costs_of}
use Rattle.std.proofs.Common.{◌≡◌, ◌∙◌, List, [], ◌∷◌, ◌++◌, ap, sym, subst, map, arith, append_assoc, append-nil}
use Rattle.std.proofs.lemmas.Result.{IfOk-weaker}
use Rattle.dual_ascent.specs.declared.ascent.Ascent.{Ascent}
use Rattle.dual_ascent.specs.declared.step.Step.TheVariants.{Done, Close}
use Rattle.net_graph.specs.declared.packing.Cut.{Cut}
use Rattle.dual_ascent.specs.Ascending.{AreLeftBehind, IsAscent, behind}
use Rattle.dual_ascent.specs.Costs.{lowered_by}
use Rattle.dual_ascent.specs.Steps.{IsNextStep, IsNextCut}
use Rattle.dual_ascent.proofs.lemmas.EnteringLemmas.{edges_of-lowered}
use Rattle.dual_ascent.proofs.lemmas.PackLemmas.{unsaturated-lowered_by, unsaturated-le}
use Rattle.dual_ascent.proofs.lemmas.AscentLemmas.{IsUnderWay, IsUnderWay-pack, IsMaximal-iff, IsClosed, IsClosed-from_under_way}
use Rattle.dual_ascent.proofs.ascent.ascend_on.Goals as goal

pub loop-packing-init : goal.loop-packing-init
loop-packing-init g c = grind (arith, append-nil, unsaturated-le, length-costs_of, length-states_of)

pub next_step-requires : goal.next_step-requires
next_step-requires g c = grind arith

pub returns-in-Done : goal.returns-in-Done
returns-in-Done g c =
    let vertices = c.args.required.now in
    let next : IsNextStep c.args.g.now vertices c.loop-packing.state.costs Done = rw c.in-Done.is at (c.in_ok-next_step.ensures.next vertices c.loop-packing.invariant.1.0) in
    λ (first : List Cut) left.
    let packing : List Cut = first ++ c.loop-packing.packing in
    let under_way : IsUnderWay c.args.g.now c.args.d.now (first ++ c.args.last) packing c.loop-packing.state.costs = c.loop-packing.invariant.0 first left in
    record {
      feasible = under_way.feasible;
      begins = under_way.begins;
      few = omega (arith, under_way.few);
      maximal = λ _. (IsMaximal-iff c.args.g.now c.args.d.now packing c.loop-packing.state.costs vertices c.requires.decision under_way.left c.requires.required).0 next;
      costs = λ _. (rw c.in-Done.is at c.in_ok-next_step.ensures.costs) ∙ under_way.left;
      closed = λ shut. absurd cc;
      closing = λ shut. absurd cc;
      bound = c.weak_duality.ensures c.args.g.now c.args.d.now packing c.requires.decision under_way.feasible;
    }

pub loop-packing-smaller : goal.loop-packing-smaller
loop-packing-smaller g c =
    grind (arith, c.in_ok-next_step.ensures.next (c.args.required.now) c.loop-packing.invariant.1.0, unsaturated-lowered_by)

pub loop-packing-preserved : goal.loop-packing-preserved
loop-packing-preserved g c =
    let vertices = c.args.required.now in
    let next : IsNextCut c.args.g.now vertices c.loop-packing.state.costs c.in-Pack.cut = rw c.in-Pack.is at (c.in_ok-next_step.ensures.next vertices c.loop-packing.invariant.1.0) in
    let after : c.next_step.new.self.costs ≡ map (lowered_by c.in-Pack.cut) c.loop-packing.state.costs = rw c.in-Pack.is at c.in_ok-next_step.ensures.costs in (
      λ (first : List Cut) left.
          rw (after, c.in_ok-push-in-Pack.ensures.ok)
          (subst (λ cuts. IsUnderWay c.args.g.now c.args.d.now (first ++ c.args.last) cuts (map (lowered_by c.in-Pack.cut) c.loop-packing.state.costs))
          (append_assoc first c.loop-packing.packing (c.in-Pack.cut ∷ []))
          (IsUnderWay-pack c.args.g.now c.args.d.now (first ++ c.args.last) (first ++ c.loop-packing.packing) c.loop-packing.state.costs vertices c.in-Pack.cut c.requires.required (c.loop-packing.invariant.0 first left) next)),
      (
        c.in_ok-next_step.ensures.active vertices c.loop-packing.invariant.1.0,
        rw after (edges_of-lowered c.loop-packing.state.costs c.in-Pack.cut ∙ c.loop-packing.invariant.1.1),
      ),
    )

pub returns-in-Close : goal.returns-in-Close
returns-in-Close g c =
    let gr = c.args.g.now in
    let d = c.args.d.now in
    let vertices = c.args.required.now in
    let members = c.in-Close.members in
    let next : IsNextStep gr vertices c.loop-packing.state.costs (Close members) = rw c.in-Close.is at (c.in_ok-next_step.ensures.next vertices c.loop-packing.invariant.1.0) in
    IfOk-weaker c.close.result _
    (λ (a : Ascent). (first : List Cut) → AreLeftBehind gr d (first ++ c.args.last) c.args.costs → IsAscent gr d (first ++ c.args.last) (behind first a))
    (λ (a : Ascent) (is, shut) (first : List Cut) left.
    let start : List Cut = first ++ c.args.last in
    let all : List Cut = first ++ c.loop-packing.packing in
    let ends = IsClosed-from_under_way gr d start all c.loop-packing.state.costs vertices members c.requires.decision c.requires.required (c.loop-packing.invariant.0 first left) next.0 next.1 in
    let closing : IsClosed gr d start (first ++ a.packing) =
    subst (IsClosed gr d start) (sym (ap (λ cuts. first ++ cuts) is ∙ (grind (arith, append_assoc)))) ends in
    record {
      feasible = closing.feasible;
      begins = closing.begins;
      few = closing.few;
      maximal = λ not_closed. absurd cc;
      costs = λ not_closed. absurd cc;
      closed = λ _. closing.value;
      closing = λ _. closing.closing;
      bound = c.weak_duality.ensures gr d (first ++ a.packing) c.requires.decision closing.feasible;
    })
    c.close.ensures
