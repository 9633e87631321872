use Rattle.std.proofs.Common.{◌≡◌, ◌∙◌, ◌+◌, Bool, true, false, not, cond, List, [], ◌∷◌, ◌++◌, filter, map, sum_by, take, drop, get_or, refl, ap, sym, subst, arith, rules, append-nil, append_assoc}
use Rattle.std.specs.List.{list_any}
use Rattle.std.proofs.lemmas.List.{take_all, drop_all}
use Rattle.std.proofs.lemmas.List.Elements.{filter_more}
use Rattle.std.proofs.lemmas.List.Sums.{sum_by_push}
use Rattle.net_graph.specs.declared.packing.Cut.{Cut}
use Rattle.net_graph.specs.declared.state.EdgeState.{EdgeState}
use Rattle.net_graph.specs.Decision.{states_of}
use Rattle.net_graph.specs.DecisionLaws.{length-states_of}
use Rattle.dual_ascent.specs.Carried.{is_entered_along}
use Rattle.dual_ascent.specs.Costs.{costs_of, raised_by}
use Rattle.dual_ascent.specs.Entering.{EntersLeft, AreEntering}
use Rattle.dual_ascent.proofs.lemmas.CarriedCostLemmas.{AreWithinRooms, those_left, those_left-at, those_left-taken, those_left_within, map-raised_by, raise_fits}
use Rattle.dual_ascent.proofs.lemmas.LoadLemmas.{edges-costs_of}
use Rattle.dual_ascent.proofs.carried.without_entered.Goals as goal
use Rattle.dual_ascent.proofs.carried.without_entered.Goals.{then-is_entered+in_ok-list_entering, else-is_entered}

pub loop-cut-init : goal.loop-cut-init
loop-cut-init c = (c.in_ok-left.ensures ∙ c.requires.costs, (refl, omega arith))

pub list_entering-requires : goal.list_entering-requires
list_entering-requires c =
    grind (arith, edges-costs_of, those_left, length-states_of c.args.g.now c.args.before.now c.requires.decided.edges)

pub raise-requires-clause-entering : goal.raise-requires-clause-entering
raise-requires-clause-entering c =
    subst (AreEntering c.loop-cut.left c.cut-item.result.members) (sym c.deref.ensures.value) c.in_ok-list_entering.ensures

pub raise-requires-clause-fits : goal.raise-requires-clause-fits
raise-requires-clause-fits c k d lt =
    let cuts = c.args.cuts.now in
    let i = c.loop-cut.cut-index in
    let cut : Cut = c.cut-item.result in
    let states : List EdgeState = states_of c.args.g.now c.args.before.now in
    let test : Cut → Bool = λ x. not (list_any (is_entered_along x.members) c.args.edges.now) in
    let front : List Cut = filter test (take i cuts) in
    let rest : List Cut = drop (i + 1) cuts in
    let are : AreEntering c.loop-cut.left cut.members c.deref.result.now =
    subst (AreEntering c.loop-cut.left cut.members) (sym c.deref.ensures.value) c.in_ok-list_entering.ensures in
    let left : c.loop-cut.left ≡ costs_of c.args.g.now.edges states (front ++ cut ∷ rest) =
    c.loop-cut.invariant.0 ∙ ap (costs_of c.args.g.now.edges states) (those_left-at test cuts i cut c.loop-cut-test.true (sym c.cut-item.is)) in
    raise_fits c.args.g.now states front cut rest (get_or c.deref.result.now k d) c.edge_count.ensures.graph
    (length-states_of c.args.g.now c.args.before.now c.requires.decided.edges)
    (subst (λ cs. EntersLeft cs cut.members (get_or c.deref.result.now k d)) left (are.each k d lt))

pub loop-cut-preserved : goal.loop-cut-preserved
loop-cut-preserved c =
    let edges = c.args.g.now.edges in
    let cuts = c.args.cuts.now in
    let i = c.loop-cut.cut-index in
    let cut : Cut = c.cut-item.result in
    let states : List EdgeState = states_of c.args.g.now c.args.before.now in
    let test : Cut → Bool = λ x. not (list_any (is_entered_along x.members) c.args.edges.now) in
    let front : List Cut = filter test (take i cuts) in
    let rest : List Cut = drop (i + 1) cuts in
    let tail : Cut → List Cut = λ x. cond (test x) (x ∷ []) [] in
    let more : filter test (take (i + 1) cuts) ≡ front ++ tail cut =
    filter_more test cuts i cut c.loop-cut-test.true ∙ ap (λ x. front ++ tail x) (sym c.cut-item.is) in
    elim c.if-is_entered.branch [
      | then-is_entered+in_ok-list_entering w ↦
          let fails : test cut ≡ false = ap not (sym c.is_entered.ensures ∙ w.if-is_entered.true) in
          let at = those_left-at test cuts i cut c.loop-cut-test.true (sym c.cut-item.is) in
          let within : AreWithinRooms edges states (front ++ cut ∷ rest) =
          subst (AreWithinRooms edges states) at (those_left_within edges states test cuts i c.requires.feasible.room) in
          let last : tail cut ≡ [] = rw fails refl in (
            w.left-is ∙ w.raise.ensures
                ∙ ap (map (raised_by cut)) (c.loop-cut.invariant.0 ∙ ap (costs_of edges states) at)
                ∙ map-raised_by edges states front cut rest within
                ∙ ap (costs_of edges states) (sym (those_left-taken test cuts i cut c.loop-cut-test.true (sym c.cut-item.is) fails)),
            (
              w.weight-is ∙ c.loop-cut.invariant.1.0 ∙ ap (sum_by (λ (x : Cut). x.weight))
                  (sym (append-nil front) ∙ ap (λ xs. front ++ xs) (sym last) ∙ sym more),
              omega (arith, w.weight-is, c.loop-cut.invariant.1.1),
            ),
          )
      | else-is_entered w ↦
          let passes : test cut ≡ true = ap not (sym c.is_entered.ensures ∙ w.if-is_entered.false) in
          let last : tail cut ≡ cut ∷ [] = rw passes refl in
          let all : filter test (take (i + 1) cuts) ≡ front ++ cut ∷ [] = more ∙ ap (λ xs. front ++ xs) last in
          let sum : sum_by (λ (x : Cut). x.weight) (filter test (take (i + 1) cuts)) ≡ sum_by (λ (x : Cut). x.weight) front + cut.weight =
          ap (sum_by (λ (x : Cut). x.weight)) all ∙ sum_by_push (λ (x : Cut). x.weight) front cut in (
            w.left-is ∙ c.loop-cut.invariant.0
                ∙ ap (costs_of edges states) (sym (grind (arith, filter_more test cuts i cut c.loop-cut-test.true, append_assoc (filter test (take i cuts)) (cut ∷ []) (drop (i + 1) cuts), those_left-at test cuts i cut c.loop-cut-test.true (sym c.cut-item.is)))),
            (omega (arith, w.weight-is, c.loop-cut.invariant.1.0, sum), search rules),
          )
    ]

pub returns : goal.returns
returns c = grind (arith, take_all, drop_all, append-nil, take_all)
