use Rattle.std.proofs.Common.{◌≡◌, List, ◌∷◌, length, drop, get_or, true, ap, ◌∙◌, arith}
use Rattle.net_graph.specs.Decision.{nothing_decided}
use Rattle.cert_tree.specs.declared.way.Turn.{Turn}
use Rattle.cert_tree.specs.Decisions.{inside_of}
use Rattle.tree_judge.specs.declared.way.Way.{Way}
use Rattle.tree_judge.specs.Ways.{undecided_of}
use Rattle.tree_judge.proofs.lemmas.WaySteps.{GoesInside-over, StandsOnWay-up, flag_off, flag_on, lowest_has_state}
use Rattle.tree_judge.proofs.way.go_on.Goals as goal

-- the lowest split was taken away
popped_is : (t : Turn) (above path popped : List Turn) → path ≡ t ∷ above → popped ≡ drop 1 path → popped ≡ above
popped_is t above path popped is told = told ∙ ap (drop 1) is

pub go_down-requires-clause-few : goal.go_down-requires-clause-few
go_down-requires-clause-few c = grind (arith, popped_is)

pub go_down-requires-clause-state : goal.go_down-requires-clause-state
go_down-requires-clause-state c = grind (arith, lowest_has_state)

pub undecide-requires : goal.undecide-requires
undecide-requires c = grind (arith, lowest_has_state)

pub returns-then-not-turn : goal.returns-then-not-turn
returns-then-not-turn c =
    let (above, is) = c.in-Some.ensures.some in
    let t = c.in-Some.turn in
    let old = c.loop-turn.way in
    let top = nothing_decided c.args._g.now in
    let down = λ (path : List Turn). record old {
      decided = inside_of old.decided t.on;
      path = record { on = t.on; inside = true } ∷ path;
    } in
    let told = c.go_down.ensures ∙ ap down (popped_is t above old.path c.pop.new.self is c.pop.ensures) in
    let goes = GoesInside-over c.args._g.now t above old c.go_down.new.way c.loop-turn.invariant.stands is
    (flag_off t.inside c.if-not-turn.true) told in
    record {
      way = goes.stands;
      decision = goes.decision ∙ ap (λ ds. get_or ds 0 top) c.loop-turn.invariant.behind;
      behind = goes.behind ∙ ap (λ ds. drop 1 ds) c.loop-turn.invariant.behind;
      depth = omega (arith, ap (λ (x : Way). length x.path) told, ap length is, c.loop-turn.invariant.depth);
    }

pub loop-turn-preserved : goal.loop-turn-preserved
loop-turn-preserved c =
    let (above, is) = c.in-Some.ensures.some in
    let t = c.in-Some.turn in
    let old = c.loop-turn.way in
    let new : Way = record { decided = c.undecide.new.decided; path = c.pop.new.self } in
    let told : new ≡ record { decided = undecided_of old.decided t.on; path = above } =
    λ i. record {
      decided = c.undecide.ensures i;
      path = popped_is t above old.path c.pop.new.self is c.pop.ensures i;
    } in
    let (stands, behind) = StandsOnWay-up c.args._g.now t above old new c.loop-turn.invariant.stands is
    (flag_on t.inside c.if-not-turn.false) told in
    record {
      stands = stands;
      behind = behind ∙ c.loop-turn.invariant.behind;
      depth = omega (arith, ap (λ (x : Way). length x.path) told, ap length is, c.loop-turn.invariant.depth);
    }
