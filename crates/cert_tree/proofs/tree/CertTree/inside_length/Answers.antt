-- The turns on the way up are those of the way to the leaf.
use Rattle.std.proofs.Common.{◌-◌, [], ◌∷◌, take, reverse, ap, arith, subst}
use Rattle.std.specs.Prelude.{All}
use Rattle.std.proofs.lemmas.List.Elements.{All-head, All-tail}
use Rattle.std.proofs.lemmas.Option.{slice_get_within}
use Rattle.cert_tree.specs.Preorder.{nodes_of}
use Rattle.cert_tree.specs.Way.{IsTurnIn, inside_parts, turns_up, way_to}
use Rattle.cert_tree.proofs.lemmas.Ways.{turns_up-place, turns_up-step}
use Rattle.cert_tree.proofs.lemmas.WayLengths.{All-reverse, inside_parts-reverse}
use Rattle.cert_tree.proofs.tree.CertTree.inside_length.Goals as goal

pub loop-place-init : goal.loop-place-init
loop-place-init c =
    grind (
      arith,
      turns_up-place (c.args.self.now) c.args.leaf c.place_of-place.result c.place_of-place.ensures.at c.place_of-place.ensures.before,
      slice_get_within,
      inside_parts-reverse (c.args.g.now.edges) (way_to (c.args.self.now) c.args.leaf),
      All-reverse (IsTurnIn (c.args.g.now.edges)) (way_to (c.args.self.now) c.args.leaf) c.requires.turns,
    )

pub inside_part-sum-requires : goal.inside_part-sum-requires
inside_part-sum-requires c =
    grind (arith, turns_up-step, c.in-Some.ensures.turn (reverse (take (c.loop-place.place - 1) (nodes_of c.args.self.now))), All-head)

pub loop-place-preserved-in-Some : goal.loop-place-preserved-in-Some
loop-place-preserved-in-Some c =
    let all = nodes_of c.args.self.now in
    let edges = c.args.g.now.edges in
    let before = reverse (take (c.loop-place.place - 1) all) in
    let step = turns_up-step c.nodes-nodes.result.now all c.loop-place.place c.loop-place.passed c.turn_at.new.passed
    (c.in-Some.turn ∷ [])
    c.nodes-nodes.ensures.nodes (omega arith) (omega arith) (c.in-Some.ensures.turn before) in
    record {
      sum = omega (arith, ap (inside_parts edges) step, c.loop-place.invariant.sum, c.inside_part-sum.ensures);
      turns = All-tail (IsTurnIn edges) c.in-Some.turn (turns_up before c.turn_at.new.passed)
          (subst (All (IsTurnIn edges)) step c.loop-place.invariant.turns);
      passed = omega arith;
    }

pub loop-place-preserved : goal.loop-place-preserved
loop-place-preserved c =
    grind (arith, turns_up-step c.nodes-nodes.result.now (nodes_of c.args.self.now) c.loop-place.place c.loop-place.passed c.turn_at.new.passed, c.in_default.ensures.turn (reverse (take (c.loop-place.place - 1) (nodes_of c.args.self.now))))
