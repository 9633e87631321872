use Rattle.std.proofs.Common.{◌≡◌, arith, subst, sym}
use Rattle.drawn_points.specs.Drawing.{next_points}
use Rattle.drawn_points.specs.Drawn.{AreDrawn}
use Rattle.drawn_points.specs.DrawingLaws.{AreDrawn-next_points}
use Rattle.drawn_points.proofs.lemmas.Loops.{drawn_one, drawn_all}
use Rattle.drawn_points.proofs.draw.draw_points.Goals as goal

pub points-preserved : goal.points-preserved
points-preserved c = record {
  drawn =
      drawn_one c.args.n c.points.counter c.points.items.items c.push_reserved.new.self.items _ c.points.generator c.next_point.new.generator c.next_point.result
      c.points-test.true c.points.invariant.drawn c.next_point.ensures.point c.next_point.ensures.generator c.push_reserved.ensures.items;
  len = omega (arith, c.push_reserved.ensures.len, c.points.invariant.len);
  room = omega (arith, c.push_reserved.ensures.capacity, c.points.invariant.room);
}

pub invariant_of-result : goal.invariant_of-result
invariant_of-result c =
    let all = drawn_all c.args.n c.points.counter c.points.items.items _ c.points.generator c.points-test.false c.points.invariant.drawn in
    subst AreDrawn (sym all) (AreDrawn-next_points c.args.n c.new-generator.result c.requires.some c.requires.few)

pub returns : goal.returns
returns c =
    subst (λ start. c.points.items.items ≡ next_points c.args.n start) c.new-generator.ensures
    (drawn_all c.args.n c.points.counter c.points.items.items _ c.points.generator c.points-test.false c.points.invariant.drawn)
