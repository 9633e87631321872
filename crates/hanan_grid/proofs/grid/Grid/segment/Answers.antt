use Rattle.hanan_grid.specs.Stretch.{IsGridStretch, IsOnStretch}
use Rattle.hanan_grid.specs.StretchLaws.{length_of-stretch, Joins-stretch}
use Rattle.hanan_grid.proofs.lemmas.Stretches.{joins_ends, edges_put}
use Rattle.hanan_grid.proofs.grid.Grid.segment.Goals as goal

pub returns-clause-length : goal.returns-clause-length
returns-clause-length c =
    let ps = c.args.self.now in
    let is : IsGridStretch ps c.args.from c.args.to = record {
      straight = c.is_straight.ensures.0 c.if-not-is_straight.false;
      from = c.is_crossing.ensures.0 c.if-not-is_crossing.false;
      to = c.is_crossing-else-not-is_crossing.ensures.0 c.if-not-is_crossing-2.false;
    } in
    length_of-stretch ps c.args.from c.args.to c.add_segment.new.set is
    (edges_put (IsOnStretch ps c.args.from c.args.to) c.edge_count.result c.in_ok-set.set c.add_segment.new.set c.in_ok-set.ensures c.add_segment.ensures)

pub returns-clause-ends : goal.returns-clause-ends
returns-clause-ends c =
    let ps = c.args.self.now in
    let is : IsGridStretch ps c.args.from c.args.to = record {
      straight = c.is_straight.ensures.0 c.if-not-is_straight.false;
      from = c.is_crossing.ensures.0 c.if-not-is_crossing.false;
      to = c.is_crossing-else-not-is_crossing.ensures.0 c.if-not-is_crossing-2.false;
    } in
    joins_ends ps c.args.from c.args.to c.add_segment.new.set is c.add_segment.ensures.put

pub returns-clause-way : goal.returns-clause-way
returns-clause-way c =
    let ps = c.args.self.now in
    let is : IsGridStretch ps c.args.from c.args.to = record {
      straight = c.is_straight.ensures.0 c.if-not-is_straight.false;
      from = c.is_crossing.ensures.0 c.if-not-is_crossing.false;
      to = c.is_crossing-else-not-is_crossing.ensures.0 c.if-not-is_crossing-2.false;
    } in
    λ vertices on. Joins-stretch ps c.args.from c.args.to c.add_segment.new.set vertices is c.add_segment.ensures.put on
