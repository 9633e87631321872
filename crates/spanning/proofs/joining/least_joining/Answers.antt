use Rattle.std.proofs.lemmas.Bool.{both_ways}
use Rattle.spanning.specs.JoiningLaws.{JoinsBelow-all}
use Rattle.spanning.proofs.lemmas.Growing.{JoinsBelow-from_part, least-from_part, none-from_part}
use Rattle.spanning.proofs.joining.least_joining.Goals as goal

pub returns-then-not-is_full-clause-none : goal.returns-then-not-is_full-clause-none
returns-then-not-is_full-clause-none c =
    none-from_part c.args.n c.args.pairs.now c.in_ok-part.part.inside c.in_ok-part.part.chosen c.in_ok-part.ensures.part c.in_ok-part.ensures.whole
    (λ full. both_ways c.is_full.result c.if-not-is_full.true (c.is_full.ensures.1 full))

pub returns-clause-least : goal.returns-clause-least
returns-clause-least c =
    let part = c.in_ok-part.ensures.part in
    let joins = JoinsBelow-from_part c.args.n c.args.pairs.now c.in_ok-part.part.inside c.in_ok-part.part.chosen part (c.is_full.ensures.0 c.if-not-is_full.false) in
    record {
      set = c.in_ok-part.part.chosen;
      places = c.in_ok-places.ensures;
      joins = joins;
      total = c.total_of-total.ensures;
      least = λ other other_joins. least-from_part c.args.n c.args.pairs.now c.in_ok-part.part.inside c.in_ok-part.part.chosen other part other_joins;
    }

pub returns-clause-all : goal.returns-clause-all
returns-clause-all c =
    JoinsBelow-all c.args.n c.args.pairs.now c.in_ok-part.part.chosen
    (JoinsBelow-from_part c.args.n c.args.pairs.now c.in_ok-part.part.inside c.in_ok-part.part.chosen c.in_ok-part.ensures.part (c.is_full.ensures.0 c.if-not-is_full.false))
