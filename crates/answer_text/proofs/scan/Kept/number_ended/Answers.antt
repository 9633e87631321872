use Rattle.answer_text.proofs.lemmas.ScanNumbers.{leads-weight}
use Rattle.std.proofs.lemmas.List.{length-replicate}
use Rattle.std.proofs.Common.{arith, length, false}
use Rattle.net_graph.specs.EntryLaws.{has-none}
use Rattle.answer_text.proofs.lemmas.WordLemmas.{none_then}
use Rattle.answer_text.proofs.lemmas.ScanBlanks.{dead-last, dead-other}
use Rattle.answer_text.proofs.scan.Kept.number_ended.Goals as goal

pub returns-in_ok-self-in-Weight-clause-next : goal.returns-in_ok-self-in-Weight-clause-next
returns-in_ok-self-in-Weight-clause-next c = λ inside name.
    (grind (arith, length-replicate (length c.args.self.now.members) false, leads-weight, has-none))

pub returns-in_ok-with_sign-in-Coordinate-clause-dead : goal.returns-in_ok-with_sign-in-Coordinate-clause-dead
returns-in_ok-with_sign-in-Coordinate-clause-dead c =
    none_then c.coordinate_ended.result c.coordinate_ended.ensures.none
    (λ last inside. dead-last c.args.self.now c.args.field c.in-Coordinate.corner c.in-Coordinate.minus c.args.value c.in-Coordinate.is last inside)

pub returns-in_default : goal.returns-in_default
returns-in_default c =
    grind (arith, dead-other c.args.self.now c.args.field c.args.value c.in_default.not-Weight c.in_default.not-Coordinate)
