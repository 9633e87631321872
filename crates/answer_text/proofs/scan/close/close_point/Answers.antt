use Rattle.std.specs.Int.{w64}
use Rattle.std.proofs.lemmas.Int.{to_z-of_z}
use Rattle.answer_text.proofs.lemmas.NamesClosed.{closes-point}
use Rattle.answer_text.proofs.lemmas.WordLemmas.{some_then}
use Rattle.answer_text.proofs.scan.close.close_point.Goals as goal

pub returns-clause-closes : goal.returns-clause-closes
returns-clause-closes c =
    some_then c.close_vertex.result c.close_vertex.ensures.makes
    (λ told makes h minus value is inside name.
    closes-point c.args.kept.now _ h minus value _ c.args.last _ told (to_z-of_z w64 c.args.kept.now.name.x1 name.x1) (to_z-of_z w64 c.args.last c.ranges.last) is c.ranges.last makes inside name)
