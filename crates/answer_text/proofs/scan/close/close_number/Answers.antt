use Rattle.std.proofs.Common.{◌^◌, arith}
use Rattle.answer_text.proofs.lemmas.ScanClose.{same_small, no_line-weight, closes-length, closes-bound, closes-openings, closes-last_openings, closes-total, closes-count}
use Rattle.answer_text.proofs.lemmas.NamesClosed.{closes-vertex_number, no_line-number}
use Rattle.answer_text.proofs.lemmas.WordLemmas.{none_then, some_then}
use Rattle.answer_text.proofs.scan.close.close_number.Goals as goal

pub returns-in_ok-head-in-Length-clause-closes : goal.returns-in_ok-head-in-Length-clause-closes
returns-in_ok-head-in-Length-clause-closes c =
    grind (arith, closes-length, same_small c.try_from.result (2 ^ 64) c.args.value c.in_ok-head-in-Length.field-0 c.ok.result c.try_from.ensures c.ok.ensures.value c.in_ok-head-in-Length.was)

pub returns-in_ok-head-in-Bound-clause-closes : goal.returns-in_ok-head-in-Bound-clause-closes
returns-in_ok-head-in-Bound-clause-closes c = grind (arith, closes-bound)

pub returns-in_ok-head-in-Openings-clause-closes : goal.returns-in_ok-head-in-Openings-clause-closes
returns-in_ok-head-in-Openings-clause-closes c = grind (arith, closes-openings)

pub returns-in_ok-head-in-LastOpenings-clause-closes : goal.returns-in_ok-head-in-LastOpenings-clause-closes
returns-in_ok-head-in-LastOpenings-clause-closes c = grind (arith, closes-last_openings)

pub returns-in-Total-clause-closes : goal.returns-in-Total-clause-closes
returns-in-Total-clause-closes c = λ inside name. closes-total c.args.kept.now c.args.head.now c.args.field c.args.value c.in-Total.least c.in-Total.is inside name

pub returns-in_ok-edges-in-Count-clause-closes : goal.returns-in_ok-edges-in-Count-clause-closes
returns-in_ok-edges-in-Count-clause-closes c = grind (arith, closes-count)

pub returns-in-Weight-clause-none : goal.returns-in-Weight-clause-none
returns-in-Weight-clause-none c = no_line-weight c.args.kept.now c.args.field c.args.value c.in-Weight.is

pub returns-in_ok-ok-in-VertexNumber-clause-closes : goal.returns-in_ok-ok-in-VertexNumber-clause-closes
returns-in_ok-ok-in-VertexNumber-clause-closes c = grind (arith, some_then, closes-vertex_number)

pub returns-in_ok-ok-in-VertexNumber-clause-none : goal.returns-in_ok-ok-in-VertexNumber-clause-none
returns-in_ok-ok-in-VertexNumber-clause-none c =
    none_then c.close_vertex.result c.close_vertex.ensures.none (λ none. no_line-number c.args.kept.now c.args.field c.in-VertexNumber.field-0 c.args.value c.in-VertexNumber.is none)
