-- What the lines come to is what the bytes spell, or their first fault.
use Rattle.std.specs.Prelude.{Ok, Err}
use Rattle.section_text.proofs.Whole.{value_spelled, answers, comes_to}
use Rattle.section_text.proofs.read.read_sections.Goals as goal

pub returns-clause-spelled : goal.returns-clause-spelled
returns-clause-spelled g c =
    value_spelled g.S.SectionFormat.format c.lawful.ensures c.args.bytes.now c.read_lines.result c.read_lines.ensures.ok

pub returns-clause-only : goal.returns-clause-only
returns-clause-only g c = λ v spelled.
    let fm = g.S.SectionFormat.format in
    answers fm c.lawful.ensures c.args.bytes.now c.read_lines.result c.read_lines.ensures.ok c.read_lines.ensures.err (Ok v)
    (comes_to fm c.lawful.ensures c.args.bytes.now v spelled)

pub returns-clause-only_fault : goal.returns-clause-only_fault
returns-clause-only_fault g c = λ f first.
    answers g.S.SectionFormat.format c.lawful.ensures c.args.bytes.now c.read_lines.result c.read_lines.ensures.ok c.read_lines.ensures.err (Err f) first
