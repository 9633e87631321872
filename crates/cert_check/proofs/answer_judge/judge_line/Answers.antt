use Rattle.std.proofs.Common.{inl}
use Rattle.cert_check.specs.Named.{named_of}
use Rattle.cert_check.proofs.lemmas.Steps.{line_fails, line_passes}
use Rattle.cert_check.proofs.answer_judge.judge_line.Goals as goal

pub returns-in-Ok-clause-passes : goal.returns-in-Ok-clause-passes
returns-in-Ok-clause-passes c =
    line_passes (named_of c.args.subject) c.args.event.now c.in-Ok.step c.args.members.now c.args.judge.now c.judge_step.new.judge
    c.judge_step.result c.in-Ok.ensures.step c.judge_step.ensures.passes

pub returns-in-Ok-clause-fault : goal.returns-in-Ok-clause-fault
returns-in-Ok-clause-fault c =
    line_fails (named_of c.args.subject) c.args.event.now c.in-Ok.step c.args.members.now c.args.line c.args.judge.now
    c.judge_step.new.judge c.judge_step.result c.in-Ok.ensures.step c.judge_step.ensures.fault

pub returns-in-Err-clause-fault : goal.returns-in-Err-clause-fault
returns-in-Err-clause-fault c s stands = inl (c.in-Err.ensures.fault, stands.network)
