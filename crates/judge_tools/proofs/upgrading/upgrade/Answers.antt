-- What was taken, and how the run then ended, are a run.
use Rattle.std.proofs.Common.{List, ℕ, sym, subst}
use Rattle.tool_frame.specs.Outside.{outside}
use Rattle.answer_text.specs.declared.form.Form.TheVariants as form
use Rattle.answer_text.specs.Spelling.{SpellsAnswer}
use Rattle.answer_text.specs.Text.{answer_text}
use Rattle.answer_upgrade.specs.Upgraded.{upgraded}
use Rattle.judge_tools.proofs.Upgrades.{printed_run, refused_run, starved_run}
use Rattle.judge_tools.proofs.upgrading.upgrade.Goals as goal

pub returns-in-Ok : goal.returns-in-Ok
returns-in-Ok g c =
    printed_run c.upgrading_keeps_verdict.ensures c.args.points_name.now
    (outside (g.I.Source.state c.args.input.now) (g.O.Sink.state c.args.out.now) (g.R.Sink.state c.args.err.now) (g.S.Shelf.state c.args.shelf.now))
    (outside (g.I.Source.state c.take_answer.new.input) (g.O.Sink.state c.write_upgraded-written.new.sink) (g.R.Sink.state c.end_written.new.err) (g.S.Shelf.state c.take_answer.new.shelf))
    c.in-Ok.taken c.end_written.result c.in-Ok.ensures.takes c.in-Ok.ensures.leaves
    (λ answer spells.
    c.end_written.ensures (g.O.Sink.state c.args.out.now) (g.O.Sink.state c.write_upgraded-written.new.sink)
    (answer_text (upgraded answer))
    (c.write_upgraded-written.ensures answer
    (subst (λ (b : List ℕ). SpellsAnswer (form.OnGrid c.in-Ok.taken.vertices) b answer) (sym c.as_slice.ensures.value) spells)))

pub returns-in-Err-Fault : goal.returns-in-Err-Fault
returns-in-Err-Fault g c =
    let takes = rw c.in-Err-Fault.field-0-is at c.in-Err-Fault.ensures.takes in
    refused_run c.args.points_name.now
    (outside (g.I.Source.state c.args.input.now) (g.O.Sink.state c.args.out.now) (g.R.Sink.state c.args.err.now) (g.S.Shelf.state c.args.shelf.now))
    (outside (g.I.Source.state c.take_answer.new.input) (g.O.Sink.state c.args.out.now) (g.R.Sink.state c.end_refused.new.err) (g.S.Shelf.state c.take_answer.new.shelf))
    c.in-Err-Fault.fault c.end_refused.result takes c.in-Err-Fault.ensures.leaves
    (c.end_refused.ensures (g.O.Sink.state c.args.out.now))

pub returns-in-Err-Memory : goal.returns-in-Err-Memory
returns-in-Err-Memory g c =
    starved_run c.args.points_name.now
    (outside (g.I.Source.state c.args.input.now) (g.O.Sink.state c.args.out.now) (g.R.Sink.state c.args.err.now) (g.S.Shelf.state c.args.shelf.now))
    (outside (g.I.Source.state c.take_answer.new.input) (g.O.Sink.state c.args.out.now) (g.R.Sink.state c.end_starved.new.err) (g.S.Shelf.state c.take_answer.new.shelf))
    c.end_starved.result c.in-Err-Memory.ensures.leaves
    (c.end_starved.ensures (g.O.Sink.state c.args.out.now))
