-- What was told is true, and a run that nothing troubles ends with an answer, as any run does that is as the words ask.
use Rattle.std.proofs.Common.{inl, inr, refl, subst, map, string_bytes}
use Rattle.tool_frame.specs.Outside.{outside}
use Rattle.requests.specs.Requests.{request_of}
use Rattle.suite.specs.Run.{EndsAsAsked}
use Rattle.suite.proofs.lemmas.Told.{told_by_run}
use Rattle.suite.proofs.lemmas.Complete.{completes_by_run}
use Rattle.suite.proofs.program.run.Goals as goal

pub returns-in-Ok-clause-run : goal.returns-in-Ok-clause-run
returns-in-Ok-clause-run g c = inr (subst (λ request. EndsAsAsked request
    (outside (g.I.Source.state c.args.input.now) (g.O.Sink.state c.args.out.now) (g.R.Sink.state c.args.err.now) (g.S.Shelf.state c.args.shelf.now))
    (outside (g.I.Source.state c.answer.new.input) (g.O.Sink.state c.answer.new.out) (g.R.Sink.state c.answer.new.err) (g.S.Shelf.state c.answer.new.shelf))
    c.answer.result) c.in-Ok.ensures.exact c.answer.ensures)

pub returns-in-Err-clause-run : goal.returns-in-Err-clause-run
returns-in-Err-clause-run g c = inl (record { ends = refl; read = refl; out = refl; reports = c.report.ensures })

pub returns-in-Ok-clause-headline : goal.returns-in-Ok-clause-headline
returns-in-Ok-clause-headline g c = told_by_run
    (outside (g.I.Source.state c.args.input.now) (g.O.Sink.state c.args.out.now) (g.R.Sink.state c.args.err.now) (g.S.Shelf.state c.args.shelf.now))
    (outside (g.I.Source.state c.answer.new.input) (g.O.Sink.state c.answer.new.out) (g.R.Sink.state c.answer.new.err) (g.S.Shelf.state c.answer.new.shelf))
    c.answer.result c.no_edge_crosses.ensures.none c.graphs_are_read_back.ensures.obstacles
    (request_of (map string_bytes c.args.words.now)) (returns-in-Ok-clause-run g c)

pub returns-in-Err-clause-headline : goal.returns-in-Err-clause-headline
returns-in-Err-clause-headline g c =
    told_by_run _ _ _ c.no_edge_crosses.ensures.none c.graphs_are_read_back.ensures.obstacles
    (request_of (map string_bytes c.args.words.now)) (returns-in-Err-clause-run g c)

pub returns-in-Ok-clause-complete : goal.returns-in-Ok-clause-complete
returns-in-Ok-clause-complete g c = completes_by_run
    (record {
      located = c.located_has_no_fault.ensures;
      spelled = c.spelled_has_no_fault.ensures.no_fault;
      one = c.spelled_has_no_fault.ensures.one;
      task = c.task_has_no_fault.ensures;
      around = c.around_has_no_fault.ensures;
    })
    (outside (g.I.Source.state c.args.input.now) (g.O.Sink.state c.args.out.now) (g.R.Sink.state c.args.err.now) (g.S.Shelf.state c.args.shelf.now))
    (outside (g.I.Source.state c.answer.new.input) (g.O.Sink.state c.answer.new.out) (g.R.Sink.state c.answer.new.err) (g.S.Shelf.state c.answer.new.shelf))
    c.answer.result (request_of (map string_bytes c.args.words.now)) (returns-in-Ok-clause-run g c)

pub returns-in-Err-clause-complete : goal.returns-in-Err-clause-complete
returns-in-Err-clause-complete g c = completes_by_run
    (record {
      located = c.located_has_no_fault.ensures;
      spelled = c.spelled_has_no_fault.ensures.no_fault;
      one = c.spelled_has_no_fault.ensures.one;
      task = c.task_has_no_fault.ensures;
      around = c.around_has_no_fault.ensures;
    })
    _ _ _ (request_of (map string_bytes c.args.words.now)) (returns-in-Err-clause-run g c)
