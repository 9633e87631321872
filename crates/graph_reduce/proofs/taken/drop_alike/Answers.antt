use Rattle.graph_reduce.proofs.lemmas.Alike.{alike_within, clear_before, clear_after, tidy_none, tidy_before, tidy_after}
use Rattle.graph_reduce.proofs.lemmas.Renewing.{due_more, renewed_dropped}
use Rattle.graph_reduce.proofs.taken.drop_alike.Goals as goal

pub drop_longer-requires-clause-clear : goal.drop_longer-requires-clause-clear
drop_longer-requires-clause-clear c = clear_before c.args.work.now c.args.place c.requires.tidy c.in-Some.other
    c.in-Some.ensures.alike c.if-other-place.true

pub drop_longer-requires-else-other-place-clause-later : goal.drop_longer-requires-else-other-place-clause-later
drop_longer-requires-else-other-place-clause-later c =
    alike_within c.args.work.now c.args.place c.in-Some.other c.in-Some.ensures.alike

pub drop_longer-requires-else-other-place-clause-clear : goal.drop_longer-requires-else-other-place-clause-clear
drop_longer-requires-else-other-place-clause-clear c = clear_after c.args.work.now c.args.place c.requires.tidy
    c.in-Some.other c.in-Some.ensures.alike c.if-other-place.false

pub returns-then-other-place-clause-tidy : goal.returns-then-other-place-clause-tidy
returns-then-other-place-clause-tidy c = tidy_before c.args.work.now c.args.place c.requires.tidy c.drop_longer.new.work
    c.in-Some.other c.drop_longer.ensures.within c.in-Some.ensures.alike c.if-other-place.true c.drop_longer.ensures.clear

pub returns-else-other-place-clause-tidy : goal.returns-else-other-place-clause-tidy
returns-else-other-place-clause-tidy c = tidy_after c.args.work.now c.args.place c.requires.tidy
    c.drop_longer-else-other-place.new.work c.in-Some.other c.drop_longer-else-other-place.ensures.within
    c.in-Some.ensures.alike c.if-other-place.false c.drop_longer-else-other-place.ensures.clear

pub returns-in_default-clause-tidy : goal.returns-in_default-clause-tidy
returns-in_default-clause-tidy c = tidy_none c.args.work.now c.args.place c.requires.tidy c.in_default.ensures.alike

pub returns-then-other-place-clause-index : goal.returns-then-other-place-clause-index
returns-then-other-place-clause-index c = renewed_dropped c.args.work.now c.drop_longer.new.work c.args.place
    c.in-Some.other c.in-Some.ensures.alike c.alike.new.survey c.add_ends_of.new.self c.in-Some.ensures.survey
    (due_more c.args.work.now c.args.due.now c.add_ends_of.new.self c.requires.index.all c.add_ends_of.ensures.stays)
    c.in_ok-add_ends_of.ensures.due c.drop_longer.ensures.within
    (λ n z apart other at. c.drop_longer.ensures.others n z other apart at) c.drop_longer.ensures.rest.0
    c.drop_longer.ensures.rest.1

pub returns-else-other-place-clause-index : goal.returns-else-other-place-clause-index
returns-else-other-place-clause-index c = renewed_dropped c.args.work.now c.drop_longer-else-other-place.new.work
    c.args.place c.in-Some.other c.in-Some.ensures.alike c.alike.new.survey c.add_ends_of.new.self
    c.in-Some.ensures.survey
    (due_more c.args.work.now c.args.due.now c.add_ends_of.new.self c.requires.index.all c.add_ends_of.ensures.stays)
    c.in_ok-add_ends_of.ensures.due c.drop_longer-else-other-place.ensures.within
    (λ n z apart other at. c.drop_longer-else-other-place.ensures.others n z apart other at)
    c.drop_longer-else-other-place.ensures.rest.0 c.drop_longer-else-other-place.ensures.rest.1
