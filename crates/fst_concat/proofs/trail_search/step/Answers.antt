-- What each verdict makes of the search.
use Rattle.std.proofs.Common.{arith}
use Rattle.fst_concat.proofs.lemmas.Ways.{IsUnderWay-fork, IsUnderWay-done, IsUnderWay-left, undecided, done_with, on_ok}
use Rattle.fst_concat.proofs.trail_search.step.Goals as goal

pub returns-in-Undecided-clause-under_way : goal.returns-in-Undecided-clause-under_way
returns-in-Undecided-clause-under_way c =
    let n = c.args.points in
    let trees = c.args.trees.now in
    let (can, least, taken, is_open) = undecided n trees c.as_slice.result.now c.args.choices c.judge.new.best.total c.in_ok-place.field-0
    c.in-Undecided.least c.in-Undecided.place c.in_ok-place.ensures.holds c.in-Undecided.is c.as_slice.ensures in
    on_ok c.fork.result _ _ _ _ _ c.fork.ensures.steps c.fork.ensures.pending c.fork.ensures.used c.fork.ensures.low
    (λ steps pending used low. IsUnderWay-fork n trees c.args.allowed c.args.best.now.total c.judge.new.best.total c.args.way.now c.fork.new.self
    c.args.choices c.in-Undecided.place c.requires.under_way c.in_ok-place.ensures.below is_open can c.if-way-allowed.true steps pending used low)

pub returns-in-Undecided-2-clause-under_way : goal.returns-in-Undecided-2-clause-under_way
returns-in-Undecided-2-clause-under_way c =
    let n = c.args.points in
    let trees = c.args.trees.now in
    let (can, least, taken, is_open) = undecided n trees c.as_slice.result.now c.args.choices c.judge.new.best.total c.in_ok-place.field-0
    c.in-Undecided.least c.in-Undecided.place c.in_ok-place.ensures.holds c.in-Undecided.is c.as_slice.ensures in
    on_ok c.leave.result _ _ _ _ _ c.leave.ensures.steps c.leave.ensures.pending c.leave.ensures.used c.leave.ensures.low
    (λ steps pending used low. IsUnderWay-left n trees c.args.allowed c.args.best.now.total c.judge.new.best.total c.args.way.now c.leave.new.self
    c.args.choices c.in-Undecided.least c.requires.under_way c.in_ok-place.ensures.below steps pending used low can least taken c.if-way-allowed.false)

pub returns-in-Done-clause-under_way : goal.returns-in-Done-clause-under_way
returns-in-Done-clause-under_way c =
    let n = c.args.points in
    let trees = c.args.trees.now in
    let leave = c.leave-in-Done in
    let (no_better, least) = done_with n trees c.as_slice.result.now c.args.choices c.judge.new.best.total c.in_ok-place.field-0
    c.in_ok-place.ensures.holds c.in-Done.is c.as_slice.ensures in
    on_ok leave.result _ _ _ _ _ leave.ensures.steps leave.ensures.pending leave.ensures.used leave.ensures.low
    (λ steps pending used low. IsUnderWay-done n trees c.args.allowed c.args.best.now.total c.judge.new.best.total c.args.way.now leave.new.self
    c.args.choices c.requires.under_way c.in_ok-place.ensures.below steps pending used (omega (arith, low, leave.ensures.small)) no_better least)
