-- What is found is the verdict on the bytes that were fed, behind none, up to the input's end.
use Rattle.std.proofs.Common.{ℕ, List, [], Result, Ok, Err, sym, subst, arith}
use Rattle.rst_outside.specs.Source.{SourceState}
use Rattle.cert_check.specs.Checking.{StandsForBytesIn}
use Rattle.cert_check.specs.Named.{Named}
use Rattle.tool_frame.specs.declared.take.InputFault.{InputFault}
use Rattle.tool_frame.specs.declared.stop.Stop.{Stop}
use Rattle.tool_frame.specs.declared.stop.Stop.TheVariants.{Fault, Memory}
use Rattle.tool_frame.specs.Stops.{IfFound, OnStarved}
use Rattle.tool_frame.specs.Taking.{IsWholeInput}
use Rattle.verdict_line.specs.declared.judged_input.Judged.{Judged}
use Rattle.verdict_line.specs.Judging.{JudgesInput, TellsVerdict}
use Rattle.verdict_line.proofs.judged_input.judge_input.Goals as goal

-- what is found of the bytes of an input that was read to its end is found of the input
judges_whole : (N : Named) (limit : ℕ) (before after : SourceState) (bytes : List ℕ)
    (result : Result Judged (Stop InputFault)) → IsWholeInput limit before after bytes →
    IfFound result (TellsVerdict N limit bytes) → IfFound result (JudgesInput N limit before after)
judges_whole N limit before after bytes (Ok judged) whole judges = (bytes, whole, judges)
judges_whole N limit before after bytes (Err (Fault fault)) whole (is, many) =
    let within = whole.within in absurd (omega (arith, within, many))
judges_whole N limit before after bytes (Err (Memory error)) whole judges = tt

-- who never lacks memory meets what is due where it is wanting
never_starved : {A : Type 0} {F : Type 0} (found : Result A (Stop F)) (P : Type 0) → OnStarved found ⊥ →
    OnStarved found P
never_starved (Ok value) P sure = tt
never_starved (Err (Fault fault)) P sure = tt
never_starved (Err (Memory error)) P sure = absurd sure

pub returns-in-Ok-clause-unread : goal.returns-in-Ok-clause-unread
returns-in-Ok-clause-unread g c = never_starved c.finish.result _ c.finish.ensures.sure

pub returns-in-Ok-clause-judges : goal.returns-in-Ok-clause-judges
returns-in-Ok-clause-judges g c =
    let (bytes, whole, fed) = rw c.in-Ok.is at c.feed_input.ensures.feeds in
    let began = subst (λ N. StandsForBytesIn N [] c.in_ok-judging.judging.checker) c.requires.about
    c.in_ok-judging.ensures in
    let before = g.I.Source.state c.args.input.now in
    let after = g.I.Source.state c.feed_input.new.input in
    subst (λ N. IfFound c.finish.result (JudgesInput N c.args.limit before after)) (sym c.requires.about)
    (judges_whole g.K.About.named c.args.limit before after bytes c.finish.result whole
    (c.finish.ensures.tells bytes (fed [] began)))
