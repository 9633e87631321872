use Rattle.std.proofs.Common.{take, ap, ◌∙◌, subst}
use Rattle.answer_text.specs.Reader.{line_due}
use Rattle.tree_judge.specs.declared.cause.Cause.TheVariants.{NotAnswer}
use Rattle.cert_check.specs.declared.verdict.Verdict.TheVariants.{Refused}
use Rattle.cert_check.specs.Verdicts.{byte_limit}
use Rattle.cert_check.specs.Underway.{Follows}
use Rattle.cert_check.proofs.lemmas.Bytes.{judged_refused, judged_ended, judged_unended}
use Rattle.cert_check.proofs.checker.Checker.judged.Goals as goal

pub returns-in-Some : goal.returns-in-Some
returns-in-Some c N bytes stands =
    let old = c.args.self in
    judged_refused N (take byte_limit bytes) old.reader old.judge c.in-Some.cause c.refused.result
    (subst (Follows N (take byte_limit bytes) old.reader old.judge) c.in-Some.is stands.follows) c.refused.ensures.verdict c.refused.ensures.network

pub returns-then-ended : goal.returns-then-ended
returns-then-ended c N bytes stands =
    let old = c.args.self in
    judged_ended N (take byte_limit bytes) old.reader old.judge c.finished.result
    (subst (Follows N (take byte_limit bytes) old.reader old.judge) c.in_default.is stands.follows)
    (c.if-ended.ensures.reads N.form (take byte_limit bytes)) (c.finished.ensures N)

pub returns : goal.returns
returns c N bytes stands =
    let old = c.args.self in
    judged_unended N (take byte_limit bytes) old.reader old.judge (line_due old.reader) c.refused-2.result
    (subst (Follows N (take byte_limit bytes) old.reader old.judge) c.in_default.is stands.follows)
    (c.if-ended.ensures.reads N.form (take byte_limit bytes))
    (c.refused-2.ensures.verdict ∙ ap (λ n. Refused (NotAnswer n)) c.line-line.ensures.line) c.refused-2.ensures.network
