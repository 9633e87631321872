use Rattle.std.proofs.Common.{refl, arith}
use Rattle.cert_check.specs.declared.verdict.Verdict.TheVariants.{TooLong}
use Rattle.cert_check.proofs.lemmas.Bytes.{verdict_within, verdict_beyond, too_long_within, too_long_beyond}
use Rattle.cert_check.proofs.checker.Checker.verdict.Goals as goal

pub returns-then-fed-gt-BYTE_LIMIT-clause-verdict :
    goal.returns-then-fed-gt-BYTE_LIMIT-clause-verdict
returns-then-fed-gt-BYTE_LIMIT-clause-verdict c N bytes stands =
    verdict_beyond N bytes c.args.self.fed c.judged-judged.result _ stands.fed c.if-fed-gt-BYTE_LIMIT.true (c.judged-judged.ensures N bytes stands) refl refl

pub returns-then-fed-gt-BYTE_LIMIT-clause-too_long :
    goal.returns-then-fed-gt-BYTE_LIMIT-clause-too_long
returns-then-fed-gt-BYTE_LIMIT-clause-too_long c N bytes stands =
    grind (arith, too_long_beyond bytes c.args.self.fed (record { verdict = TooLong; network = c.judged-judged.result.network }) stands.fed c.if-fed-gt-BYTE_LIMIT.true refl)

pub returns-clause-verdict : goal.returns-clause-verdict
returns-clause-verdict c N bytes stands =
    verdict_within N bytes c.args.self.fed c.judged-judged.result stands.fed c.if-fed-gt-BYTE_LIMIT.false (c.judged-judged.ensures N bytes stands)

pub returns-clause-too_long : goal.returns-clause-too_long
returns-clause-too_long c N bytes stands =
    too_long_within N bytes c.args.self.fed c.judged-judged.result stands.fed c.if-fed-gt-BYTE_LIMIT.false (c.judged-judged.ensures N bytes stands)
