-- The verdict on an answer that isn't too long, among those on any.
use Rattle.cert_check.specs.declared.verdict.Ruling.{Ruling}
use Rattle.cert_check.specs.declared.verdict.Ruling.TheVariants.{Accepted, Refused}
use Rattle.cert_check.specs.declared.verdict.Verdict.{Verdict}
use Rattle.cert_check.specs.declared.verdict.Verdict.TheVariants as verdict

abbrev pub verdict_of : Ruling → Verdict
verdict_of (Accepted length bound optimal) = verdict.Accepted length bound optimal
verdict_of (Refused cause) = verdict.Refused cause
