use Rattle.cert_check.proofs.lemmas.Upgrading.{upgraded_verdict}
use Rattle.cert_check.proofs.law.upgrading_keeps_verdict.Goals as goal

pub returns : goal.returns
returns c = upgraded_verdict c.one_reading.ensures (record { spells = c.upgraded_alike.ensures.spells; told = c.upgraded_alike.ensures.told })
