use Rattle.std.proofs.Common.{subst}
use Rattle.cert_check.specs.Named.{IsNamed}
use Rattle.cert_check.proofs.lemmas.BoundLemmas.{accepted_bound_below}
use Rattle.cert_check.proofs.lemmas.Complete.{complete}
use Rattle.cert_check.proofs.lemmas.OneVerdict.{one_verdict_in}
use Rattle.cert_check.proofs.lemmas.Sound.{AcceptsAs-from_verdict}
use Rattle.cert_check.proofs.lemmas.SubjectNames.{IsNamed-named_of}
use Rattle.cert_check.proofs.checker.Checker.finish.Goals as goal

pub returns-clause-only : goal.returns-clause-only
returns-clause-only c N bytes stands f other =
    let names = subst IsNamed stands.subject (IsNamed-named_of c.args.self.subject) in
    one_verdict_in c.one_reading.ensures N names bytes f c.verdict.result other (c.verdict.ensures.verdict N bytes stands)

pub returns-clause-accepted : goal.returns-clause-accepted
returns-clause-accepted c N bytes stands length bound optimal is =
    AcceptsAs-from_verdict N bytes c.verdict.result length bound optimal (c.verdict.ensures.verdict N bytes stands) is

pub returns-clause-complete : goal.returns-clause-complete
returns-clause-complete c N bytes stands few accepted =
    let names = subst IsNamed stands.subject (IsNamed-named_of c.args.self.subject) in
    complete c.one_reading.ensures N names bytes c.verdict.result (c.verdict.ensures.verdict N bytes stands) few accepted

pub returns-clause-bound : goal.returns-clause-bound
returns-clause-bound c N bytes stands length bound optimal is =
    accepted_bound_below c.tree_bounds_every_network.ensures N bytes c.verdict.result.network length bound optimal
    (AcceptsAs-from_verdict N bytes c.verdict.result length bound optimal (c.verdict.ensures.verdict N bytes stands) is)
