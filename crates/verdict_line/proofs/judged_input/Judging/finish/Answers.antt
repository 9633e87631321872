-- What is found tells the verdict that the checker gives; there is none where too many bytes were fed.
use Rattle.std.proofs.Common.{refl, subst, arith}
use Rattle.verdict_line.specs.Judging.{JudgesBytes}
use Rattle.verdict_line.proofs.judged_input.Judging.finish.Goals as goal

pub returns-in-Some-clause-tells : goal.returns-in-Some-clause-tells
returns-in-Some-clause-tells g c = λ bytes stands.
    subst (λ told. JudgesBytes g.K.About.named bytes
    (record { verdict = told; network = c.finish-finished.result.network }))
    c.in-Some.ensures.ruling
    (record {
      verdict = c.finish-finished.ensures.verdict g.K.About.named bytes stands;
      accepted = c.finish-finished.ensures.accepted g.K.About.named bytes stands;
      complete = c.finish-finished.ensures.complete g.K.About.named bytes stands;
      bound = c.finish-finished.ensures.bound g.K.About.named bytes stands;
    })

pub returns-in-None-clause-tells : goal.returns-in-None-clause-tells
returns-in-None-clause-tells g c = λ bytes stands.
    let many = (c.finish-finished.ensures.too_long g.K.About.named bytes stands).0 c.in-None.ensures.none in
    (refl, omega (arith, many, c.requires))
