use Rattle.std.proofs.Common.{ℕ, Bool}
use Rattle.std.proofs.lemmas.Result.{IfOk-weaker}
use Rattle.net_graph.specs.Turned.{Leads-turned}
use Rattle.net_graph.proofs.growth.found_leading_to.Goals as goal

pub returns-clause-leading : goal.returns-clause-leading
returns-clause-leading g c =
    let opens : ℕ → Bool = g.P.Passage.opens c.args.passage.now in
    IfOk-weaker c.found_from.result _ _
    (λ found flags v. (
      λ listed. (Leads-turned c.args.graph.now.edges opens c.args.end v).0 ((flags v).0 listed),
      λ led. (flags v).1 ((Leads-turned c.args.graph.now.edges opens c.args.end v).1 led),
    ))
    c.found_from.ensures.found
