use Rattle.std.proofs.Common.{arith}
use Rattle.std.proofs.lemmas.Bool.{OnTrue_from, OnFalse_from}
use Rattle.graph_reduce.proofs.lemmas.NodeRuleLaws.{kind_from, suits_from, applies_from}
use Rattle.graph_reduce.proofs.node_rules.applies_at.Goals as goal

pub returns-then-is_of_kind-clause-yes : goal.returns-then-is_of_kind-clause-yes
returns-then-is_of_kind-clause-yes c = grind (arith, OnTrue_from, applies_from)

pub returns-then-is_of_kind-clause-no : goal.returns-then-is_of_kind-clause-no
returns-then-is_of_kind-clause-no c = grind (arith, OnFalse_from, suits_from)

pub returns-else-is_of_kind-clause-no : goal.returns-else-is_of_kind-clause-no
returns-else-is_of_kind-clause-no c = OnFalse_from c.is_of_kind.result _ (λ no applies.
    c.if-is_of_kind.ensures.no (kind_from c.args.work.now c.args.v c.args.rule applies))
