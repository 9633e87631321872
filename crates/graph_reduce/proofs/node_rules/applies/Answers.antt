use Rattle.std.proofs.Common.{arith}
use Rattle.std.proofs.lemmas.Bool.{OnFalse_from}
use Rattle.std.specs.Prelude.{nat_lt}
use Rattle.graph_reduce.proofs.lemmas.NodeRuleLaws.{kind_from, kind_below}
use Rattle.graph_reduce.proofs.node_rules.applies.Goals as goal

pub returns-else-v-node_count-clause-no : goal.returns-else-v-node_count-clause-no
returns-else-v-node_count-clause-no c = OnFalse_from (nat_lt c.args.v c.node_count.result) _ (λ no applies.
    let below = kind_below c.args.work.now c.args.v c.args.rule c.requires.numbered
    (kind_from c.args.work.now c.args.v c.args.rule applies) in
    let bad : ⊥ = omega (arith, c.node_count.ensures, c.if-v-node_count.false) in bad)
