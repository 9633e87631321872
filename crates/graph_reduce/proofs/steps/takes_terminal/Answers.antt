use Rattle.std.proofs.Common.{arith}
use Rattle.graph_reduce.specs.declared.node_rules.NodeRule.TheVariants.{TerminalLeaf}
use Rattle.graph_reduce.proofs.lemmas.Bounds.{reached_numbered}
use Rattle.graph_reduce.proofs.lemmas.Renewing.{due_terminals}
use Rattle.graph_reduce.proofs.steps.takes_terminal.Goals as goal

pub lowest-requires-clause-numbered : goal.lowest-requires-clause-numbered
lowest-requires-clause-numbered c = reached_numbered c.args.work.now c.requires.reached

pub lowest-requires-clause-due : goal.lowest-requires-clause-due
lowest-requires-clause-due c = c.requires.index.all TerminalLeaf

pub returns-in-None-clause-index : goal.returns-in-None-clause-index
returns-in-None-clause-index c =
    grind (arith, due_terminals c.args.work.now c.args.due.now c.lowest.new.due c.requires.index.all c.lowest.ensures.due)

pub force_at-requires-clause-index : goal.force_at-requires-clause-index
force_at-requires-clause-index c =
    grind (arith, due_terminals c.args.work.now c.args.due.now c.lowest.new.due c.requires.index.all c.lowest.ensures.due)
