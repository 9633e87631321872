use Rattle.std.proofs.Common.{arith}
use Rattle.clap.specs.Words.{app_of, with_rule}
use Rattle.requests.specs.Commands.{choice_rules, with_rules}
use Rattle.requests.proofs.command.searching.Goals as goal

pub returns : goal.returns
returns c =
    grind (arith, with_rule (app_of c.args.command), with_rule, with_rules, choice_rules, c.in_ok-arg.ensures.shape, c.openings.ensures.own, c.openings.ensures.rule, c.in_ok-arg-2.ensures.shape, c.concat.ensures.own, c.concat.ensures.rule, c.choosing.ensures)
