use Rattle.std.proofs.Common.{false, arith}
use Rattle.tree_judge.proofs.lemmas.WaySteps.{StandsOnWay-down, undecided_has_state}
use Rattle.tree_judge.proofs.way.go_outside.Goals as goal

pub go_down-requires-clause-state : goal.go_down-requires-clause-state
go_down-requires-clause-state c =
    grind (arith, undecided_has_state c.args._g.now c.args.way.now.decided c.args.way.now.decided c.args.on c.requires.way.states c.requires.undecided)

pub returns-clause-way : goal.returns-clause-way
returns-clause-way c =
    grind (arith, StandsOnWay-down c.args._g.now (record { on = c.args.on; inside = false }) c.args.way.now c.go_down.new.way c.requires.way c.requires.undecided c.go_down.ensures)
