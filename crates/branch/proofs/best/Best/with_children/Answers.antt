-- The shortest one of three networks.
use Rattle.std.proofs.Common.{arith}
use Rattle.branch.proofs.best.Best.with_children.Goals as goal

pub returns-clause-which : goal.returns-clause-which
returns-clause-which c = grind arith

pub returns-clause-outside : goal.returns-clause-outside
returns-clause-outside c =
    grind arith
