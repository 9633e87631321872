-- Which of the two words stops the reader.
use Rattle.std.proofs.Common.{arith}
use Rattle.std.proofs.lemmas.Result.{err_from_is_err_and}
use Rattle.points_in.proofs.lemmas.Steps.{stops_at_x, stops_at_y}
use Rattle.points_in.proofs.read.next_point.Goals as goal

pub returns-in_err-x : goal.returns-in_err-x
returns-in_err-x c = grind (arith, err_from_is_err_and c.from_residual.result c.from_residual.ensures.1, stops_at_x)

pub returns-in_err-y : goal.returns-in_err-y
returns-in_err-y c =
    grind (arith, err_from_is_err_and c.from_residual-in_err-y.result c.from_residual-in_err-y.ensures.1, stops_at_y)
