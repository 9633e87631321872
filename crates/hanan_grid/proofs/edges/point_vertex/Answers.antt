use Rattle.std.proofs.Common.{arith, length}
use Rattle.std.proofs.lemmas.Nat.{mul-le}
use Rattle.hanan_grid.proofs.edges.point_vertex.Goals as goal

pub overflow_mul-result : goal.overflow_mul-result
overflow_mul-result c =
    omega (arith, mul-le c.place_in.result (length c.args.xs.now) 100 100 (omega arith) (omega arith))

pub overflow_add-result : goal.overflow_add-result
overflow_add-result c =
    omega (arith, mul-le c.place_in.result (length c.args.xs.now) 100 100 (omega arith) (omega arith))
