use Rattle.std.proofs.Common.{◌≡◌, ◌-◌, ◌++◌, vec_len}
use Rattle.std.specs.Vec.{vec_capacity}
use Rattle.drawn_points.specs.Drawing.{next_points}
use Rattle.drawn_points.proofs.draw.draw_points.Given as goal

-- behind the points drawn so far come the next ones of the generator
abbrev pub invariant-points : goal.invariant-points
invariant-points l = record {
  drawn : l.items.items ++ next_points (l.n - l.counter) l.generator ≡ next_points l.n l.initial.generator;
  len : vec_len l.items ≡ l.counter;
  room : vec_capacity l.items ≡ l.n;
}
