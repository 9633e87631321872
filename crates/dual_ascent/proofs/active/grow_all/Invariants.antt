use Rattle.std.proofs.Common.{ℕ, ◌≡◌, ◌<◌, ◌≤◌, get_or}
use Rattle.dual_ascent.specs.declared.active.ActiveVertex.{ActiveVertex}
use Rattle.dual_ascent.specs.Growing.{IsGrown}
use Rattle.dual_ascent.proofs.active.grow_all.Given as goal

abbrev pub invariant-loop-a : goal.invariant-loop-a
invariant-loop-a l =
    ((k : ℕ) (d : ActiveVertex) → k < l.a-index → IsGrown l.g l.costs (get_or l.initial.active k d) (get_or l.active k d))
    × ((k : ℕ) (d : ActiveVertex) → l.a-index ≤ k → get_or l.active k d ≡ get_or l.initial.active k d)
