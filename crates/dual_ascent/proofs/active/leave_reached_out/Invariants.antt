use Rattle.std.proofs.Common.{ℕ, ◌-◌, ◌<◌, Contains, get_or, vec_len}
use Rattle.dual_ascent.specs.declared.active.ActiveVertex.{ActiveVertex}
use Rattle.dual_ascent.specs.Growing.{LeavesOut}
use Rattle.dual_ascent.proofs.active.leave_reached_out.Given as goal

abbrev pub invariant-loop-place : goal.invariant-loop-place
invariant-loop-place l =
    LeavesOut (λ a. Contains a.leading.order l.root) l.fn.active.items l.active.items
    × ((k : ℕ) (d : ActiveVertex) → k < l.place → Contains (get_or l.active.items k d).leading.order l.root → ⊥)

abbrev pub decreases-loop-place : goal.decreases-loop-place
decreases-loop-place l = vec_len l.active - l.place
