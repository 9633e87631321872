use Rattle.std.proofs.Common.{◌≡◌, map, take}
use Rattle.dual_ascent.specs.Active.{candidate_of}
use Rattle.dual_ascent.proofs.active.list_candidates.Given as goal

abbrev pub invariant-loop-a : goal.invariant-loop-a
invariant-loop-a l = l.list.items ≡ map candidate_of (take l.a-index l.active)
