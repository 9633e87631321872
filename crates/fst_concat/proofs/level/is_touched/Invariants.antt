use Rattle.std.proofs.Common.{◌≡◌, drop, map}
use Rattle.std.specs.Prelude.{slice_index}
use Rattle.fst_concat.specs.Levels.{any_label}
use Rattle.fst_concat.proofs.level.is_touched.Given as goal

abbrev pub invariant-loop-member : goal.invariant-loop-member
invariant-loop-member l = any_label l.label (map (slice_index l.labels) l.members)
    ≡ any_label l.label (map (slice_index l.labels) (drop l.member-index l.members))
