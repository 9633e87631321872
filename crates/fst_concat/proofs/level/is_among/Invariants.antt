use Rattle.std.proofs.Common.{◌≡◌, drop}
use Rattle.fst_concat.specs.Levels.{any_label}
use Rattle.fst_concat.proofs.level.is_among.Given as goal

abbrev pub invariant-loop-other : goal.invariant-loop-other
invariant-loop-other l = any_label l.label l.labels ≡ any_label l.label (drop l.other-index l.labels)
