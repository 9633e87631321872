use Rattle.std.specs.Prelude.{ℕ, ◌≡◌, ◌+◌, [], length, Result}
use Rattle.section_text.specs.Faults.{points}
use Rattle.section_text.specs.Left.{JudgesLeft, JudgesPoints}
use Rattle.section_text.proofs.points.read_points.Given as goal

abbrev pub invariant-loop-told : goal.invariant-loop-told
invariant-loop-told g l = record {
  count_is : length l.points ≡ l._told;
  leads : (due : ℕ) → due + l._told ≡ l.count → (o : Result g.row.S-Whole.Denot g.row.S-Fault.Denot)
      → JudgesPoints g.S.SectionFormat.format due l.points l.text o
      → JudgesLeft g.S.SectionFormat.format (points l.count []) l.fn.text o;
}
