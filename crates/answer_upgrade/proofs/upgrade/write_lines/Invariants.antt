use Rattle.std.proofs.Common.{◌≡◌, ℕ, List, length, map}
use Rattle.text_out.specs.Gathers.{Gathers}
use Rattle.answer_text.specs.declared.form.Form.TheVariants as form
use Rattle.answer_text.specs.declared.version.Version.{Version}
use Rattle.answer_text.specs.AnswerLine.{Line}
use Rattle.answer_text.specs.LineFits.{FitsLines}
use Rattle.answer_text.specs.Lines.{lines_text}
use Rattle.answer_upgrade.specs.Upgraded.{upgraded_line}
use Rattle.answer_upgrade.proofs.UpgradedLines.{Passed}
use Rattle.answer_upgrade.proofs.upgrade.write_lines.Given as goal

-- the lines that are left are those behind the ones that were written
abbrev pub invariant-lines : goal.invariant-lines
invariant-lines g l = (v : Version) (V : ℕ) (ls : List Line) → FitsLines v (form.OnGrid V) ls → l.bytes ≡ lines_text ls →
    (passed : Passed (form.OnGrid V) ls l.rest)
    × Gathers (g.S.Sink.state l.initial.sink) l.initial.block (lines_text (map upgraded_line passed.done)) (g.S.Sink.state l.sink) l.block

abbrev pub decreases-lines : goal.decreases-lines
decreases-lines g l = length l.rest
