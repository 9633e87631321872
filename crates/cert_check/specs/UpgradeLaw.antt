-- An answer and the same answer in version 2 have the same verdict.
use Rattle.std.specs.Prelude.{ℕ, ◌^◌, ◌≤◌, ◌↔◌, List, length}
use Rattle.points_in.specs.declared.point.Point.{Point}
use Rattle.hanan_grid.specs.Grid.{hanan_grid_of}
use Rattle.answer_text.specs.declared.form.Form.TheVariants as form
use Rattle.answer_text.specs.Value.{WrittenAnswer, upgraded}
use Rattle.answer_text.specs.Text.{answer_text}
use Rattle.answer_text.specs.Spelling.{SpellsAnswer}
use Rattle.cert_check.specs.declared.verdict.Finished.{Finished}
use Rattle.cert_check.specs.Verdicts.{IsVerdict}

-- Bytes that spell an answer, at most 2^28 of them, have the verdict that the text of the same answer in version 2 has,
-- with the same line where it names one, whatever the terminals are.
abbrev pub UpgradingKeepsVerdict : Type 0
UpgradingKeepsVerdict = (ps : List Point) (bytes : List ℕ) (a : WrittenAnswer) (f : Finished) →
    SpellsAnswer (form.OnGrid (hanan_grid_of ps).vertices) bytes a → length bytes ≤ 2 ^ 28 →
    IsVerdict ps bytes f ↔ IsVerdict ps (answer_text (upgraded a)) f
