-- What is due before a line that was due, and behind it.
use Rattle.std.proofs.Common.{ℕ, suc, ◌≡◌, Some, None, arith}
use Rattle.answer_text.specs.declared.split.SplitName.{SplitName}
use Rattle.answer_text.specs.declared.version.Version.{Version}
use Rattle.answer_text.specs.AnswerLine.{Line}
use Rattle.answer_text.specs.LineKinds as line
use Rattle.answer_text.specs.declared.line.Stage.{Stage}
use Rattle.answer_text.specs.declared.line.Stage.TheVariants as stage
use Rattle.answer_text.specs.Lines.{split_line, split_step, step}

pub step-leaf : (s s' : Stage) (n : ℕ) → step s (line.Leaf n) ≡ Some s' → (nodes : ℕ) × (s ≡ stage.Body 0 (suc nodes)) × (stage.Body n nodes ≡ s')
step-leaf s s' n e = grind arith

-- the line of a split in any version
pub step-split_line : (v : Version) (on : SplitName) (s : Stage) → step s (split_line v on) ≡ split_step s
step-split_line v on s = grind arith

-- nothing is due behind the end
pub step-done : (l : Line) → step stage.Done l ≡ None
step-done l = grind arith
