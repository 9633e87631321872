-- What an answer tells: its version, its head, the labels of its network's edges, and its tree of cuts, whose splits
-- are on edges or vertices.
use Rattle.std.specs.Prelude.{List}
use Rattle.answer_text.specs.declared.label.EdgeLabel.{EdgeLabel}
use Rattle.cert_tree.specs.Tree.{Tree}
use Rattle.answer_text.specs.declared.head.AnswerHead.{AnswerHead}
use Rattle.answer_text.specs.declared.split.SplitName.{SplitName}
use Rattle.answer_text.specs.declared.version.Version.{Version}
use Rattle.answer_text.specs.declared.version.Version.TheVariants as version

-- An answer as its text tells it.
pub record WrittenAnswer : Type 0 where
  pub version : Version
  pub head : AnswerHead
  pub edges : List EdgeLabel
  pub tree : Tree SplitName

-- the same value with the version 2 of the texts on a grid
abbrev pub upgraded : WrittenAnswer → WrittenAnswer
upgraded a = record a { version = version.Two }
