-- A file of full trees, as an answer of a tool.
use Rattle.std.specs.Prelude.{ℕ, List}
use Rattle.fst_file.specs.Text.{fst_text}
use Rattle.tree_tools.specs.declared.file_answer.FileAnswer.{FileAnswer}

abbrev pub file_text : FileAnswer → List ℕ
file_text answer = fst_text answer.file
