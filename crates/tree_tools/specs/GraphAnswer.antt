-- The grid of a file's points, as an answer of a tool.
use Rattle.std.specs.Prelude.{ℕ, List}
use Rattle.printed_texts.specs.Grid.{grid_stp_text}
use Rattle.tree_tools.specs.declared.graph_answer.GraphAnswer.{GraphAnswer}

abbrev pub graph_answer_text : GraphAnswer → List ℕ
graph_answer_text answer = grid_stp_text answer.file.points
