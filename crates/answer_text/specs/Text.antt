-- The text of an answer, in every version (this project's own formats).
use Rattle.std.specs.Prelude.{ℕ, List}
use Rattle.answer_text.specs.Value.{WrittenAnswer}
use Rattle.answer_text.specs.Lines.{answer_lines, lines_text}
pub use Rattle.answer_text.specs.Words.{status_word}

-- the text of its lines
abbrev pub answer_text : WrittenAnswer → List ℕ
answer_text a = lines_text (answer_lines a)
