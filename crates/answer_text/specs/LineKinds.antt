-- The kinds of lines of an answer, each by its name.
pub use Rattle.answer_text.specs.AnswerLine.Line.{Title, Length, Bound, Status, Openings, LastOpenings, Concat, Count}
pub use Rattle.answer_text.specs.AnswerLine.Line.{Edge, Tree, Split, SplitEdge, SplitVertex, Leaf, Cut, End}
