-- The bounds of a grid's edges, as an answer of a tool.
use Rattle.std.specs.Prelude.{ℕ, ◌≡◌, List, length}
use Rattle.hanan_grid.specs.Grid.{hanan_grid_of}
use Rattle.slack_tools.specs.declared.slack_answer.SlackAnswer.{SlackAnswer}
use Rattle.slack_tools.specs.Text.{slack_text}

-- the text of an answer
abbrev pub answer_text : SlackAnswer → List ℕ
answer_text a = slack_text a.grid a.above a.bounds.items

-- there is a bound for each edge
abbrev pub HasEachBound : SlackAnswer → Type 0
HasEachBound a = length a.bounds.items ≡ length (hanan_grid_of a.grid).edges
