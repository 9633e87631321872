-- The status that a tool ends with where it prints what a search found.
use Rattle.std.specs.Prelude.{ℕ, ◌==◌}
use Rattle.tool_frame.specs.declared.status.AnswerStatus.{AnswerStatus}
use Rattle.tool_frame.specs.Statuses.{search_status}
use Rattle.graph_search.specs.declared.solution.Solution.{Solution}

-- the status of an answer
abbrev pub solution_status : {L : Type 0} → Solution L → AnswerStatus
solution_status s = search_status s.answer.head.optimal

-- done where the bound is the length
abbrev pub status_of_bound : ℕ → ℕ → AnswerStatus
status_of_bound bound length = search_status (bound == length)
