-- The line of `trial`, and the status that the tool ends with.
use Rattle.std.specs.Prelude.{ℕ, Bool, List, ◌++◌, codes, decimal}
use Rattle.answer_text.specs.Text.{status_word}
use Rattle.tool_frame.specs.declared.status.AnswerStatus.{AnswerStatus}
use Rattle.tool_frame.specs.Statuses.{search_status}
use Rattle.tool_frame.specs.Ends.{Print}
use Rattle.search_tools.specs.declared.trial_line.TrialLine.{TrialLine}

-- what was drawn: how many points, from which seed, and how many of them are distinct
abbrev pub drawing_part : TrialLine → List ℕ
drawing_part t =
    codes "trial " ++ decimal t.count ++ codes " " ++ decimal t.seed ++ codes " points " ++ decimal t.points

-- the word of the answer's status
abbrev pub status_part : Bool → List ℕ
status_part optimal = codes " " ++ status_word optimal

-- what the answer is: its length, its bound, its status and the number of its splits; and that it was accepted
abbrev pub answer_part : TrialLine → List ℕ
answer_part t = codes " length " ++ decimal t.length ++ codes " bound " ++ decimal t.bound ++ status_part t.optimal
    ++ codes " splits " ++ decimal t.splits ++ codes " check accepted\n"

-- the line
abbrev pub trial_text : TrialLine → List ℕ
trial_text t = drawing_part t ++ answer_part t

-- the status: done where the answer is optimal
abbrev pub trial_status : TrialLine → AnswerStatus
trial_status t = search_status t.optimal

-- what is printed
abbrev pub trial_print : TrialLine → Print
trial_print t = record { text = trial_text t; status = trial_status t }
