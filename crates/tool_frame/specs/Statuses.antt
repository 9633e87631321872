-- The statuses that the program ends with, as numbers. Those of misuse, of a failed write and of want of memory stand
-- in the code as constants.
use Rattle.std.specs.Prelude.{ℕ, Bool, if◌then◌else◌}
use Rattle.tool_frame.specs.declared.status.AnswerStatus.{AnswerStatus}
use Rattle.tool_frame.specs.declared.status.AnswerStatus.TheVariants.{Done, Refused, Stopped}
use Rattle.tool_frame.specs.declared.status.FaultStatus.{FaultStatus}
use Rattle.tool_frame.specs.declared.status.FaultStatus.TheVariants.{Malformed, Unread, TooLarge}

-- where the whole text of the tool was printed
abbrev pub answer_code : AnswerStatus → ℕ
answer_code Done = 0
answer_code Refused = 1
answer_code Stopped = 3

-- how a search ends whose answer is optimal or isn't
abbrev pub search_status : Bool → AnswerStatus
search_status is_optimal = if is_optimal then Done else Stopped

-- where what was read has a fault
abbrev pub fault_code : FaultStatus → ℕ
fault_code Malformed = 4
fault_code Unread = 5
fault_code TooLarge = 8
