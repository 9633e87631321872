-- What is said of the faults that tools share, and the statuses that they end with.
use Rattle.std.specs.Prelude.{ℕ, Bool, if◌then◌else◌, List, ◌++◌, codes, decimal}
use Rattle.text_in.specs.Texts.{total_text}
use Rattle.tool_frame.specs.declared.status.FaultStatus.{FaultStatus}
use Rattle.tool_frame.specs.declared.status.FaultStatus.TheVariants as ends
use Rattle.tool_frame.specs.declared.take.InputFault.{InputFault}
use Rattle.tool_frame.specs.declared.take.InputFault.TheVariants as input_fault
use Rattle.tool_frame.specs.declared.take.FileFault.{FileFault}
use Rattle.tool_frame.specs.declared.take.FileFault.TheVariants as file_fault
use Rattle.tool_frame.specs.declared.points.ListFault.{ListFault}
use Rattle.tool_frame.specs.declared.points.ListFault.TheVariants as list_fault
use Rattle.tool_frame.specs.declared.points.PointsFault.{PointsFault}
use Rattle.tool_frame.specs.declared.points.PointsFault.TheVariants as points_fault
use Rattle.tool_frame.specs.declared.text_fault.TextFault.{TextFault}
use Rattle.tool_frame.specs.declared.text_fault.TextFault.TheVariants as text_fault

-- what is said of an input or a file with more bytes than are taken
abbrev pub too_long_text : ℕ → List ℕ
too_long_text limit = codes "more than " ++ decimal limit ++ codes " bytes"

-- the input isn't taken whole
abbrev pub input_fault_text : InputFault → List ℕ
input_fault_text input_fault.Unread = codes "cannot read input"
input_fault_text (input_fault.TooLong limit) = too_long_text limit

abbrev pub input_fault_status : InputFault → FaultStatus
input_fault_status input_fault.Unread = ends.Unread
input_fault_status (input_fault.TooLong limit) = ends.TooLarge

-- a file that is to hold what the words say isn't taken whole
abbrev pub file_fault_text : List ℕ → FileFault → List ℕ
file_fault_text content file_fault.Unread = codes "cannot read " ++ content
file_fault_text content (file_fault.TooLong limit) = too_long_text limit

abbrev pub file_fault_status : FileFault → FaultStatus
file_fault_status file_fault.Unread = ends.Unread
file_fault_status (file_fault.TooLong limit) = ends.TooLarge

-- a text gives no grid
abbrev pub list_fault_text : ListFault → List ℕ
list_fault_text (list_fault.BadNumber at) = codes "not a whole number at byte " ++ decimal at
list_fault_text (list_fault.NumberTooLarge at) = codes "number out of range at byte " ++ decimal at
list_fault_text (list_fault.TooManyPoints at) = codes "more than 50 points at byte " ++ decimal at
list_fault_text list_fault.OddCount = codes "a coordinate is missing"
list_fault_text list_fault.NoPoints = codes "no points"
list_fault_text (list_fault.GridTooLong total) = total_text total

abbrev pub list_fault_status : ListFault → FaultStatus
list_fault_status (list_fault.BadNumber at) = ends.Malformed
list_fault_status (list_fault.NumberTooLarge at) = ends.Malformed
list_fault_status (list_fault.TooManyPoints at) = ends.TooLarge
list_fault_status list_fault.OddCount = ends.Malformed
list_fault_status list_fault.NoPoints = ends.Malformed
list_fault_status (list_fault.GridTooLong total) = ends.Malformed

-- a file gives no grid
abbrev pub points_fault_text : PointsFault → List ℕ
points_fault_text (points_fault.File fault) = file_fault_text (codes "the points") fault
points_fault_text (points_fault.List fault) = list_fault_text fault

abbrev pub points_fault_status : PointsFault → FaultStatus
points_fault_status (points_fault.File fault) = file_fault_status fault
points_fault_status (points_fault.List fault) = list_fault_status fault

-- an input isn't taken whole, or its text has a fault
abbrev pub text_fault_text : {F : Type 0} → (F → List ℕ) → TextFault F → List ℕ
text_fault_text text (text_fault.Input fault) = input_fault_text fault
text_fault_text text (text_fault.Text fault) = text fault

abbrev pub text_fault_status : {F : Type 0} → (F → FaultStatus) → TextFault F → FaultStatus
text_fault_status status (text_fault.Input fault) = input_fault_status fault
text_fault_status status (text_fault.Text fault) = status fault

-- a text has a fault, as the crate of its format says it: it passes a limit, or is malformed
abbrev pub format_fault_status : Bool → FaultStatus
format_fault_status passes_limit = if passes_limit then ends.TooLarge else ends.Malformed
