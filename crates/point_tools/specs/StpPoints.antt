-- What `stp2points` finds, by what it read.
use Rattle.std.specs.Prelude.{ℕ, ◌≡◌, List, codes, Result, Ok, Err}
use Rattle.points_in.specs.declared.point.Point.{Point}
use Rattle.stp_format.specs.declared.fault.StpFault.{StpFault}
use Rattle.stp_format.specs.Sections.{◌>>=◌}
use Rattle.stp_format.specs.Reading.{stp_of}
use Rattle.stp_format.specs.Located.{terminal_points}
use Rattle.stp_format.specs.Said.{stp_fault_text, stp_passes_limit, IsMemory}
use Rattle.tool_frame.specs.declared.take.TheConstants.{TEXT_LIMIT}
use Rattle.tool_frame.specs.declared.status.FaultStatus.{FaultStatus}
use Rattle.tool_frame.specs.Outside.{Outside}
use Rattle.tool_frame.specs.Ends.{Print, Ends}
use Rattle.tool_frame.specs.FaultTexts.{text_fault_text, text_fault_status, format_fault_status}
use Rattle.tool_frame.specs.FromText.{FromText}
use Rattle.tool_frame.specs.Leaves.{LeavesShelf}
use Rattle.point_tools.specs.Points.{points_print}

-- The distinct points of the terminals of the STP file that the bytes are, in their order; or the first fault of
-- the bytes, or else of the file.
abbrev pub stp_points_of : List ℕ → Result (List Point) StpFault
stp_points_of bytes = stp_of bytes >>= terminal_points

-- this is what the bytes give, and no want of memory
abbrev pub LocatesPoints : List ℕ → Result (List Point) StpFault → Type 0
LocatesPoints bytes (Ok points) = stp_points_of bytes ≡ Ok points
LocatesPoints bytes (Err fault) = (stp_points_of bytes ≡ Err fault) × (IsMemory fault → ⊥)

-- the status that a fault of theirs ends with
abbrev pub stp_fault_status : StpFault → FaultStatus
stp_fault_status fault = format_fault_status (stp_passes_limit fault)

-- What `stp2points` finds in a text: its points, one a line; or why there are none.
abbrev pub PrintsLocated : List ℕ → Result Print StpFault → Type 0
PrintsLocated bytes (Ok print) = (points : List Point) × LocatesPoints bytes (Ok points) × (print ≡ points_print points)
PrintsLocated bytes (Err fault) = LocatesPoints bytes (Err fault)

-- bytes that give points have no fault
abbrev pub LocatedHasNoFault : Type 0
LocatedHasNoFault =
    (bytes : List ℕ) (points : List Point) (fault : StpFault) → LocatesPoints bytes (Ok points) →
    LocatesPoints bytes (Err fault) → ⊥

-- A run of `stp2points`.
abbrev pub EndsStp2points : Outside → Outside → ℕ → Type 0
EndsStp2points before after status =
    Ends (text_fault_status stp_fault_status) (text_fault_text stp_fault_text) (codes "stp2points")
    (FromText TEXT_LIMIT PrintsLocated)
    LeavesShelf before after status
