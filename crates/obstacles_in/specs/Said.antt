-- What is said of the faults of a text of points and boxes, and which of them pass a limit.
use Rattle.std.specs.Prelude.{ℕ, Bool, true, false, List, codes}
use Rattle.text_in.specs.Texts.{line_text}
use Rattle.obstacles_in.specs.declared.fault.ObstacleFault.{ObstacleFault}
use Rattle.obstacles_in.specs.declared.fault.ObstacleFault.TheVariants.{BadLine, TooManyPoints, RepeatedPoint}
use Rattle.obstacles_in.specs.declared.fault.ObstacleFault.TheVariants.{TooManyBoxes, BadBox, PointInBox, TooLarge}
use Rattle.obstacles_in.specs.declared.fault.ObstacleFault.TheVariants.{Memory}

abbrev pub obstacle_fault_text : ObstacleFault → List ℕ
obstacle_fault_text (BadLine line) = line_text line (codes " is not in the format")
obstacle_fault_text (TooManyPoints line) = line_text line (codes " asks for more than 50 points")
obstacle_fault_text (RepeatedPoint line) = line_text line (codes " repeats a point")
obstacle_fault_text (TooManyBoxes line) = line_text line (codes " asks for more than 25 boxes")
obstacle_fault_text (BadBox line) = line_text line (codes " is no box")
obstacle_fault_text (PointInBox line) = line_text line (codes " has a point inside")
obstacle_fault_text (TooLarge vertices) = codes "more than 2500 vertices"
obstacle_fault_text (Memory error) = codes "out of memory"

-- the text asks for more than 50 points or more than 25 boxes, or its grid has more than 2,500 vertices
abbrev pub obstacle_passes_limit : ObstacleFault → Bool
obstacle_passes_limit (TooManyPoints line) = true
obstacle_passes_limit (TooManyBoxes line) = true
obstacle_passes_limit (TooLarge vertices) = true
obstacle_passes_limit fault = false

-- want of memory, which is no fault of the bytes
abbrev pub IsMemory : ObstacleFault → Type 0
IsMemory (Memory error) = Unit {0}
IsMemory fault = ⊥
