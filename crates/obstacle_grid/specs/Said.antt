-- What is said of the faults of points and boxes as a Steiner problem. None of them passes a limit.
use Rattle.std.specs.Prelude.{ℕ, Bool, false, List, codes}
use Rattle.stp_format.specs.Said.{number_text}
use Rattle.graph_solve.specs.Said.{total_text}
use Rattle.obstacle_grid.specs.declared.fault.ObstacleTaskFault.{ObstacleTaskFault}
use Rattle.obstacle_grid.specs.declared.fault.ObstacleTaskFault.TheVariants.{TooLong, Apart, Memory}

abbrev pub task_fault_text : ObstacleTaskFault → List ℕ
task_fault_text (TooLong total) = total_text total
task_fault_text (Apart place) = number_text (codes "the boxes leave point ") place (codes " apart")
task_fault_text (Memory error) = codes "out of memory"

abbrev pub task_passes_limit : ObstacleTaskFault → Bool
task_passes_limit fault = false

-- want of memory, which is no fault of the points and boxes
abbrev pub IsMemory : ObstacleTaskFault → Type 0
IsMemory (Memory error) = Unit {0}
IsMemory fault = ⊥
