-- What is said of the faults of a file as a Steiner problem, and which of them pass a limit.
use Rattle.std.specs.Prelude.{ℕ, Bool, true, false, List, ◌++◌, codes, decimal}
use Rattle.stp_format.specs.Said.{number_text}
use Rattle.graph_solve.specs.declared.fault.TaskFault.{TaskFault}
use Rattle.graph_solve.specs.declared.fault.TaskFault.TheVariants.{TooManyNodes, TooManyEdges, TooManyTerminals}
use Rattle.graph_solve.specs.declared.fault.TaskFault.TheVariants.{NoTerminals, ZeroLength, TooLong, Apart, Memory}

-- what is said of the lengths' sum, which is too great
abbrev pub total_text : ℕ → List ℕ
total_text total = codes "the graph is too long: " ++ decimal total

abbrev pub task_fault_text : TaskFault → List ℕ
task_fault_text TooManyNodes = codes "more than 2500 nodes"
task_fault_text TooManyEdges = codes "more than 4900 edges"
task_fault_text TooManyTerminals = codes "more than 255 terminals"
task_fault_text NoTerminals = codes "no terminals"
task_fault_text (ZeroLength number) = number_text (codes "edge ") number (codes " has no length")
task_fault_text (TooLong total) = total_text total
task_fault_text (Apart node) = number_text (codes "the edges leave node ") node (codes " apart")
task_fault_text (Memory error) = codes "out of memory"

-- the file has too many nodes, edges or terminals
abbrev pub task_passes_limit : TaskFault → Bool
task_passes_limit TooManyNodes = true
task_passes_limit TooManyEdges = true
task_passes_limit TooManyTerminals = true
task_passes_limit fault = false

-- want of memory, which is no fault of the file
abbrev pub IsMemory : TaskFault → Type 0
IsMemory (Memory error) = Unit {0}
IsMemory fault = ⊥
