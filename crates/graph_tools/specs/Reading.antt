-- What a text gives as a Steiner problem in a graph.
use Rattle.std.specs.Prelude.{ℕ, ◌≡◌, List, Result, Ok, Err}
use Rattle.net_graph.specs.Graph.{Graph}
use Rattle.stp_format.specs.declared.fault.StpFault.{StpFault}
use Rattle.stp_format.specs.Value.{StpValue}
use Rattle.stp_format.specs.Reading.{stp_of}
use Rattle.stp_format.specs.Said.{stp_fault_text, stp_passes_limit, IsMemory as IsMemoryOfFile}
use Rattle.graph_solve.specs.declared.fault.TaskFault.{TaskFault}
use Rattle.graph_solve.specs.Task.{graph_of_stp}
use Rattle.graph_solve.specs.Fault.{IsTask, IsFirstFault}
use Rattle.graph_solve.specs.Said.{task_fault_text, task_passes_limit, IsMemory as IsMemoryOfTask}
use Rattle.tool_frame.specs.declared.status.FaultStatus.{FaultStatus}
use Rattle.tool_frame.specs.FaultTexts.{format_fault_status}
use Rattle.graph_tools.specs.declared.text_fault.GraphTextFault.{GraphTextFault}
use Rattle.graph_tools.specs.declared.text_fault.GraphTextFault.TheVariants.{InFile, InGraph}

-- what is said of a fault
abbrev pub graph_fault_text : GraphTextFault → List ℕ
graph_fault_text (InFile fault) = stp_fault_text fault
graph_fault_text (InGraph fault) = task_fault_text fault

-- the status of a fault
abbrev pub graph_fault_status : GraphTextFault → FaultStatus
graph_fault_status (InFile fault) = format_fault_status (stp_passes_limit fault)
graph_fault_status (InGraph fault) = format_fault_status (task_passes_limit fault)

-- this is what the bytes come to as an STP file, and no want of memory
abbrev pub ReadsFile : List ℕ → Result StpValue StpFault → Type 0
ReadsFile bytes (Ok file) = stp_of bytes ≡ Ok file
ReadsFile bytes (Err fault) = (stp_of bytes ≡ Err fault) × (IsMemoryOfFile fault → ⊥)

-- The file is a Steiner problem of the suite, and this is its graph; or this is its first fault, and no want of memory.
abbrev pub TakesTask : StpValue → Result Graph TaskFault → Type 0
TakesTask file (Ok g) = IsTask file × (g ≡ graph_of_stp file)
TakesTask file (Err fault) = IsFirstFault file fault × (IsMemoryOfTask fault → ⊥)

-- The bytes are this STP file, which is a Steiner problem of the suite.
pub record IsTaskText (bytes : List ℕ) (file : StpValue) : Type 0 where
  pub text : stp_of bytes ≡ Ok file
  pub task : IsTask file

-- The graph of the STP file that the bytes are; or why they give none.
abbrev pub ReadsGraph : List ℕ → Result Graph GraphTextFault → Type 0
ReadsGraph bytes (Ok g) = (file : StpValue) × IsTaskText bytes file × (g ≡ graph_of_stp file)
ReadsGraph bytes (Err (InFile fault)) = ReadsFile bytes (Err fault)
ReadsGraph bytes (Err (InGraph fault)) =
    (file : StpValue) × (stp_of bytes ≡ Ok file) × TakesTask file (Err fault)

-- a text that is a Steiner problem has no fault
abbrev pub TaskHasNoFault : Type 0
TaskHasNoFault = (bytes : List ℕ) (file : StpValue) (fault : GraphTextFault) → IsTaskText bytes file →
    ReadsGraph bytes (Err fault) → ⊥
