-- What a text gives as a Steiner problem around boxes.
use Rattle.std.specs.Prelude.{ℕ, ◌≡◌, List, Result, Ok, Err}
use Rattle.net_graph.specs.Graph.{Graph}
use Rattle.section_text.specs.Judged.{IsFirstFault as IsFirstFaultOfText}
use Rattle.obstacles_in.specs.declared.fault.ObstacleFault.{ObstacleFault}
use Rattle.obstacles_in.specs.Obstacles.{ObstaclesValue}
use Rattle.obstacles_in.specs.Format.{obstacles_format}
use Rattle.obstacles_in.specs.Text.{SpellsObstacles}
use Rattle.obstacles_in.specs.Said.{obstacle_fault_text, obstacle_passes_limit, IsMemory as IsMemoryOfText}
use Rattle.obstacle_grid.specs.declared.fault.ObstacleTaskFault.{ObstacleTaskFault}
use Rattle.obstacle_grid.specs.Grid.{obstacle_graph_of}
use Rattle.obstacle_grid.specs.Fault.{IsTask, IsFirstFault}
use Rattle.obstacle_grid.specs.Said.{task_fault_text, task_passes_limit, IsMemory as IsMemoryOfTask}
use Rattle.tool_frame.specs.declared.status.FaultStatus.{FaultStatus}
use Rattle.tool_frame.specs.FaultTexts.{format_fault_status}
use Rattle.obstacle_tools.specs.declared.text_fault.ObstacleTextFault.{ObstacleTextFault}
use Rattle.obstacle_tools.specs.declared.text_fault.ObstacleTextFault.TheVariants.{InText, InGraph}

-- what is said of a fault
abbrev pub around_fault_text : ObstacleTextFault → List ℕ
around_fault_text (InText fault) = obstacle_fault_text fault
around_fault_text (InGraph fault) = task_fault_text fault

-- the status of a fault
abbrev pub around_fault_status : ObstacleTextFault → FaultStatus
around_fault_status (InText fault) = format_fault_status (obstacle_passes_limit fault)
around_fault_status (InGraph fault) = format_fault_status (task_passes_limit fault)

-- The points and boxes that the bytes spell; or their first fault, which is no want of memory.
abbrev pub ReadsText : List ℕ → Result ObstaclesValue ObstacleFault → Type 0
ReadsText bytes (Ok o) = SpellsObstacles bytes o
ReadsText bytes (Err fault) = IsFirstFaultOfText obstacles_format bytes fault × (IsMemoryOfText fault → ⊥)

-- The points and boxes are a Steiner problem of the suite, and this is its graph; or this is their first fault, and no
-- want of memory.
abbrev pub TakesTask : ObstaclesValue → Result Graph ObstacleTaskFault → Type 0
TakesTask o (Ok g) = IsTask o × (g ≡ obstacle_graph_of o)
TakesTask o (Err fault) = IsFirstFault o fault × (IsMemoryOfTask fault → ⊥)

-- The bytes spell these points and boxes, which are a Steiner problem of the suite.
pub record IsTaskText (bytes : List ℕ) (o : ObstaclesValue) : Type 0 where
  pub text : SpellsObstacles bytes o
  pub task : IsTask o

-- The graph of the points and boxes that the bytes spell; or why they give none.
abbrev pub ReadsAround : List ℕ → Result Graph ObstacleTextFault → Type 0
ReadsAround bytes (Ok g) = (o : ObstaclesValue) × IsTaskText bytes o × (g ≡ obstacle_graph_of o)
ReadsAround bytes (Err (InText fault)) = ReadsText bytes (Err fault)
ReadsAround bytes (Err (InGraph fault)) =
    (o : ObstaclesValue) × SpellsObstacles bytes o × TakesTask o (Err fault)

-- a text that is a Steiner problem around boxes has no fault
abbrev pub AroundHasNoFault : Type 0
AroundHasNoFault = (bytes : List ℕ) (o : ObstaclesValue) (fault : ObstacleTextFault) → IsTaskText bytes o →
    ReadsAround bytes (Err fault) → ⊥
