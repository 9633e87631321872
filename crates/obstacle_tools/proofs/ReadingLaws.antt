-- What readers of a text and takers of a task answer is what these come to, and a Steiner problem has no fault.
use Rattle.std.proofs.Common.{ℕ, ◌≡◌, List, Result, Ok, Err, IfOk, IfErr, OnOk}
use Rattle.std.proofs.Common.{sym, subst, arith}
use Rattle.lists.specs.ListLaws.{All-at}
use Rattle.net_graph.specs.Graph.{Graph}
use Rattle.net_graph.specs.Network.{Reaches}
use Rattle.section_text.specs.Judged.{IsFirstFault as IsFirstFaultOfText}
use Rattle.section_text.specs.Laws.{OneOutcome, ValuesAreSpelled, no_fault as no_fault_of_text, one_value}
use Rattle.obstacles_in.specs.declared.fault.ObstacleFault.{ObstacleFault}
use Rattle.obstacles_in.specs.Obstacles.{ObstaclesValue}
use Rattle.obstacles_in.specs.Format.{obstacles_format}
use Rattle.obstacles_in.specs.Text.{SpellsObstacles}
use Rattle.obstacles_in.specs.TextLaws.{obstacles_spelled}
use Rattle.obstacles_in.specs.Said.{IsMemory as IsMemoryOfText}
use Rattle.obstacle_grid.specs.declared.fault.ObstacleTaskFault.{ObstacleTaskFault}
use Rattle.obstacle_grid.specs.declared.fault.ObstacleTaskFault.TheVariants as task
use Rattle.obstacle_grid.specs.Grid.{obstacle_graph_of}
use Rattle.obstacle_grid.specs.Fault.{IsTask, IsFirstFault}
use Rattle.obstacle_grid.specs.Said.{IsMemory as IsMemoryOfTask}
use Rattle.graph_solve.specs.Task.{all_edges}
use Rattle.tool_frame.specs.declared.stop.Stop.{Stop}
use Rattle.tool_frame.specs.declared.stop.Stop.TheVariants.{Fault, Memory}
use Rattle.tool_frame.specs.Stops.{IfFound}
use Rattle.obstacle_tools.specs.declared.text_fault.ObstacleTextFault.TheVariants.{InText, InGraph}
use Rattle.obstacle_tools.specs.Reading.{ReadsText, TakesTask, AroundHasNoFault}

-- an answer of the reader that is no want of memory
pub text_apart : (bytes : List ℕ) (read : Result ObstaclesValue ObstacleFault)
    (found : Result ObstaclesValue (Stop ObstacleFault)) → IfOk read (SpellsObstacles bytes) →
    IfErr read (IsFirstFaultOfText obstacles_format bytes) → IfFound found (λ r. r ≡ read) →
    IfFound found (λ r. IfErr r (λ fault. IsMemoryOfText fault → ⊥)) → IfFound found (ReadsText bytes)
text_apart bytes read (Ok o) spelled fault same told = subst (λ r. IfOk r (SpellsObstacles bytes)) (sym same) spelled
text_apart bytes read (Err (Fault why)) spelled fault same told =
    (subst (λ r. IfErr r (IsFirstFaultOfText obstacles_format bytes)) (sym same) fault, told)
text_apart bytes read (Err (Memory error)) spelled fault same told = tt

-- the same of the graph of points and boxes
pub task_apart : (o : ObstaclesValue) (read : Result Graph ObstacleTaskFault)
    (found : Result Graph (Stop ObstacleTaskFault)) → IfOk read (λ g. g ≡ obstacle_graph_of o) →
    OnOk read (IsTask o) → IfErr read (IsFirstFault o) → IfFound found (λ r. r ≡ read) →
    IfFound found (λ r. IfErr r (λ fault. IsMemoryOfTask fault → ⊥)) → IfFound found (TakesTask o)
task_apart o read (Ok g) graph is fault same told =
    (subst (λ r. OnOk r (IsTask o)) (sym same) is, subst (λ r. IfOk r (λ h. h ≡ obstacle_graph_of o)) (sym same) graph)
task_apart o read (Err (Fault why)) graph is fault same told =
    (subst (λ r. IfErr r (IsFirstFault o)) (sym same) fault, told)
task_apart o read (Err (Memory error)) graph is fault same told = tt

-- a Steiner problem has no first fault
task_faultless : (o : ObstaclesValue) (fault : ObstacleTaskFault) → IsTask o → IsFirstFault o fault →
    (IsMemoryOfTask fault → ⊥) → ⊥
task_faultless o (task.TooLong total) is (same, long) told =
    let short = is.total in omega (arith, short, same, long)
task_faultless o (task.Apart place) is (short, apart) told =
    let g = obstacle_graph_of o in
    apart.apart (All-at (Reaches g (all_edges g)) g.terminals place apart.terminal is.joined apart.at)
task_faultless o (task.Memory error) is fault told = told tt

-- and its text has none
module _ (one : OneOutcome obstacles_format) (spelled : ValuesAreSpelled obstacles_format) where
  pub no_fault : AroundHasNoFault
  no_fault bytes o (InText fault) is (first, told) =
      no_fault_of_text obstacles_format one spelled bytes o fault (obstacles_spelled bytes o is.text) (first told)
  no_fault bytes o (InGraph fault) is (other, text, (first, told)) =
      let same : other ≡ o =
      one_value obstacles_format one spelled bytes other o (obstacles_spelled bytes other text)
      (obstacles_spelled bytes o is.text) in
      task_faultless o fault is.task (subst (λ v. IsFirstFault v fault) same first) told
