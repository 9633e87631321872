-- Points and boxes have one first fault at most, and none where all allowed edges together join the points.
use Rattle.std.specs.Prelude.{◌≡◌, Result, Ok, Err, IfErr, IfOk, OnOk}
use Rattle.std.proofs.Common.{sym, ap, ◌∙◌, arith}
use Rattle.std.proofs.lemmas.Option.{slice_get_within, get_or_from_slice_get}
use Rattle.net_graph.specs.Graph.{Graph}
use Rattle.graph_solve.specs.Task.{all_edges}
use Rattle.graph_solve.specs.FirstLaws.{one_apart}
use Rattle.obstacles_in.specs.Obstacles.{ObstaclesValue}
use Rattle.obstacle_grid.specs.Fault.{Answers, HasFirstFault, IsFirstFault, IsTask}
use Rattle.obstacle_grid.specs.Grid.{obstacle_graph_of}
use Rattle.obstacle_grid.specs.declared.fault.ObstacleTaskFault.{ObstacleTaskFault}
use Rattle.obstacle_grid.specs.declared.fault.ObstacleTaskFault.TheVariants.{TooLong, Apart, Memory}

module _ (o : ObstaclesValue) where
  one_fault : (f g : ObstacleTaskFault) → HasFirstFault o f → HasFirstFault o g → f ≡ g
  one_fault (TooLong total) (TooLong total') (is, long) (is', long') = ap TooLong (is ∙ sym is')
  one_fault (TooLong total) (Apart place) (is, long) (short, apart) = absurd (omega (arith, is, long, short))
  one_fault (TooLong total) (Memory error) has other = absurd other
  one_fault (Apart place) (TooLong total) (short, apart) (is, long) = absurd (omega (arith, is, long, short))
  one_fault (Apart place) (Apart place') (short, apart) (short', apart') =
      ap Apart (one_apart (obstacle_graph_of o) (all_edges (obstacle_graph_of o)) place place' apart apart')
  one_fault (Apart place) (Memory error) has other = absurd other
  one_fault (Memory error) g has other = absurd has

  no_fault : (f : ObstacleTaskFault) → IsTask o → HasFirstFault o f → ⊥
  no_fault (TooLong total) task (is, long) = (let short = task.total in omega (arith, is, long, short))
  no_fault (Apart place) task (short, apart) =
      grind (
        arith,
        get_or_from_slice_get (obstacle_graph_of o).terminals place (apart.terminal) (apart.terminal) apart.at,
        task.joined place (apart.terminal) (slice_get_within (obstacle_graph_of o).terminals place (apart.terminal) apart.at),
      )
  no_fault (Memory error) task has = has

  module _ (outcome : Result Graph ObstacleTaskFault) where
    answers_err : (fault : ObstacleTaskFault) → IsFirstFault o fault → (HasFirstFault o fault → Err fault ≡ outcome) →
        Answers (Err fault) outcome
    answers_err (TooLong total) first is = is first
    answers_err (Apart place) first is = is first
    answers_err (Memory error) first is = tt

  -- the graph
  pub answers_graph : (r : Result Graph ObstacleTaskFault) → IfOk r (λ g. g ≡ obstacle_graph_of o) →
      IfErr r (IsFirstFault o) → IsTask o → Answers r (Ok (obstacle_graph_of o))
  answers_graph (Ok g) is fault task = ap Ok is
  answers_graph (Err f) is fault task =
      answers_err (Ok (obstacle_graph_of o)) f fault (λ has. absurd (no_fault f task has))

  -- a first fault
  pub answers_fault : (r : Result Graph ObstacleTaskFault) → OnOk r (IsTask o) → IfErr r (IsFirstFault o) →
      (f : ObstacleTaskFault) → HasFirstFault o f → Answers r (Err f)
  answers_fault (Ok g) task fault f has = absurd (no_fault f task has)
  answers_fault (Err e) task fault f has = answers_err (Err f) e fault (λ first. ap Err (one_fault e f first has))
