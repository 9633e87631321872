-- What follows of what `obstacles` printed.
use Rattle.std.proofs.Common.{ℕ, ◌≡◌, Bool, true, false, List, codes, ◌⊎◌, inl, inr, subst, ap, ◌∙◌}
use Rattle.std.proofs.lemmas.Option.{get_or_from_slice_get, slice_get_within}
use Rattle.rst_outside.specs.Sink.{Appended}
use Rattle.obstacles_in.specs.Obstacles.{ObstaclesValue}
use Rattle.obstacle_grid.specs.Crossing.{CrossesNone, NoEdgeCrosses}
use Rattle.obstacle_grid.specs.Grid.{obstacle_graph_of}
use Rattle.obstacle_grid.specs.ReadBack.{ObstaclesAreReadBack}
use Rattle.obstacle_grid.specs.Text.{graph_stp_text}
use Rattle.tool_frame.specs.declared.status.AnswerStatus.{AnswerStatus}
use Rattle.tool_frame.specs.declared.status.AnswerStatus.TheVariants.{Done, Stopped}
use Rattle.tool_frame.specs.declared.take.TheConstants.{TEXT_LIMIT}
use Rattle.tool_frame.specs.Statuses.{answer_code}
use Rattle.tool_frame.specs.Outside.{Outside}
use Rattle.tool_frame.specs.Ends.{Print}
use Rattle.tool_frame.specs.EndLaws.{printed_ends}
use Rattle.tool_frame.specs.FaultTexts.{text_fault_text, text_fault_status}
use Rattle.tool_frame.specs.FromText.{FromText}
use Rattle.tool_frame.specs.Leaves.{LeavesShelf}
use Rattle.search_rules.specs.declared.options.GraphOptions.{GraphOptions}
use Rattle.graph_tools.specs.Truth.{SolvesTruly}
use Rattle.graph_tools.specs.TruthLaws.{solves_truly}
use Rattle.obstacle_tools.specs.Reading.{around_fault_text, around_fault_status}
use Rattle.obstacle_tools.specs.Around.{EndsObstacles, EndsObstaclesSolve, EndsObstaclesStp, SolvesAround, WritesGraph}
use Rattle.obstacle_tools.specs.Truth.{AvoidsBoxes, ObstaclesTruly}

-- a set of edges of the graph crosses no box
avoids_boxes : NoEdgeCrosses → (o : ObstaclesValue) (network : List Bool) → AvoidsBoxes o network
avoids_boxes law o network = λ n e member at.
    let edges = (obstacle_graph_of o).edges in
    subst (CrossesNone o) (get_or_from_slice_get edges n e e at) (law o n e (slice_get_within edges n e at))

-- an answer that was printed, with the status that the run ended with
answer_printed : NoEdgeCrosses → ObstaclesAreReadBack → (options : GraphOptions) (before after : Outside) (status : ℕ)
    (s : AnswerStatus) → status ≡ answer_code s → EndsObstaclesSolve options before after status →
    ObstaclesTruly false options before after status
answer_printed law read options before after status s is ends =
    let (print, (bytes, whole, (g, (o, task, same), (network, tree, permitted, of_graph))), printed) =
    printed_ends (text_fault_status around_fault_status) (text_fault_text around_fault_text) (codes "obstacles")
    (FromText TEXT_LIMIT (SolvesAround options)) LeavesShelf before after status s is ends in
    let solves : SolvesTruly options (obstacle_graph_of o) before after status =
    subst (λ h. SolvesTruly options h before after status) same
    (solves_truly options g network tree before after status permitted
    (subst (λ (p : Print). Appended before.written.out.taken p.text after.written.out.taken) of_graph
    printed.wrote.appended)
    (printed.ends ∙ ap (λ (p : Print). answer_code p.status) of_graph)) in (
      bytes,
      o,
      whole.came,
      task,
      record {
        solves = solves;
        avoids = avoids_boxes law o solves.network;
        stp = read o task.text.value task.task;
      },
    )

-- a graph that was printed
graph_printed : ObstaclesAreReadBack → (options : GraphOptions) (before after : Outside) (status : ℕ)
    (s : AnswerStatus) → status ≡ answer_code s → EndsObstaclesStp before after status →
    ObstaclesTruly true options before after status
graph_printed read options before after status s is ends =
    let (print, (bytes, whole, (g, (o, task, same), of_graph)), printed) =
    printed_ends (text_fault_status around_fault_status) (text_fault_text around_fault_text) (codes "obstacles")
    (FromText TEXT_LIMIT WritesGraph) LeavesShelf before after status s is ends in (
      bytes,
      o,
      whole.came,
      task,
      record {
        ends = printed.ends ∙ ap (λ (p : Print). answer_code p.status) of_graph;
        printed =
            subst (λ h. Appended before.written.out.taken (graph_stp_text h) after.written.out.taken) same
            (subst (λ (p : Print). Appended before.written.out.taken p.text after.written.out.taken) of_graph
            printed.wrote.appended);
        stp = read o task.text.value task.task;
      },
    )

prints_with : NoEdgeCrosses → ObstaclesAreReadBack → (stp : Bool) (options : GraphOptions) (before after : Outside)
    (status : ℕ) (s : AnswerStatus) → status ≡ answer_code s → EndsObstacles stp options before after status →
    ObstaclesTruly stp options before after status
prints_with law read true options before after status s is ends =
    graph_printed read options before after status s is ends
prints_with law read false options before after status s is ends =
    answer_printed law read options before after status s is ends

-- What `obstacles` printed is true.
pub obstacles_truly : NoEdgeCrosses → ObstaclesAreReadBack → (stp : Bool) (options : GraphOptions)
    (before after : Outside) (status : ℕ) → EndsObstacles stp options before after status →
    (status ≡ 0) ⊎ (status ≡ 3) → ObstaclesTruly stp options before after status
obstacles_truly law read stp options before after status ends (inl zero) =
    prints_with law read stp options before after status Done zero ends
obstacles_truly law read stp options before after status ends (inr three) =
    prints_with law read stp options before after status Stopped three ends
