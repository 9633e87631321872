-- A run of `obstacles` that nothing troubles ends with an answer.
use Rattle.std.proofs.Common.{ℕ, Bool, true, false, codes, Some, inl, inr, ap, ◌∙◌}
use Rattle.net_graph.specs.Network.{length_of}
use Rattle.tool_frame.specs.declared.take.TheConstants.{TEXT_LIMIT}
use Rattle.tool_frame.specs.Statuses.{answer_code}
use Rattle.tool_frame.specs.Outside.{Outside}
use Rattle.tool_frame.specs.Ends.{Print}
use Rattle.tool_frame.specs.EndLaws.{complete_ends}
use Rattle.tool_frame.specs.FaultTexts.{text_fault_text, text_fault_status}
use Rattle.tool_frame.specs.FromText.{FromText}
use Rattle.tool_frame.specs.Leaves.{LeavesShelf}
use Rattle.graph_search.specs.Searched.{bound_of}
use Rattle.graph_tools.specs.FoundLaws.{found_faultless}
use Rattle.graph_tools.specs.Solve.{PrintsAnswer}
use Rattle.obstacle_tools.specs.Reading.{AroundHasNoFault, ReadsAround, around_fault_text, around_fault_status}
use Rattle.obstacle_tools.specs.Around.{EndsObstacles, EndsObstaclesSolve, EndsObstaclesStp, PrintsFile, SolvesAround}
use Rattle.obstacle_tools.specs.Around.{WritesGraph}
use Rattle.search_rules.specs.declared.options.GraphOptions.{GraphOptions}
use Rattle.requests.specs.Requests.Request.{Obstacles}
use Rattle.suite.specs.Complete.{Completes}
use Rattle.suite.proofs.lemmas.Completeness.{zero_or_three}

-- with an answer a run ends as the answer says
answer_completes : AroundHasNoFault → (search : GraphOptions) (before after : Outside) (status : ℕ) →
    EndsObstaclesSolve search before after status →
    Completes (Some (Obstacles false search)) before after status
answer_completes law search before after status ends = λ bytes o has task writes.
    elim (complete_ends (text_fault_status around_fault_status) (text_fault_text around_fault_text) (codes "obstacles")
    (FromText TEXT_LIMIT (SolvesAround search)) LeavesShelf before after status
    (found_faultless ReadsAround (PrintsAnswer search) before.read after.read bytes has
    (λ fault. law bytes o fault task)) writes ends) [
      | inl seven ↦ inr seven
      | inr (print, (taken, whole, (g, reads, (network, tree, permitted, of_graph))), answers) ↦
          inl (zero_or_three (bound_of g network tree) (length_of g network) status
          (answers ∙ ap (λ (p : Print). answer_code p.status) of_graph))
    ]

-- and with the graph with status 0
graph_completes : AroundHasNoFault → (search : GraphOptions) (before after : Outside) (status : ℕ) →
    EndsObstaclesStp before after status → Completes (Some (Obstacles true search)) before after status
graph_completes law search before after status ends = λ bytes o has task writes.
    elim (complete_ends (text_fault_status around_fault_status) (text_fault_text around_fault_text) (codes "obstacles")
    (FromText TEXT_LIMIT WritesGraph) LeavesShelf before after status
    (found_faultless ReadsAround PrintsFile before.read after.read bytes has (λ fault. law bytes o fault task))
    writes ends) [
      | inl seven ↦ inr seven
      | inr (print, (taken, whole, (g, reads, of_graph)), answers) ↦
          inl (answers ∙ ap (λ (p : Print). answer_code p.status) of_graph)
    ]

pub obstacles_completes : AroundHasNoFault → (stp : Bool) (search : GraphOptions) (before after : Outside) (status : ℕ) →
    EndsObstacles stp search before after status → Completes (Some (Obstacles stp search)) before after status
obstacles_completes law true search before after status ends = graph_completes law search before after status ends
obstacles_completes law false search before after status ends = answer_completes law search before after status ends
