-- A run of `reduce` that nothing troubles ends with an answer.
use Rattle.std.proofs.Common.{ℕ, Bool, true, false, codes, Some, inl, inr, ap, ◌∙◌}
use Rattle.net_graph.specs.Network.{length_of}
use Rattle.tool_frame.specs.declared.take.TheConstants.{TEXT_LIMIT}
use Rattle.tool_frame.specs.Statuses.{answer_code}
use Rattle.tool_frame.specs.Outside.{Outside}
use Rattle.tool_frame.specs.Ends.{Print}
use Rattle.tool_frame.specs.EndLaws.{complete_ends}
use Rattle.tool_frame.specs.FaultTexts.{text_fault_text, text_fault_status}
use Rattle.tool_frame.specs.FromText.{FromText}
use Rattle.tool_frame.specs.Leaves.{LeavesShelf}
use Rattle.graph_search.specs.Searched.{bound_of}
use Rattle.graph_tools.specs.Reading.{ReadsGraph, TaskHasNoFault, graph_fault_text, graph_fault_status}
use Rattle.graph_tools.specs.FoundLaws.{found_faultless}
use Rattle.graph_tools.specs.Reduce.{EndsReduce, PrintsReduction, ReducesGraph}
use Rattle.graph_tools.specs.Lifted.{EndsReduceAs, EndsReduceSolve, LiftsGraph, PrintsLifted}
use Rattle.requests.specs.Requests.Request.{Reduce}
use Rattle.suite.specs.Complete.{Completes}
use Rattle.suite.proofs.lemmas.Completeness.{zero_or_three}

-- with the flag a run ends as its answer says
solve_completes : TaskHasNoFault → (before after : Outside) (status : ℕ) → EndsReduceSolve before after status →
    Completes (Some (Reduce true)) before after status
solve_completes law before after status ends = λ bytes file has task writes.
    elim (complete_ends (text_fault_status graph_fault_status) (text_fault_text graph_fault_text) (codes "reduce")
    (FromText TEXT_LIMIT LiftsGraph) LeavesShelf before after status
    (found_faultless ReadsGraph PrintsLifted before.read after.read bytes has (λ fault. law bytes file fault task))
    writes ends) [
      | inl seven ↦ inr seven
      | inr (print, (taken, whole, (g, reads, (r, network, tree, reduced, permitted, of_graph))), answers) ↦
          inl (zero_or_three (bound_of r.graph network tree) (length_of r.graph network) status
          (answers ∙ ap (λ (p : Print). answer_code p.status) of_graph))
    ]

-- and without it with status 0
plain_completes : TaskHasNoFault → (before after : Outside) (status : ℕ) → EndsReduce before after status →
    Completes (Some (Reduce false)) before after status
plain_completes law before after status ends = λ bytes file has task writes.
    elim (complete_ends (text_fault_status graph_fault_status) (text_fault_text graph_fault_text) (codes "reduce")
    (FromText TEXT_LIMIT ReducesGraph) LeavesShelf before after status
    (found_faultless ReadsGraph PrintsReduction before.read after.read bytes has (λ fault. law bytes file fault task))
    writes ends) [
      | inl seven ↦ inr seven
      | inr (print, (taken, whole, (g, reads, (r, reduced, of_graph))), answers) ↦
          inl (answers ∙ ap (λ (p : Print). answer_code p.status) of_graph)
    ]

pub reduce_completes : TaskHasNoFault → (solve : Bool) (before after : Outside) (status : ℕ) →
    EndsReduceAs solve before after status → Completes (Some (Reduce solve)) before after status
reduce_completes law true before after status ends = solve_completes law before after status ends
reduce_completes law false before after status ends = plain_completes law before after status ends
