-- A run of `graph` or `checkgraph` that nothing troubles ends with an answer.
use Rattle.std.proofs.Common.{ℕ, List, codes, Some, Err, inl, inr, subst, ap, ◌∙◌}
use Rattle.net_graph.specs.Network.{length_of}
use Rattle.stp_format.specs.Value.{StpValue}
use Rattle.tool_frame.specs.declared.take.TheConstants.{TEXT_LIMIT}
use Rattle.tool_frame.specs.declared.text_fault.TextFault.TheVariants as text_fault
use Rattle.tool_frame.specs.Statuses.{answer_code}
use Rattle.tool_frame.specs.Outside.{Readable, Outside}
use Rattle.tool_frame.specs.Ends.{Print}
use Rattle.tool_frame.specs.EndLaws.{complete_ends}
use Rattle.tool_frame.specs.FaultTexts.{text_fault_text, text_fault_status}
use Rattle.tool_frame.specs.FromText.{FromText}
use Rattle.tool_frame.specs.Leaves.{LeavesShelf, LeavesFiles}
use Rattle.tool_frame.specs.Complete.{HasInput, HasFile}
use Rattle.tool_frame.specs.TakingLaws.{file_is_taken, input_is_taken, whole_file_is}
use Rattle.graph_search.specs.Searched.{bound_of}
use Rattle.graph_tools.specs.declared.checking.CheckgraphFault.{CheckgraphFault}
use Rattle.graph_tools.specs.declared.checking.CheckgraphFault.TheVariants as checkgraph_fault
use Rattle.graph_tools.specs.declared.checking.TheConstants.{GRAPH_ANSWER_LIMIT}
use Rattle.graph_tools.specs.Reading.{IsTaskText, ReadsGraph, TaskHasNoFault, graph_fault_text, graph_fault_status}
use Rattle.graph_tools.specs.FoundLaws.{found_faultless}
use Rattle.graph_tools.specs.Solve.{EndsGraph, PrintsAnswer, SolvesGraph}
use Rattle.graph_tools.specs.Check.{ChecksGraph, EndsCheckgraph, checkgraph_fault_text, checkgraph_fault_status}
use Rattle.search_rules.specs.declared.options.GraphOptions.{GraphOptions}
use Rattle.requests.specs.Requests.Request.{Graph, Checkgraph}
use Rattle.suite.specs.Complete.{Completes}
use Rattle.suite.proofs.lemmas.Completeness.{zero_or_one, zero_or_three}

pub network_completes : TaskHasNoFault → (options : GraphOptions) (before after : Outside) (status : ℕ) →
    EndsGraph options before after status → Completes (Some (Graph options)) before after status
network_completes law options before after status ends = λ bytes file has task writes.
    elim (complete_ends (text_fault_status graph_fault_status) (text_fault_text graph_fault_text) (codes "graph")
    (FromText TEXT_LIMIT (SolvesGraph options)) LeavesShelf before after status
    (found_faultless ReadsGraph (PrintsAnswer options) before.read after.read bytes has
    (λ fault. law bytes file fault task)) writes ends) [
      | inl seven ↦ inr seven
      | inr (print, (taken, whole, (g, reads, (network, tree, permitted, of_graph))), answers) ↦
          inl (zero_or_three (bound_of g network tree) (length_of g network) status
          (answers ∙ ap (λ (p : Print). answer_code p.status) of_graph))
    ]

-- a file that is a Steiner problem and an input within the limit have none
checkgraph_faultless : TaskHasNoFault → (name : List ℕ) (before after : Readable) (text bytes : List ℕ)
    (file : StpValue) → HasFile TEXT_LIMIT before.shelf after.shelf name text → IsTaskText text file →
    HasInput GRAPH_ANSWER_LIMIT before.input after.input bytes → (fault : CheckgraphFault) →
    ChecksGraph name before after (Err fault) → ⊥
checkgraph_faultless law name before after text bytes file has task input (checkgraph_fault.File fault) (is, same) =
    file_is_taken TEXT_LIMIT before.shelf after.shelf name text fault has is
checkgraph_faultless law name before after text bytes file has task input (checkgraph_fault.Graph fault)
    ((taken, whole, is), same) =
    law text file fault task
    (subst (λ b. ReadsGraph b (Err fault))
    (whole_file_is TEXT_LIMIT before.shelf after.shelf name text taken has whole) is)
checkgraph_faultless law name before after text bytes file has task input (checkgraph_fault.Input fault) (other, is) =
    input_is_taken GRAPH_ANSWER_LIMIT before.input after.input bytes fault input is

pub checkgraph_completes : TaskHasNoFault → (name : List ℕ) (before after : Outside) (status : ℕ) →
    EndsCheckgraph name before after status → Completes (Some (Checkgraph name)) before after status
checkgraph_completes law name before after status ends = λ text bytes file has task input writes.
    elim (complete_ends checkgraph_fault_status checkgraph_fault_text (codes "checkgraph") (ChecksGraph name)
    LeavesFiles before after status
    (checkgraph_faultless law name before.read after.read text bytes file has task input) writes ends.ends) [
      | inl seven ↦ inr seven
      | inr (print, (other, taken, f, ruling, checked, tells, of_line), answers) ↦
          inl (zero_or_one ruling status (answers ∙ ap (λ (p : Print). answer_code p.status) of_line))
    ]
