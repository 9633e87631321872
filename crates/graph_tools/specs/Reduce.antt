-- What `reduce` finds, by what it read.
use Rattle.std.specs.Prelude.{ℕ, ◌≡◌, List, codes, Result}
use Rattle.net_graph.specs.Graph.{Graph}
use Rattle.graph_reduce.specs.Fitness.{IsFitFor}
use Rattle.graph_reduce.specs.Lifting.{KeepsNetworks}
use Rattle.graph_reduce.specs.OneReduction.{IsOnlyReductionOf}
use Rattle.graph_reduce.specs.Reduction.{Reduction, IsReductionOf}
use Rattle.reduced_text.specs.Text.{reduced_text}
use Rattle.tool_frame.specs.declared.status.AnswerStatus.TheVariants.{Done}
use Rattle.tool_frame.specs.declared.take.TheConstants.{TEXT_LIMIT}
use Rattle.tool_frame.specs.Outside.{Outside}
use Rattle.tool_frame.specs.Ends.{Print, Ends}
use Rattle.tool_frame.specs.FaultTexts.{text_fault_text, text_fault_status}
use Rattle.tool_frame.specs.FromText.{FromText}
use Rattle.tool_frame.specs.Leaves.{LeavesShelf}
use Rattle.graph_tools.specs.declared.text_fault.GraphTextFault.{GraphTextFault}
use Rattle.graph_tools.specs.Reading.{ReadsGraph, graph_fault_text, graph_fault_status}
use Rattle.graph_tools.specs.declared.reduction.GraphReduction.{GraphReduction}
use Rattle.graph_tools.specs.Found.{FindsIn}

-- This is the reduction of the graph, and the only one; it is a graph again, and its networks lift.
pub record IsReduced (g : Graph) (r : Reduction) : Type 0 where
  pub reduction : IsReductionOf g r
  pub only : IsOnlyReductionOf g r
  pub fits : IsFitFor g r
  pub networks : KeepsNetworks g r

-- the text of a reduction
abbrev pub reduction_text : GraphReduction → List ℕ
reduction_text found = reduced_text found.reduced

-- what is printed of a reduction
abbrev pub reduction_print : Reduction → Print
reduction_print r = record { text = reduced_text r; status = Done }

-- What `reduce` prints of a text: the reduction of the graph of the STP file that the text is.
abbrev pub PrintsReduction : Graph → Print → Type 0
PrintsReduction g print = (r : Reduction) × IsReduced g r × (print ≡ reduction_print r)

abbrev pub ReducesGraph : List ℕ → Result Print GraphTextFault → Type 0
ReducesGraph = FindsIn ReadsGraph PrintsReduction

-- A run of `reduce`.
abbrev pub EndsReduce : Outside → Outside → ℕ → Type 0
EndsReduce before after status =
    Ends (text_fault_status graph_fault_status) (text_fault_text graph_fault_text) (codes "reduce")
    (FromText TEXT_LIMIT ReducesGraph) LeavesShelf before after status
