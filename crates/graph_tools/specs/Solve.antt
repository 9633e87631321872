-- What `graph` finds, by what it read.
use Rattle.std.specs.Prelude.{ℕ, ◌≡◌, Bool, List, codes, Result}
use Rattle.net_graph.specs.Graph.{Graph}
use Rattle.cert_tree.specs.declared.split.SplitOn.{SplitOn}
use Rattle.cert_tree.specs.Tree.{Tree}
use Rattle.tool_frame.specs.declared.take.TheConstants.{TEXT_LIMIT}
use Rattle.tool_frame.specs.Outside.{Outside}
use Rattle.tool_frame.specs.Ends.{Print, Ends}
use Rattle.tool_frame.specs.FaultTexts.{text_fault_text, text_fault_status}
use Rattle.tool_frame.specs.FromText.{FromText}
use Rattle.tool_frame.specs.Leaves.{LeavesShelf}
use Rattle.search_rules.specs.declared.options.GraphOptions.{GraphOptions}
use Rattle.graph_tools.specs.declared.text_fault.GraphTextFault.{GraphTextFault}
use Rattle.graph_tools.specs.Reading.{ReadsGraph, graph_fault_text, graph_fault_status}
use Rattle.graph_tools.specs.Found.{FindsIn}
use Rattle.graph_tools.specs.Solution.{IsPermittedGraphAnswer, graph_print}

-- What is printed of a network and a tree of cuts in a graph: an answer that may be printed there under these options.
abbrev pub PrintsAnswer : GraphOptions → Graph → Print → Type 0
PrintsAnswer options g print =
    (network : List Bool) × (tree : Tree SplitOn) × IsPermittedGraphAnswer options g network tree
    × (print ≡ graph_print options.openings g network tree)

-- What `graph` prints of a text: an answer in the graph of the STP file that it is; or why it gives no Steiner problem.
abbrev pub SolvesGraph : GraphOptions → List ℕ → Result Print GraphTextFault → Type 0
SolvesGraph options = FindsIn ReadsGraph (PrintsAnswer options)

-- A run of `graph` under these options.
abbrev pub EndsGraph : GraphOptions → Outside → Outside → ℕ → Type 0
EndsGraph options before after status =
    Ends (text_fault_status graph_fault_status) (text_fault_text graph_fault_text) (codes "graph")
    (FromText TEXT_LIMIT (SolvesGraph options)) LeavesShelf before after status
