-- What `reduce` finds where it is to solve.
use Rattle.std.specs.Prelude.{ℕ, ◌≡◌, ◌+◌, ◌==◌, Bool, true, false, List, ◌++◌, codes, Result}
use Rattle.net_graph.specs.Graph.{Graph}
use Rattle.net_graph.specs.Network.{length_of}
use Rattle.cert_tree.specs.declared.split.SplitOn.{SplitOn}
use Rattle.cert_tree.specs.Tree.{Tree}
use Rattle.answer_text.specs.Text.{status_word}
use Rattle.graph_reduce.specs.Reduction.{Reduction, lift_of}
use Rattle.reduced_text.specs.Text.{count_line, set_text}
use Rattle.tool_frame.specs.declared.status.AnswerStatus.{AnswerStatus}
use Rattle.tool_frame.specs.Statuses.{search_status}
use Rattle.tool_frame.specs.declared.take.TheConstants.{TEXT_LIMIT}
use Rattle.tool_frame.specs.Outside.{Outside}
use Rattle.tool_frame.specs.Ends.{Print, Ends}
use Rattle.tool_frame.specs.FaultTexts.{text_fault_text, text_fault_status}
use Rattle.tool_frame.specs.FromText.{FromText}
use Rattle.tool_frame.specs.Leaves.{LeavesShelf}
use Rattle.graph_search.specs.Searched.{bound_of}
use Rattle.graph_tools.specs.declared.text_fault.GraphTextFault.{GraphTextFault}
use Rattle.graph_tools.specs.Reading.{ReadsGraph, graph_fault_text, graph_fault_status}
use Rattle.search_rules.specs.Options.{usual_in_graph}
use Rattle.graph_tools.specs.Found.{FindsIn}
use Rattle.graph_tools.specs.declared.lifted.Lifted.{Lifted}
use Rattle.graph_tools.specs.Reduce.{IsReduced, EndsReduce}
use Rattle.graph_tools.specs.Solution.{IsPermittedGraphAnswer}

-- the lines before the edges
abbrev pub head_text : Lifted → List ℕ
head_text l = codes "rst lifted 1\n" ++ count_line (codes "length ") l.length ++ count_line (codes "bound ") l.bound
    ++ codes "status " ++ status_word l.optimal ++ codes "\n"

-- the lines of the edges, whose numbers count from 1, and the last line
abbrev pub edges_text : List Bool → List ℕ
edges_text network = set_text (codes "edges ") network ++ codes "end\n"

-- the text of a lifted network
abbrev pub lifted_text : Lifted → List ℕ
lifted_text l = head_text l ++ edges_text l.network

-- the status that the tool ends with when it is printed
abbrev pub lifted_status : Lifted → AnswerStatus
lifted_status l = search_status l.optimal

-- What is told of a network of the reduced graph and a tree of cuts in it, once the network is lifted: length and
-- bound are longer by the offset, and it is optimal where the bound of the reduced graph is the length there.
abbrev pub lifted_by : Reduction → List Bool → Tree SplitOn → Lifted
lifted_by r network tree = record {
  network = lift_of r network;
  length = length_of r.graph network + r.offset;
  bound = bound_of r.graph network tree + r.offset;
  optimal = bound_of r.graph network tree == length_of r.graph network;
}

-- what is printed of them
abbrev pub lifted_print : Reduction → List Bool → Tree SplitOn → Print
lifted_print r network tree = record {
  text = lifted_text (lifted_by r network tree);
  status = lifted_status (lifted_by r network tree);
}

-- The network is lifted from the network of an answer that may be printed in the graph's reduction where no word asks
-- for anything else.
abbrev pub IsLiftedFor : Graph → Lifted → Type 0
IsLiftedFor g l = (r : Reduction) × (network : List Bool) × (tree : Tree SplitOn) × IsReduced g r
    × IsPermittedGraphAnswer usual_in_graph r.graph network tree × (l ≡ lifted_by r network tree)

-- What `reduce --solve` prints of a text: the network of an answer that may be printed in the reduction of the graph of
-- the STP file that the text is, lifted.
abbrev pub PrintsLifted : Graph → Print → Type 0
PrintsLifted g print = (r : Reduction) × (network : List Bool) × (tree : Tree SplitOn) × IsReduced g r
    × IsPermittedGraphAnswer usual_in_graph r.graph network tree × (print ≡ lifted_print r network tree)

abbrev pub LiftsGraph : List ℕ → Result Print GraphTextFault → Type 0
LiftsGraph = FindsIn ReadsGraph PrintsLifted

-- A run of `reduce --solve`.
abbrev pub EndsReduceSolve : Outside → Outside → ℕ → Type 0
EndsReduceSolve before after status =
    Ends (text_fault_status graph_fault_status) (text_fault_text graph_fault_text) (codes "reduce")
    (FromText TEXT_LIMIT LiftsGraph) LeavesShelf before after status

-- A run of `reduce`, with or without its flag.
abbrev pub EndsReduceAs : Bool → Outside → Outside → ℕ → Type 0
EndsReduceAs true before after status = EndsReduceSolve before after status
EndsReduceAs false before after status = EndsReduce before after status
