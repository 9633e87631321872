-- What `checkgraph` finds, by what it read.
use Rattle.std.specs.Prelude.{ℕ, ◌≡◌, List, codes, Result, Ok, Err}
use Rattle.rst_outside.specs.Shelf.{ShelfState}
use Rattle.net_graph.specs.Graph.{Graph}
use Rattle.stp_format.specs.Value.{StpValue}
use Rattle.cert_check.specs.declared.verdict.Finished.{Finished}
use Rattle.cert_check.specs.declared.verdict.Ruling.{Ruling}
use Rattle.cert_check.specs.Named.{in_graph}
use Rattle.cert_check.specs.Rulings.{verdict_of}
use Rattle.graph_solve.specs.Task.{graph_of_stp}
use Rattle.tool_frame.specs.declared.status.FaultStatus.{FaultStatus}
use Rattle.tool_frame.specs.declared.status.TheConstants.{NO_MEMORY}
use Rattle.tool_frame.specs.declared.take.TheConstants.{TEXT_LIMIT}
use Rattle.tool_frame.specs.Outside.{Readable, Outside}
use Rattle.tool_frame.specs.Ends.{Print, Ends}
use Rattle.tool_frame.specs.Leaves.{LeavesFiles}
use Rattle.tool_frame.specs.FaultTexts.{file_fault_text, file_fault_status, input_fault_text, input_fault_status}
use Rattle.tool_frame.specs.Taking.{IsFileFault, IsInputFault, IsWholeFile, IsWholeInput}
use Rattle.verdict_line.specs.declared.counting.Counting.TheVariants.{FromOne}
use Rattle.verdict_line.specs.Judging.{JudgesBytes}
use Rattle.verdict_line.specs.Verdicts.{line_print}
use Rattle.graph_tools.specs.declared.text_fault.GraphTextFault.{GraphTextFault}
use Rattle.graph_tools.specs.Reading.{IsTaskText, ReadsGraph, graph_fault_text, graph_fault_status}
use Rattle.graph_tools.specs.declared.checking.CheckgraphFault.{CheckgraphFault}
use Rattle.graph_tools.specs.declared.checking.CheckgraphFault.TheVariants.{File, Graph as OfGraph, Input}
use Rattle.graph_tools.specs.declared.checking.TheConstants.{GRAPH_ANSWER_LIMIT}

-- what is said of a fault
abbrev pub checkgraph_fault_text : CheckgraphFault → List ℕ
checkgraph_fault_text (File fault) = file_fault_text (codes "the graph") fault
checkgraph_fault_text (OfGraph fault) = graph_fault_text fault
checkgraph_fault_text (Input fault) = input_fault_text fault

-- the status of a fault
abbrev pub checkgraph_fault_status : CheckgraphFault → FaultStatus
checkgraph_fault_status (File fault) = file_fault_status fault
checkgraph_fault_status (OfGraph fault) = graph_fault_status fault
checkgraph_fault_status (Input fault) = input_fault_status fault

-- the file of this name is this STP file, which is a Steiner problem of the suite
abbrev pub FileIsTask : ShelfState → List ℕ → StpValue → Type 0
FileIsTask shelf name file =
    (bytes : List ℕ) × IsWholeFile TEXT_LIMIT shelf name bytes × IsTaskText bytes file

-- Why the file of this name gives no Steiner problem.
abbrev pub IsGraphFileFault : ShelfState → List ℕ → GraphTextFault → Type 0
IsGraphFileFault shelf name fault =
    (bytes : List ℕ) × IsWholeFile TEXT_LIMIT shelf name bytes × ReadsGraph bytes (Err fault)

-- Why an answer isn't judged, under the name of an STP file: the file isn't taken whole, or gives no Steiner problem,
-- and the input is as before; or the input isn't read to its end.
abbrev pub IsCheckgraphFault : List ℕ → Readable → Readable → CheckgraphFault → Type 0
IsCheckgraphFault name before after (File fault) =
    IsFileFault TEXT_LIMIT before.shelf after.shelf name fault × (after.input ≡ before.input)
IsCheckgraphFault name before after (OfGraph fault) =
    IsGraphFileFault before.shelf name fault × (after.input ≡ before.input)
IsCheckgraphFault name before after (Input fault) =
    ((file : StpValue) × FileIsTask before.shelf name file)
    × IsInputFault GRAPH_ANSWER_LIMIT before.input after.input fault

-- The file is this Steiner problem, the input was read to its end, and this is the verdict on its bytes as an answer in
-- the file's graph.
pub record IsGraphChecked (name : List ℕ) (before after : Readable) (file : StpValue) (bytes : List ℕ)
    (f : Finished) : Type 0 where
  pub task : FileIsTask before.shelf name file
  pub input : IsWholeInput GRAPH_ANSWER_LIMIT before.input after.input bytes
  pub judges : JudgesBytes (in_graph (graph_of_stp file)) bytes f

-- What `checkgraph` finds under the name of a file: the line that tells the verdict, with its status; or why it judges
-- nothing.
abbrev pub ChecksGraph : List ℕ → Readable → Readable → Result Print CheckgraphFault → Type 0
ChecksGraph name before after (Ok print) =
    (file : StpValue) × (bytes : List ℕ) × (f : Finished) × (ruling : Ruling)
    × IsGraphChecked name before after file bytes f × (f.verdict ≡ verdict_of ruling)
    × (print ≡ line_print FromOne ruling)
ChecksGraph name before after (Err fault) = IsCheckgraphFault name before after fault

-- The graph of the STP file of this name; or why there is none.
abbrev pub ReadsGraphFile : ShelfState → ShelfState → List ℕ → Result Graph CheckgraphFault → Type 0
ReadsGraphFile shelf shelf' name (Ok g) =
    (file : StpValue) × FileIsTask shelf name file × (g ≡ graph_of_stp file)
ReadsGraphFile shelf shelf' name (Err (File fault)) = IsFileFault TEXT_LIMIT shelf shelf' name fault
ReadsGraphFile shelf shelf' name (Err (OfGraph fault)) = IsGraphFileFault shelf name fault
ReadsGraphFile shelf shelf' name (Err (Input fault)) = ⊥

-- A run of `checkgraph` under the name of a file. Memory is wanting only while the input is as before the call.
pub record EndsCheckgraph (name : List ℕ) (before after : Outside) (status : ℕ) : Type 0 where
  pub ends : Ends checkgraph_fault_status checkgraph_fault_text (codes "checkgraph") (ChecksGraph name) LeavesFiles
      before after status
  pub unread : status ≡ NO_MEMORY → after.read.input ≡ before.read.input
