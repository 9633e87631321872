-- What readers of a text and of a file answer is what they come to, and a Steiner problem has no fault.
use Rattle.std.proofs.Common.{ℕ, ◌≡◌, ◌<◌, List, length, All, Result, Ok, Err, IfOk, IfErr, OnOk}
use Rattle.std.proofs.Common.{sym, subst, ap, ◌∙◌, arith}
use Rattle.lists.specs.ListLaws.{All-at}
use Rattle.net_graph.specs.Graph.{Graph}
use Rattle.net_graph.specs.Fault.{IsFirst}
use Rattle.net_graph.specs.Network.{Reaches}
use Rattle.stp_format.specs.declared.edge.StpEdge.{StpEdge}
use Rattle.stp_format.specs.declared.fault.StpFault.{StpFault}
use Rattle.stp_format.specs.declared.fault.StpFault.TheVariants as stp
use Rattle.stp_format.specs.Value.{StpValue}
use Rattle.stp_format.specs.Reading.{IsFaultOf, stp_of}
use Rattle.stp_format.specs.Said.{IsMemory as IsMemoryOfFile}
use Rattle.graph_solve.specs.declared.fault.TaskFault.{TaskFault}
use Rattle.graph_solve.specs.declared.fault.TaskFault.TheVariants as task
use Rattle.graph_solve.specs.Task.{all_edges, graph_of_stp}
use Rattle.graph_solve.specs.Fault.{IsTask, IsFirstFault}
use Rattle.graph_solve.specs.Said.{IsMemory as IsMemoryOfTask}
use Rattle.tool_frame.specs.declared.stop.Stop.{Stop}
use Rattle.tool_frame.specs.declared.stop.Stop.TheVariants.{Fault, Memory}
use Rattle.tool_frame.specs.Stops.{IfFound}
use Rattle.graph_tools.specs.declared.text_fault.GraphTextFault.TheVariants.{InFile, InGraph}
use Rattle.graph_tools.specs.Reading.{ReadsFile, TakesTask, TaskHasNoFault}

-- a fault of what is due is due, but for want of memory
fault_due : (due : Result StpValue StpFault) (fault : StpFault) → IsFaultOf fault due →
    (IsMemoryOfFile fault → ⊥) → due ≡ Err fault
fault_due due (stp.Memory error) is other = absurd (other tt)
fault_due due fault is other = is

-- an answer of the reader that is no want of memory
pub file_apart : (bytes : List ℕ) (read : Result StpValue StpFault) (found : Result StpValue (Stop StpFault)) →
    IfOk read (λ file. stp_of bytes ≡ Ok file) → IfErr read (λ f. IsFaultOf f (stp_of bytes)) →
    IfFound found (λ r. r ≡ read) → IfFound found (λ r. IfErr r (λ fault. IsMemoryOfFile fault → ⊥)) →
    IfFound found (ReadsFile bytes)
file_apart bytes read (Ok file) is fault same told = subst (λ r. IfOk r (λ v. stp_of bytes ≡ Ok v)) (sym same) is
file_apart bytes read (Err (Fault why)) is fault same told =
    (fault_due (stp_of bytes) why (subst (λ r. IfErr r (λ f. IsFaultOf f (stp_of bytes))) (sym same) fault) told, told)
file_apart bytes read (Err (Memory error)) is fault same told = tt

-- the same of the graph of a file
pub task_apart : (file : StpValue) (read : Result Graph TaskFault) (found : Result Graph (Stop TaskFault)) →
    IfOk read (λ g. g ≡ graph_of_stp file) → OnOk read (IsTask file) → IfErr read (IsFirstFault file) →
    IfFound found (λ r. r ≡ read) → IfFound found (λ r. IfErr r (λ fault. IsMemoryOfTask fault → ⊥)) →
    IfFound found (TakesTask file)
task_apart file read (Ok g) graph is fault same told =
    (subst (λ r. OnOk r (IsTask file)) (sym same) is, subst (λ r. IfOk r (λ h. h ≡ graph_of_stp file)) (sym same) graph)
task_apart file read (Err (Fault why)) graph is fault same told =
    (subst (λ r. IfErr r (IsFirstFault file)) (sym same) fault, told)
task_apart file read (Err (Memory error)) graph is fault same told = tt

-- an edge of length 0 is none of a file whose edges all have a length
has_length : (edges : List StpEdge) (place : ℕ) → All (λ e. 0 < e.length) edges →
    IsFirst (λ (e : StpEdge). e.length ≡ 0) edges place → ⊥
has_length edges place lengths first =
    let (edge, at, zero) = first.here in
    let some : 0 < edge.length = All-at (λ e. 0 < e.length) edges place edge lengths at in omega (arith, some, zero)

-- a Steiner problem has no first fault
pub task_faultless : (file : StpValue) (fault : TaskFault) → IsTask file → IsFirstFault file fault →
    (IsMemoryOfTask fault → ⊥) → ⊥
task_faultless file task.TooManyNodes is many told = let few = is.lengths.terminal.small.nodes in omega (arith, few, many)
task_faultless file task.TooManyEdges is (nodes, many) told =
    let few = is.lengths.terminal.small.edges in omega (arith, few, many)
task_faultless file task.TooManyTerminals is (nodes, edges, many) told =
    let few = is.lengths.terminal.small.terminals in omega (arith, few, many)
task_faultless file task.NoTerminals is (small, none) told =
    let some : 0 < length file.terminals = is.lengths.terminal.terminal in
    let zero : length file.terminals ≡ 0 = ap (λ (ts : List ℕ). length ts) none in omega (arith, some, zero)
task_faultless file (task.ZeroLength number) is (terminal, (place, named, first)) told =
    has_length file.edges place is.lengths.lengths first
task_faultless file (task.TooLong total) is (lengths, same, long) told =
    let short = is.total in omega (arith, short, same, long)
task_faultless file (task.Apart node) is (lengths, short, apart) told =
    let g = graph_of_stp file in
    apart.first.apart
    (All-at (Reaches g (all_edges g)) g.terminals apart.place apart.first.terminal is.joined apart.first.at)
task_faultless file (task.Memory error) is fault told = told tt

-- one text is one file
same_file : (bytes : List ℕ) (file other : StpValue) → stp_of bytes ≡ Ok file → stp_of bytes ≡ Ok other → file ≡ other
same_file bytes file other is are = let both : Ok file ≡ Ok other = sym is ∙ are in cc

pub no_fault : TaskHasNoFault
no_fault bytes file (InFile fault) is (due, told) = let both : Ok file ≡ Err fault = sym is.text ∙ due in absurd cc
no_fault bytes file (InGraph fault) is (other, text, (first, told)) =
    grind (arith, same_file bytes other file text is.text, task_faultless)
