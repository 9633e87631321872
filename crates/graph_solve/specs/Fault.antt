-- What keeps a file from being a Steiner problem of the suite. Faults are judged in the order of the cases below.
use Rattle.std.specs.Prelude.{ℕ, ◌≡◌, ◌+◌, ◌<◌, ◌≤◌, ◌^◌, [], length, All, Result, Err}
use Rattle.stp_format.specs.Value.{StpValue}
use Rattle.net_graph.specs.Graph.{Graph}
use Rattle.net_graph.specs.Fault.{IsFirst}
use Rattle.net_graph.specs.Network.{IsNetwork, IsFirstApart}
use Rattle.graph_solve.specs.Task.{terminals_of, graph_of_stp, total_of_stp, all_edges}
use Rattle.graph_solve.specs.declared.fault.TaskFault.{TaskFault}
use Rattle.graph_solve.specs.declared.fault.TaskFault.TheVariants.{TooManyNodes, TooManyEdges, TooManyTerminals}
use Rattle.graph_solve.specs.declared.fault.TaskFault.TheVariants.{NoTerminals, ZeroLength, TooLong, Apart, Memory}

-- at most 2,500 nodes, 4,900 edges and 255 distinct terminals
pub record IsSmall (file : StpValue) : Type 0 where
  pub nodes : file.nodes ≤ 2500
  pub edges : length file.edges ≤ 4900
  pub terminals : length (terminals_of file) ≤ 255

-- small, with a terminal
pub record HasTerminal (file : StpValue) : Type 0 where
  pub small : IsSmall file
  pub terminal : 0 < length file.terminals

-- .. and with a length of every edge
pub record HasLengths (file : StpValue) : Type 0 where
  pub terminal : HasTerminal file
  pub lengths : All (λ e. 0 < e.length) file.edges

-- The file is a Steiner problem of the suite: it has none of the faults. All edges together join its terminals.
pub record IsTask (file : StpValue) : Type 0 where
  pub lengths : HasLengths file
  pub total : total_of_stp file < 2 ^ 63
  pub joined : IsNetwork (graph_of_stp file) (all_edges (graph_of_stp file))

-- The node is the first terminal that all edges together don't join to the first one.
pub record IsFirstApartNode (g : Graph) (node : ℕ) : Type 0 where
  pub place : ℕ
  pub first : IsFirstApart g (all_edges g) place
  pub named : node ≡ first.terminal + 1

-- the number, counted from 1, is that of the first edge of length 0
abbrev pub IsFirstWithoutLength : StpValue → ℕ → Type 0
IsFirstWithoutLength file number = (place : ℕ) × (number ≡ place + 1) × IsFirst (λ e. e.length ≡ 0) file.edges place

-- This fault is the first of the file's faults; want of memory has no cause in the file.
abbrev pub IsFirstFault : StpValue → TaskFault → Type 0
IsFirstFault file TooManyNodes = 2500 < file.nodes
IsFirstFault file TooManyEdges = (file.nodes ≤ 2500) × (4900 < length file.edges)
IsFirstFault file TooManyTerminals =
    (file.nodes ≤ 2500) × (length file.edges ≤ 4900) × (255 < length (terminals_of file))
IsFirstFault file NoTerminals = IsSmall file × (file.terminals ≡ [])
IsFirstFault file (ZeroLength number) = HasTerminal file × IsFirstWithoutLength file number
IsFirstFault file (TooLong total) = HasLengths file × (total ≡ total_of_stp file) × (2 ^ 63 ≤ total)
IsFirstFault file (Apart node) =
    HasLengths file × (total_of_stp file < 2 ^ 63) × IsFirstApartNode (graph_of_stp file) node
IsFirstFault file (Memory error) = Unit {0}

-- the file has this fault, and it is the first; want of memory is no fault of a file
abbrev pub HasFirstFault : StpValue → TaskFault → Type 0
HasFirstFault file (Memory error) = ⊥
HasFirstFault file fault = IsFirstFault file fault

-- what was answered is this, unless memory ran out
abbrev pub Answers : Result Graph TaskFault → Result Graph TaskFault → Type 0
Answers (Err (Memory error)) outcome = Unit {0}
Answers result outcome = result ≡ outcome
