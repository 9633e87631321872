-- What `obstacles` finds, by what it read.
use Rattle.std.specs.Prelude.{ℕ, ◌≡◌, Bool, true, false, List, codes, Result}
use Rattle.net_graph.specs.Graph.{Graph}
use Rattle.obstacle_grid.specs.Text.{graph_stp_text}
use Rattle.tool_frame.specs.declared.status.AnswerStatus.TheVariants.{Done}
use Rattle.tool_frame.specs.declared.take.TheConstants.{TEXT_LIMIT}
use Rattle.tool_frame.specs.Outside.{Outside}
use Rattle.tool_frame.specs.Ends.{Print, Ends}
use Rattle.tool_frame.specs.FaultTexts.{text_fault_text, text_fault_status}
use Rattle.tool_frame.specs.FromText.{FromText}
use Rattle.tool_frame.specs.Leaves.{LeavesShelf}
use Rattle.search_rules.specs.declared.options.GraphOptions.{GraphOptions}
use Rattle.graph_tools.specs.Found.{FindsIn}
use Rattle.graph_tools.specs.Solve.{PrintsAnswer}
use Rattle.obstacle_tools.specs.declared.graph_file.GraphFile.{GraphFile}
use Rattle.obstacle_tools.specs.declared.text_fault.ObstacleTextFault.{ObstacleTextFault}
use Rattle.obstacle_tools.specs.Reading.{ReadsAround, around_fault_text, around_fault_status}

-- What `obstacles` prints of a text: an answer in the graph of the points and boxes that it spells; or why it gives no
-- Steiner problem.
abbrev pub SolvesAround : GraphOptions → List ℕ → Result Print ObstacleTextFault → Type 0
SolvesAround options = FindsIn ReadsAround (PrintsAnswer options)

-- A run of `obstacles` that prints an answer, under these options.
abbrev pub EndsObstaclesSolve : GraphOptions → Outside → Outside → ℕ → Type 0
EndsObstaclesSolve options before after status =
    Ends (text_fault_status around_fault_status) (text_fault_text around_fault_text) (codes "obstacles")
    (FromText TEXT_LIMIT (SolvesAround options)) LeavesShelf before after status

-- the text of a graph as a file
abbrev pub graph_file_text : GraphFile → List ℕ
graph_file_text file = graph_stp_text file.graph

-- What `obstacles --stp` prints of the graph of the points and boxes that a text spells: its text as an STP file.
abbrev pub PrintsFile : Graph → Print → Type 0
PrintsFile g print = print ≡ record { text = graph_stp_text g; status = Done }

abbrev pub WritesGraph : List ℕ → Result Print ObstacleTextFault → Type 0
WritesGraph = FindsIn ReadsAround PrintsFile

-- A run of `obstacles --stp`.
abbrev pub EndsObstaclesStp : Outside → Outside → ℕ → Type 0
EndsObstaclesStp before after status =
    Ends (text_fault_status around_fault_status) (text_fault_text around_fault_text) (codes "obstacles")
    (FromText TEXT_LIMIT WritesGraph) LeavesShelf before after status

-- A run of `obstacles`, with or without its flag.
abbrev pub EndsObstacles : Bool → GraphOptions → Outside → Outside → ℕ → Type 0
EndsObstacles true options before after status = EndsObstaclesStp before after status
EndsObstacles false options before after status = EndsObstaclesSolve options before after status
