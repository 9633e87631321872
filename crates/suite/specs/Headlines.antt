-- What is true of what the program printed.
use Rattle.std.specs.Prelude.{ℕ, ◌≡◌, List, Option, Some, None, ◌⊎◌}
use Rattle.rst_outside.specs.Source.{CameToTheEnd}
use Rattle.points_in.specs.declared.point.Point.{Point}
use Rattle.points_in.specs.Terminals.{terminals_of}
use Rattle.points_in.specs.Text.{IsPointText}
use Rattle.full_tree.specs.declared.code.Tree.{Tree}
use Rattle.fst_file.specs.Value.{FstValue}
use Rattle.fst_file.specs.Text.{SpellsFstFile}
use Rattle.fst_gen.specs.Trees.{AreTreesOf}
use Rattle.fst_prune.specs.Kept.{AreKeptTrees}
use Rattle.tool_frame.specs.Outside.{Outside}
use Rattle.search_tools.specs.Truth.{SearchesTruly}
use Rattle.judge_tools.specs.Truth.{ChecksTruly}
use Rattle.requests.specs.Requests.{Request}
use Rattle.search_tools.specs.TrialTruth.{TriesTruly}
use Rattle.slack_tools.specs.Truth.{BoundsTruly}
use Rattle.stp_format.specs.Value.{StpValue}
use Rattle.graph_solve.specs.Task.{graph_of_stp}
use Rattle.graph_tools.specs.Reading.{IsTaskText}
use Rattle.graph_tools.specs.Truth.{ChecksGraphTruly, SolvesTruly}
use Rattle.graph_tools.specs.ReduceTruth.{ReducesTruly}
use Rattle.obstacle_tools.specs.Truth.{ObstaclesTruly}
use Rattle.search_rules.specs.declared.options.SearchOptions.{SearchOptions}
use Rattle.search_rules.specs.declared.options.GraphOptions.{GraphOptions}
use Rattle.requests.specs.Requests.Request.{Points, Stp2points, Rfst, Prunefst, Bb, Solve, Check, Dumpfst, Fst2graph, Plot}
use Rattle.requests.specs.Requests.Request.{Trial, Upgrade, Graph, Checkgraph, Reduce, Obstacles, Slack}

-- the tool printed what it was asked for, which may be short of optimal where it made a search
abbrev pub HasAnswered : ℕ → Type 0
HasAnswered status = (status ≡ 0) ⊎ (status ≡ 3)

-- the tool gave a verdict
abbrev pub HasJudged : ℕ → Type 0
HasJudged status = (status ≡ 0) ⊎ (status ≡ 1)

-- What `solve` printed is true: the input was read to its end, it is a text of points, and the bytes that went out are
-- an answer that may be printed for its terminals and for the kept ones of their trees (`SearchesTruly`): the answer of
-- a network of their grid with its plain length and of a tree of cuts that bounds every network, accepted by whoever
-- judges it, which stops short only once as many openings were made as the words allow.
abbrev pub SolvesPointsTruly : ℕ → SearchOptions → Outside → Outside → ℕ → Type 0
SolvesPointsTruly size search before after status =
    (bytes : List ℕ) × (ps : List Point) × (generated : List Tree) × (trees : List Tree)
    × CameToTheEnd before.read.input.rest bytes after.read.input.rest
    × IsPointText bytes ps
    × AreTreesOf (terminals_of ps) size generated
    × AreKeptTrees generated trees
    × SearchesTruly search (terminals_of ps) trees before after status

-- What `bb` printed is true: the input was read to its end, it spells a file of full trees, and the bytes that went out
-- are an answer that may be printed for the points and the trees of the file.
abbrev pub BuildsTruly : SearchOptions → Outside → Outside → ℕ → Type 0
BuildsTruly search before after status =
    (bytes : List ℕ) × (file : FstValue)
    × CameToTheEnd before.read.input.rest bytes after.read.input.rest
    × SpellsFstFile bytes file
    × SearchesTruly search file.points file.trees before after status

-- What `graph` printed is true: the input was read to its end, it is an STP file whose graph is a Steiner problem, and
-- the bytes that went out are an answer that may be printed in this graph (`SolvesTruly`): the answer of a network of
-- the graph with its length and of a tree of cuts that bounds every network, accepted by whoever judges it, which stops
-- short only once as many openings were made as the words allow.
abbrev pub SolvesFileTruly : GraphOptions → Outside → Outside → ℕ → Type 0
SolvesFileTruly options before after status =
    (bytes : List ℕ) × (file : StpValue)
    × CameToTheEnd before.read.input.rest bytes after.read.input.rest
    × IsTaskText bytes file
    × SolvesTruly options (graph_of_stp file) before after status

-- The headline: what the program told is true, a case for each tool.
--
-- Of `check`: the file lists points, the input was read to its end, and the status is 0 exactly where its bytes are
-- accepted as an answer for the points. Then `out` gained the line with the answer's length and bound, no network of
-- the grid is shorter than that bound, and where the answer says optimal its network is a shortest one. Of `checkgraph`
-- the same of an answer in the graph of an STP file that is a Steiner problem.
--
-- Of `trial`: `out` gained the line with the length and the bound of an answer that is accepted for the drawn points,
-- no network of their grid is shorter than that bound, and the status is 0 exactly where the two agree.
--
-- Of `reduce`: the input was read to its end, it is an STP file whose graph is a Steiner problem, and the bytes that
-- went out are the reduction of this graph, each of whose networks lifts to one of the graph. With `--solve` they tell
-- a network of the graph with its length, lifted from the answer that a search found in the reduction, and a bound
-- below which no network of the graph falls (`LiftsTruly`).
--
-- Of `obstacles`: the input was read to its end, it spells points and boxes that are a Steiner problem, and the bytes
-- that went out are an answer that may be printed in their graph, whose network joins the points and crosses the
-- interior of no box (`SolvesAroundTruly`). With `--stp` they are that graph as an STP file, beside which such an
-- answer is accepted.
--
-- Of `slack`: the input was read to its end, it is a text of points, and `out` gained an edge bound for each edge of
-- their grid, or for exactly those above the threshold. No network that uses a printed edge is shorter than its bound,
-- and so each is longer than the threshold.
--
-- What the other tools print is already determined by what they read.
abbrev pub TellsTruly : Option Request → Outside → Outside → ℕ → Type 0
TellsTruly (Some (Points drawing)) before after status = Unit {0}
TellsTruly (Some Stp2points) before after status = Unit {0}
TellsTruly (Some (Rfst size)) before after status = Unit {0}
TellsTruly (Some Prunefst) before after status = Unit {0}
TellsTruly (Some (Bb search)) before after status = HasAnswered status → BuildsTruly search before after status
TellsTruly (Some (Solve size search)) before after status =
    HasAnswered status → SolvesPointsTruly size search before after status
TellsTruly (Some (Check name)) before after status = HasJudged status → ChecksTruly name before after status
TellsTruly (Some (Dumpfst pieces)) before after status = Unit {0}
TellsTruly (Some Fst2graph) before after status = Unit {0}
TellsTruly (Some (Plot name)) before after status = Unit {0}
TellsTruly (Some (Trial drawing)) before after status =
    HasAnswered status → TriesTruly drawing.count drawing.seed before after status
TellsTruly (Some (Upgrade name)) before after status = Unit {0}
TellsTruly (Some (Graph options)) before after status = HasAnswered status → SolvesFileTruly options before after status
TellsTruly (Some (Checkgraph name)) before after status =
    HasJudged status → ChecksGraphTruly name before after status
TellsTruly (Some (Reduce solve)) before after status = HasAnswered status → ReducesTruly solve before after status
TellsTruly (Some (Obstacles stp search)) before after status =
    HasAnswered status → ObstaclesTruly stp search before after status
TellsTruly (Some (Slack above ascent)) before after status = status ≡ 0 → BoundsTruly above before after
TellsTruly None before after status = Unit {0}
