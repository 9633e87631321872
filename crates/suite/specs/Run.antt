-- A run of the program.
use Rattle.std.specs.Prelude.{ℕ, ◌≡◌, List, ◌++◌, codes, Option, Some, None, ◌⊎◌}
use Rattle.tool_frame.specs.declared.status.TheConstants.{MISUSED, NO_MEMORY}
use Rattle.tool_frame.specs.Outside.{Outside}
use Rattle.tool_frame.specs.Ends.{Reports, no_memory_line}
use Rattle.search_tools.specs.Build.{EndsBb}
use Rattle.search_tools.specs.Solve.{EndsSolve}
use Rattle.judge_tools.specs.Check.{EndsCheck}
use Rattle.judge_tools.specs.Plot.{EndsPlot}
use Rattle.judge_tools.specs.Upgrade.{EndsUpgrade}
use Rattle.point_tools.specs.Points.{EndsPoints}
use Rattle.point_tools.specs.StpPoints.{EndsStp2points}
use Rattle.tree_tools.specs.Dump.{EndsDumpfst}
use Rattle.tree_tools.specs.Graph.{EndsFst2graph}
use Rattle.tree_tools.specs.Generation.{EndsRfst}
use Rattle.tree_tools.specs.Pruning.{EndsPrunefst}
use Rattle.search_tools.specs.Trial.{EndsTrial}
use Rattle.slack_tools.specs.Slack.{EndsSlack}
use Rattle.graph_tools.specs.Solve.{EndsGraph}
use Rattle.graph_tools.specs.Check.{EndsCheckgraph}
use Rattle.graph_tools.specs.Lifted.{EndsReduceAs}
use Rattle.obstacle_tools.specs.Around.{EndsObstacles}
use Rattle.requests.specs.Requests.{Request}
use Rattle.requests.specs.Requests.Request.{Points, Stp2points, Rfst, Prunefst, Bb, Solve, Check, Dumpfst, Fst2graph, Plot}
use Rattle.requests.specs.Requests.Request.{Trial, Upgrade, Slack, Graph, Checkgraph, Reduce, Obstacles}

-- the text on `err` where the words ask for nothing
abbrev pub usage_line : List ℕ
usage_line = codes "usage: rst points|stp2points|rfst|prunefst|bb|solve|check|dumpfst|fst2graph|plot"
    ++ codes "|trial|upgrade|graph|checkgraph|reduce|obstacles|slack [WORDS]\n"

-- Memory is wanting while the words are read: nothing is read or printed.
pub record IsShort (before after : Outside) (status : ℕ) : Type 0 where
  pub ends : status ≡ NO_MEMORY
  pub read : after.read ≡ before.read
  pub out : after.written.out ≡ before.written.out
  pub reports : Reports before.written.err no_memory_line after.written.err

-- The words ask for no tool: nothing is read or printed.
pub record IsMisused (before after : Outside) (status : ℕ) : Type 0 where
  pub ends : status ≡ MISUSED
  pub read : after.read ≡ before.read
  pub out : after.written.out ≡ before.written.out
  pub reports : Reports before.written.err usage_line after.written.err

-- A run of the tool that the words ask for.
abbrev pub EndsAsAsked : Option Request → Outside → Outside → ℕ → Type 0
EndsAsAsked (Some (Points drawing)) before after status = EndsPoints drawing.count drawing.seed before after status
EndsAsAsked (Some Stp2points) before after status = EndsStp2points before after status
EndsAsAsked (Some (Rfst size)) before after status = EndsRfst size before after status
EndsAsAsked (Some Prunefst) before after status = EndsPrunefst before after status
EndsAsAsked (Some (Bb search)) before after status = EndsBb search before after status
EndsAsAsked (Some (Solve size search)) before after status = EndsSolve search size before after status
EndsAsAsked (Some (Check points)) before after status = EndsCheck points before after status
EndsAsAsked (Some (Dumpfst pieces)) before after status = EndsDumpfst pieces before after status
EndsAsAsked (Some Fst2graph) before after status = EndsFst2graph before after status
EndsAsAsked (Some (Plot points)) before after status = EndsPlot points before after status
EndsAsAsked (Some (Trial drawing)) before after status = EndsTrial drawing.count drawing.seed before after status
EndsAsAsked (Some (Upgrade points)) before after status = EndsUpgrade points before after status
EndsAsAsked (Some (Graph options)) before after status = EndsGraph options before after status
EndsAsAsked (Some (Checkgraph name)) before after status = EndsCheckgraph name before after status
EndsAsAsked (Some (Reduce solve)) before after status = EndsReduceAs solve before after status
EndsAsAsked (Some (Obstacles stp search)) before after status = EndsObstacles stp search before after status
EndsAsAsked (Some (Slack above ascent)) before after status = EndsSlack above before after status
EndsAsAsked None before after status = IsMisused before after status

-- A run of the program with the request that its words make.
abbrev pub IsRun : Option Request → Outside → Outside → ℕ → Type 0
IsRun request before after status = IsShort before after status ⊎ EndsAsAsked request before after status
