-- What `plot` finds, by what it read.
use Rattle.std.specs.Prelude.{ℕ, ◌≡◌, Bool, true, List, codes, Result, Ok, Err}
use Rattle.points_in.specs.declared.point.Point.{Point}
use Rattle.points_in.specs.Terminals.{terminals_of}
use Rattle.net_graph.specs.Network.{IsLowerBound, IsShortest}
use Rattle.cert_tree.specs.declared.split.SplitOn.{SplitOn}
use Rattle.cert_tree.specs.Tree.{Tree}
use Rattle.answer_text.specs.Value.{WrittenAnswer}
use Rattle.tree_judge.specs.declared.cause.Cause.{Cause}
use Rattle.cert_check.specs.declared.verdict.Finished.{Finished}
use Rattle.cert_check.specs.declared.verdict.Verdict.TheVariants as verdict
use Rattle.cert_check.specs.Accepted.{Accepts}
use Rattle.printed_texts.specs.Plot.{plot_text}
use Rattle.tool_frame.specs.declared.status.AnswerStatus.TheVariants.{Done}
use Rattle.tool_frame.specs.declared.status.FaultStatus.{FaultStatus}
use Rattle.tool_frame.specs.declared.status.FaultStatus.TheVariants.{Malformed}
use Rattle.tool_frame.specs.declared.status.TheConstants.{NO_MEMORY}
use Rattle.tool_frame.specs.declared.take.TheConstants.{TEXT_LIMIT}
use Rattle.tool_frame.specs.Outside.{Readable, Outside}
use Rattle.tool_frame.specs.Ends.{Print, Ends}
use Rattle.tool_frame.specs.Leaves.{LeavesFiles}
use Rattle.tool_frame.specs.Taking.{IsWholeInput}
use Rattle.tool_frame.specs.Points.{FileLists, grid_of_points}
use Rattle.judge_tools.specs.declared.judge.TheConstants.{ANSWER_LIMIT}
use Rattle.judge_tools.specs.declared.plotting.PlotFault.{PlotFault}
use Rattle.judge_tools.specs.declared.plotting.PlotFault.TheVariants.{Unjudged, Refused}
use Rattle.verdict_line.specs.Verdicts.{refusal}
use Rattle.judge_tools.specs.Judging.{IsChecked, IsCheckFault}
use Rattle.judge_tools.specs.Check.{check_fault_text, check_fault_status}

-- what is printed of a network on the grid of terminals
abbrev pub plot_print : List Point → List Bool → Print
plot_print terminals network = record { text = plot_text terminals network; status = Done }

-- The file lists these points, whose grid isn't too long, the input was read to its end, and its bytes are accepted as
-- an answer for the points with this network. No network of the grid is shorter than the answer's bound, and where the
-- answer says optimal its network is a shortest one.
pub record IsPlotted (name : List ℕ) (before after : Readable) (ps : List Point) (bytes : List ℕ) (network : List Bool)
    : Type 0 where
  pub points : FileLists TEXT_LIMIT before.shelf name ps
  pub input : IsWholeInput ANSWER_LIMIT before.input after.input bytes
  pub answer : WrittenAnswer
  pub tree : Tree SplitOn
  pub accepts : Accepts (terminals_of ps) bytes answer network tree
  pub bounds : IsLowerBound (grid_of_points ps) answer.head.bound
  pub shortest : answer.head.optimal ≡ true → IsShortest (grid_of_points ps) network

-- The file lists points, the input was read to its end, and its bytes are refused as an answer for them, with this
-- cause.
abbrev pub IsRefused : List ℕ → Readable → Readable → Cause → Type 0
IsRefused name before after cause =
    (ps : List Point) × (bytes : List ℕ) × (f : Finished) × IsChecked name before after ps bytes f
    × (f.verdict ≡ verdict.Refused cause)

-- What `plot` finds under the name of a file: the plot of the network of an answer that is accepted. Or none is judged;
-- or it is refused.
abbrev pub Plots : List ℕ → Readable → Readable → Result Print PlotFault → Type 0
Plots name before after (Ok print) =
    (ps : List Point) × (bytes : List ℕ) × (network : List Bool) × IsPlotted name before after ps bytes network
    × (print ≡ plot_print (terminals_of ps) network)
Plots name before after (Err (Unjudged fault)) = IsCheckFault name before after fault
Plots name before after (Err (Refused cause)) = IsRefused name before after cause

-- what is said of a fault
abbrev pub plot_fault_text : PlotFault → List ℕ
plot_fault_text (Unjudged fault) = check_fault_text fault
plot_fault_text (Refused cause) = refusal cause

-- the status of a fault
abbrev pub plot_fault_status : PlotFault → FaultStatus
plot_fault_status (Unjudged fault) = check_fault_status fault
plot_fault_status (Refused cause) = Malformed

-- A run of `plot` under the name of a file. Memory is wanting only while the input is as before the call.
pub record EndsPlot (name : List ℕ) (before after : Outside) (status : ℕ) : Type 0 where
  pub ends : Ends plot_fault_status plot_fault_text (codes "plot") (Plots name) LeavesFiles before after status
  pub unread : status ≡ NO_MEMORY → after.read.input ≡ before.read.input
