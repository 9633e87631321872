-- How a run ends that nothing troubles.
use Rattle.std.specs.Prelude.{ℕ, ◌≡◌, Bool, true, false, not, List, length, Option, Some, None, Ok, ◌⊎◌}
use Rattle.rst_outside.specs.Counts.{Rose}
use Rattle.points_in.specs.declared.point.Point.{Point}
use Rattle.tool_frame.specs.declared.status.TheConstants.{MISUSED, NO_MEMORY}
use Rattle.tool_frame.specs.declared.take.TheConstants.{TEXT_LIMIT}
use Rattle.tool_frame.specs.Outside.{Outside}
use Rattle.tool_frame.specs.Complete.{HasInput, HasFile}
use Rattle.tool_frame.specs.Points.{ListsPoints, grid_of_points}
use Rattle.cert_check.specs.Accepted.{IsAccepted}
use Rattle.judge_tools.specs.declared.judge.TheConstants.{ANSWER_LIMIT}
use Rattle.judge_tools.specs.declared.upgrading.TheConstants.{UPGRADE_LIMIT}
use Rattle.answer_upgrade.specs.Upgraded.{IsSpelling}
use Rattle.points_in.specs.Terminals.{terminals_of}
use Rattle.concatenation.specs.Concatenation.{IsConcatenation, all_of}
use Rattle.fst_gen.specs.Trees.{HasMoreSets}
use Rattle.point_tools.specs.StpPoints.{LocatesPoints}
use Rattle.tree_inputs.specs.Generation.{most_members}
use Rattle.search_tools.specs.Trial.{drawn_terminals}
use Rattle.fst_file.specs.Value.{FstValue}
use Rattle.fst_file.specs.Text.{SpellsFstFile}
use Rattle.requests.specs.Requests.{Request}
use Rattle.stp_format.specs.Value.{StpValue}
use Rattle.graph_tools.specs.declared.checking.TheConstants.{GRAPH_ANSWER_LIMIT}
use Rattle.graph_tools.specs.Reading.{IsTaskText}
use Rattle.obstacles_in.specs.Obstacles.{ObstaclesValue}
use Rattle.obstacle_tools.specs.Reading.{IsTaskText as IsAroundText}
use Rattle.requests.specs.Requests.Request.{Points, Stp2points, Rfst, Prunefst, Bb, Solve, Check, Dumpfst, Fst2graph, Plot}
use Rattle.requests.specs.Requests.Request.{Trial, Upgrade, Slack, Graph, Checkgraph, Reduce, Obstacles}

-- no write to `out` fails
abbrev pub IsWritable : Outside → Outside → Type 0
IsWritable before after = Rose before.written.out.faults after.written.out.faults → ⊥

-- The text was printed, which may be short of optimal where a search was made; or memory was wanting.
abbrev pub EndsComplete : Bool → ℕ → Type 0
EndsComplete false status = (status ≡ 0) ⊎ (status ≡ NO_MEMORY)
EndsComplete true status = ((status ≡ 0) ⊎ (status ≡ 3)) ⊎ (status ≡ NO_MEMORY)

-- Where what a tool reads is told, within its limits and without fault, and no read or write fails, the status is one
-- that the tool answers with, or memory was wanting.
abbrev pub Completes : Option Request → Outside → Outside → ℕ → Type 0
Completes (Some (Points drawing)) before after status = IsWritable before after → (status ≡ 0) ⊎ (status ≡ NO_MEMORY)
Completes (Some Stp2points) before after status =
    (bytes : List ℕ) (ps : List Point) → HasInput TEXT_LIMIT before.read.input after.read.input bytes →
    LocatesPoints bytes (Ok ps) →
    IsWritable before after → (status ≡ 0) ⊎ (status ≡ NO_MEMORY)
Completes (Some (Rfst size)) before after status =
    (bytes : List ℕ) (ps : List Point) → HasInput TEXT_LIMIT before.read.input after.read.input bytes →
    ListsPoints bytes ps →
    ¬ HasMoreSets (terminals_of ps) size 20000 → IsWritable before after → (status ≡ 0) ⊎ (status ≡ NO_MEMORY)
Completes (Some Prunefst) before after status =
    (bytes : List ℕ) (file : FstValue) → HasInput TEXT_LIMIT before.read.input after.read.input bytes →
    SpellsFstFile bytes file →
    IsWritable before after → (status ≡ 0) ⊎ (status ≡ NO_MEMORY)
Completes (Some (Solve size search)) before after status =
    (bytes : List ℕ) (ps : List Point) → HasInput TEXT_LIMIT before.read.input after.read.input bytes →
    ListsPoints bytes ps →
    ¬ HasMoreSets (terminals_of ps) size 20000 → IsWritable before after →
    ((status ≡ 0) ⊎ (status ≡ 3)) ⊎ (status ≡ NO_MEMORY)
Completes (Some (Bb search)) before after status =
    (bytes : List ℕ) (file : FstValue) → HasInput TEXT_LIMIT before.read.input after.read.input bytes →
    SpellsFstFile bytes file →
    IsConcatenation (length file.points) file.trees (all_of file.trees) → IsWritable before after →
    ((status ≡ 0) ⊎ (status ≡ 3)) ⊎ (status ≡ NO_MEMORY)
Completes (Some (Check name)) before after status =
    (points bytes : List ℕ) (ps : List Point) → HasFile TEXT_LIMIT before.read.shelf after.read.shelf name points →
    ListsPoints points ps →
    HasInput ANSWER_LIMIT before.read.input after.read.input bytes →
    IsWritable before after → ((status ≡ 0) ⊎ (status ≡ 1)) ⊎ (status ≡ NO_MEMORY)
Completes (Some (Dumpfst pieces)) before after status =
    (bytes : List ℕ) (file : FstValue) → HasInput TEXT_LIMIT before.read.input after.read.input bytes →
    SpellsFstFile bytes file →
    IsWritable before after → (status ≡ 0) ⊎ (status ≡ NO_MEMORY)
Completes (Some Fst2graph) before after status =
    (bytes : List ℕ) (file : FstValue) → HasInput TEXT_LIMIT before.read.input after.read.input bytes →
    SpellsFstFile bytes file →
    IsWritable before after → (status ≡ 0) ⊎ (status ≡ NO_MEMORY)
Completes (Some (Plot name)) before after status =
    (points bytes : List ℕ) (ps : List Point) → HasFile TEXT_LIMIT before.read.shelf after.read.shelf name points →
    ListsPoints points ps → HasInput ANSWER_LIMIT before.read.input after.read.input bytes →
    IsAccepted (terminals_of ps) bytes →
    IsWritable before after → (status ≡ 0) ⊎ (status ≡ NO_MEMORY)
Completes (Some (Trial drawing)) before after status =
    ¬ HasMoreSets (drawn_terminals drawing.count drawing.seed) most_members 20000 → IsWritable before after →
    ((status ≡ 0) ⊎ (status ≡ 3)) ⊎ (status ≡ NO_MEMORY)
Completes (Some (Upgrade name)) before after status =
    (points bytes : List ℕ) (ps : List Point) → HasFile TEXT_LIMIT before.read.shelf after.read.shelf name points →
    ListsPoints points ps → HasInput UPGRADE_LIMIT before.read.input after.read.input bytes →
    IsSpelling (grid_of_points ps).vertices bytes →
    IsWritable before after → (status ≡ 0) ⊎ (status ≡ NO_MEMORY)
Completes (Some (Graph options)) before after status =
    (bytes : List ℕ) (file : StpValue) → HasInput TEXT_LIMIT before.read.input after.read.input bytes →
    IsTaskText bytes file →
    IsWritable before after → ((status ≡ 0) ⊎ (status ≡ 3)) ⊎ (status ≡ NO_MEMORY)
Completes (Some (Checkgraph name)) before after status =
    (text bytes : List ℕ) (file : StpValue) → HasFile TEXT_LIMIT before.read.shelf after.read.shelf name text →
    IsTaskText text file → HasInput GRAPH_ANSWER_LIMIT before.read.input after.read.input bytes →
    IsWritable before after → ((status ≡ 0) ⊎ (status ≡ 1)) ⊎ (status ≡ NO_MEMORY)
Completes (Some (Reduce solve)) before after status =
    (bytes : List ℕ) (file : StpValue) → HasInput TEXT_LIMIT before.read.input after.read.input bytes →
    IsTaskText bytes file → IsWritable before after → EndsComplete solve status
Completes (Some (Obstacles stp search)) before after status =
    (bytes : List ℕ) (o : ObstaclesValue) → HasInput TEXT_LIMIT before.read.input after.read.input bytes →
    IsAroundText bytes o → IsWritable before after → EndsComplete (not stp) status
Completes (Some (Slack above ascent)) before after status =
    (bytes : List ℕ) (ps : List Point) → HasInput TEXT_LIMIT before.read.input after.read.input bytes →
    ListsPoints bytes ps →
    IsWritable before after → (status ≡ 0) ⊎ (status ≡ NO_MEMORY)
Completes None before after status = (status ≡ MISUSED) ⊎ (status ≡ NO_MEMORY)
