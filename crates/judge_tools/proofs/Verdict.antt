-- From the steps of the judge to what is found.
use Rattle.std.proofs.Common.{ℕ, List, Ok, subst}
use Rattle.points_in.specs.declared.point.Point.{Point}
use Rattle.cert_check.specs.Named.{on_grid}
use Rattle.tool_frame.specs.declared.take.InputFault.{InputFault}
use Rattle.tool_frame.specs.declared.take.TheConstants.{TEXT_LIMIT}
use Rattle.tool_frame.specs.Outside.{Readable}
use Rattle.tool_frame.specs.Points.{ReadsPointsFile}
use Rattle.tool_frame.specs.Taking.{IsInputFault}
use Rattle.verdict_line.specs.declared.judged_input.Judged.{Judged}
use Rattle.verdict_line.specs.Judging.{JudgesInput}
use Rattle.judge_tools.specs.declared.judge.TheConstants.{ANSWER_LIMIT}
use Rattle.judge_tools.specs.declared.judge.CheckFault.TheVariants.{Input}
use Rattle.judge_tools.specs.Judging.{IsCheckFault, FindsJudgement}

-- what is found of the input, for the grid of the file's points
pub found_judgement : (name : List ℕ) (before after : Readable) (grid : List Point) (judged : Judged) →
    ReadsPointsFile TEXT_LIMIT before.shelf after.shelf name (Ok grid) →
    JudgesInput (on_grid grid) ANSWER_LIMIT before.input after.input (Ok judged) →
    FindsJudgement name before after (Ok (record { grid = grid; judged = judged }))
found_judgement name before after grid judged (ps, lists, is) found =
    let (bytes, whole, judges) = subst (λ h. JudgesInput (on_grid h) ANSWER_LIMIT before.input after.input (Ok judged)) is found in
    (ps, bytes, record { points = lists; input = whole; judges = judges }, is)

-- a fault of the input, where the file has a grid
pub found_fault : (name : List ℕ) (before after : Readable) (grid : List Point) (fault : InputFault) →
    ReadsPointsFile TEXT_LIMIT before.shelf after.shelf name (Ok grid) → IsInputFault ANSWER_LIMIT before.input after.input fault →
    IsCheckFault name before after (Input fault)
found_fault name before after grid fault (ps, lists, is) why = ((ps, lists), why)
