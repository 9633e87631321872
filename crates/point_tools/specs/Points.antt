-- What `points` finds, which reads nothing.
use Rattle.std.specs.Prelude.{ℕ, ◌≡◌, List, codes, Result, Ok, Err}
use Rattle.points_in.specs.declared.point.Point.{Point}
use Rattle.points_in.specs.Text.{points_text}
use Rattle.drawn_points.specs.Drawing.{drawn_points}
use Rattle.tool_frame.specs.declared.status.AnswerStatus.TheVariants.{Done}
use Rattle.tool_frame.specs.declared.take.InputFault.{InputFault}
use Rattle.tool_frame.specs.Outside.{Outside}
use Rattle.tool_frame.specs.Ends.{Print, Ends}
use Rattle.tool_frame.specs.FaultTexts.{input_fault_text, input_fault_status}
use Rattle.tool_frame.specs.Leaves.{LeavesAll}

-- what is printed of points: one line each, in their order
abbrev pub points_print : List Point → Print
points_print ps = record { text = points_text ps; status = Done }

-- The text of the n points of a seed, and no fault: nothing is read.
abbrev pub PrintsDrawn : ℕ → ℕ → Result Print InputFault → Type 0
PrintsDrawn n seed (Ok print) = print ≡ points_print (drawn_points n seed)
PrintsDrawn n seed (Err fault) = ⊥

-- A run of `points`.
abbrev pub EndsPoints : ℕ → ℕ → Outside → Outside → ℕ → Type 0
EndsPoints n seed before after status =
    Ends input_fault_status input_fault_text (codes "points") (λ _ _. PrintsDrawn n seed) LeavesAll before after status
