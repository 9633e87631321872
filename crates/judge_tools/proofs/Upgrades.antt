-- From what was taken of an answer to how a run of `upgrade` ends.
use Rattle.std.proofs.Common.{ℕ, ◌≡◌, ◌≤◌, ◌^◌, List, length, Some, None, Ok, Err, codes, refl, ◌∙◌, subst, ap}
use Rattle.points_in.specs.declared.point.Point.{Point}
use Rattle.points_in.specs.Terminals.{terminals_of}
use Rattle.hanan_grid.specs.Grid.{hanan_grid_of}
use Rattle.answer_text.specs.Value.{WrittenAnswer}
use Rattle.answer_text.specs.declared.form.Form.TheVariants as form
use Rattle.answer_text.specs.Spelling.{SpellsAnswer}
use Rattle.answer_upgrade.specs.declared.told.Spelled.TheVariants.{Fault}
use Rattle.answer_upgrade.specs.Spelling.{TellsSpelling}
use Rattle.cert_check.specs.UpgradeLaw.{UpgradingKeepsVerdict}
use Rattle.tool_frame.specs.declared.status.TheConstants.{NO_MEMORY}
use Rattle.tool_frame.specs.declared.take.TheConstants.{TEXT_LIMIT}
use Rattle.tool_frame.specs.Statuses.{fault_code}
use Rattle.tool_frame.specs.Outside.{Outside, Readable}
use Rattle.tool_frame.specs.Ends.{PrintsOrNot, Refuses, fault_line, no_memory_line}
use Rattle.tool_frame.specs.Leaves.{LeavesFiles}
use Rattle.tool_frame.specs.Points.{ReadsPointsFile}
use Rattle.tool_frame.specs.Taking.{IsWholeInput}
use Rattle.judge_tools.specs.declared.upgrading.TheConstants.{UPGRADE_LIMIT}
use Rattle.judge_tools.specs.declared.upgrading.TakenAnswer.{TakenAnswer}
use Rattle.judge_tools.specs.declared.upgrading.UpgradeFault.{UpgradeFault}
use Rattle.judge_tools.specs.declared.upgrading.UpgradeFault.TheVariants.{Misspelled}
use Rattle.judge_tools.specs.Upgrade.{EndsUpgrade, IsUpgradeFault, TakesAnswer, upgrade_fault_text, upgrade_fault_status, upgrade_print}

-- bytes that cease to spell one
pub taken_misspelled : (name : List ℕ) (before after : Readable) (grid : List Point) (vertices line : ℕ) (bytes : List ℕ) →
    ReadsPointsFile TEXT_LIMIT before.shelf after.shelf name (Ok grid) →
    IsWholeInput UPGRADE_LIMIT before.input after.input bytes → vertices ≡ (hanan_grid_of grid).vertices →
    TellsSpelling vertices bytes (Fault line) → IsUpgradeFault name before after (Misspelled line)
taken_misspelled name before after grid vertices line bytes (ps, lists, of_points) whole count stops = (
  ps,
  bytes,
  record { points = lists; input = whole },
  subst (λ n. TellsSpelling n bytes (Fault line)) (count ∙ ap (λ (h : List Point). (hanan_grid_of h).vertices) of_points) stops,
)

-- what was taken is printed in version 2
pub printed_run : UpgradingKeepsVerdict → (name : List ℕ) (before after : Outside) (taken : TakenAnswer) (status : ℕ) →
    TakesAnswer name before.read after.read (Ok taken) → LeavesFiles before.read after.read →
    ((answer : WrittenAnswer) → SpellsAnswer (form.OnGrid taken.vertices) taken.bytes.items answer →
    PrintsOrNot (codes "upgrade") (upgrade_print answer) before.written after.written status) →
    EndsUpgrade name before after status
printed_run law name before after taken status (ps, is_taken, same, (answer, spells)) leaves prints =
    let spelled = subst (λ n. SpellsAnswer (form.OnGrid n) taken.bytes.items answer) same spells in
    let few : length taken.bytes.items ≤ 2 ^ 28 = is_taken.input.within in record {
      found = Some (Ok (upgrade_print answer));
      finds = (
        ps,
        taken.bytes.items,
        answer,
        is_taken,
        spelled,
        λ f. law (terminals_of ps) taken.bytes.items answer f spelled few,
        refl,
      );
      leaves = leaves;
      concludes = prints answer spells;
    }

-- a fault is told
pub refused_run : (name : List ℕ) (before after : Outside) (fault : UpgradeFault) (status : ℕ) →
    IsUpgradeFault name before.read after.read fault → LeavesFiles before.read after.read →
    Refuses (fault_line (codes "upgrade") (upgrade_fault_text fault)) (fault_code (upgrade_fault_status fault))
    before.written after.written status → EndsUpgrade name before after status
refused_run name before after fault status is leaves refuses =
    record { found = Some (Err fault); finds = is; leaves = leaves; concludes = refuses }

-- so is want of memory
pub starved_run : (name : List ℕ) (before after : Outside) (status : ℕ) → LeavesFiles before.read after.read →
    Refuses no_memory_line NO_MEMORY before.written after.written status → EndsUpgrade name before after status
starved_run name before after status leaves refuses =
    record { found = None; finds = tt; leaves = leaves; concludes = refuses }
