-- What a tool leaves untouched where memory is wanting.
use Rattle.std.proofs.Common.{ℕ, ◌≡◌, List, Option, Some, None, Result, Ok, Err}
use Rattle.tool_frame.specs.declared.status.AnswerStatus.{AnswerStatus}
use Rattle.tool_frame.specs.declared.status.FaultStatus.{FaultStatus}
use Rattle.tool_frame.specs.declared.status.TheConstants.{NO_MEMORY}
use Rattle.tool_frame.specs.declared.stop.Stop.{Stop}
use Rattle.tool_frame.specs.declared.stop.Stop.TheVariants.{Fault, Memory}
use Rattle.tool_frame.specs.Outside.{Writable}
use Rattle.tool_frame.specs.Ends.{Concludes, Print}
use Rattle.tool_frame.specs.EndLaws.{nothing_found}
use Rattle.tool_frame.specs.Stops.{OnStarved, prints_found}

-- What holds where the tool found nothing holds where memory was wanting.
pub without_memory : {A : Type 0} {F : Type 0} (text : A → List ℕ) (answer_status : A → AnswerStatus)
    (fault_status : F → FaultStatus) (fault_text : F → List ℕ) (tool : List ℕ) (before after : Writable) (status : ℕ)
    (found : Result A (Stop F)) (P : Type 0) →
    Concludes fault_status fault_text tool (prints_found text answer_status found) before after status →
    OnStarved found P → status ≡ NO_MEMORY → P
without_memory text answer_status fault_status fault_text tool before after status (Ok answer) P concludes holds is =
    let found : Option (Result Print _) =
    Some (Ok (record { text = text answer; status = answer_status answer })) in
    let none : found ≡ None = nothing_found fault_status fault_text tool before after found status concludes is in
    absurd cc
without_memory text answer_status fault_status fault_text tool before after status (Err (Fault fault)) P concludes
    holds is =
    let none : Some (Err fault) ≡ None =
    nothing_found fault_status fault_text tool before after (Some (Err fault)) status concludes is in
    absurd cc
without_memory text answer_status fault_status fault_text tool before after status (Err (Memory error)) P concludes
    holds is = holds
