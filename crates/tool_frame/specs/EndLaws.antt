-- What follows of how a run ends.
use Rattle.std.specs.Prelude.{ℕ, ◌≡◌, List, Option, None, Some, Result, Ok, Err, IfSome, ◌⊎◌}
use Rattle.std.proofs.Common.{inl, inr, refl, sym, ◌∙◌}
use Rattle.rst_outside.specs.Counts.{Rose}
use Rattle.tool_frame.specs.declared.status.AnswerStatus.{AnswerStatus}
use Rattle.tool_frame.specs.declared.status.AnswerStatus.TheVariants.{Done, Refused, Stopped}
use Rattle.tool_frame.specs.declared.status.FaultStatus.{FaultStatus}
use Rattle.tool_frame.specs.declared.status.FaultStatus.TheVariants.{Malformed, Unread, TooLarge}
use Rattle.tool_frame.specs.declared.status.TheConstants.{UNWRITTEN, NO_MEMORY}
use Rattle.tool_frame.specs.Statuses.{answer_code, fault_code}
use Rattle.tool_frame.specs.Outside.{Readable, Writable, Outside}
use Rattle.tool_frame.specs.Ends.{Print, Printed, Concludes, Ends}
use Rattle.tool_frame.specs.declared.stop.Stop.{Stop}
use Rattle.tool_frame.specs.declared.stop.Stop.TheVariants.{Fault, Memory}
use Rattle.tool_frame.specs.Stops.{FindsDue, prints_found}

-- The statuses of faults, of want of memory and of a failed write are none of a text that was printed.
fault_is_none : (f : FaultStatus) (s : AnswerStatus) → fault_code f ≡ answer_code s → ⊥
fault_is_none Malformed Done is = cc
fault_is_none Malformed Refused is = cc
fault_is_none Malformed Stopped is = cc
fault_is_none Unread Done is = cc
fault_is_none Unread Refused is = cc
fault_is_none Unread Stopped is = cc
fault_is_none TooLarge Done is = cc
fault_is_none TooLarge Refused is = cc
fault_is_none TooLarge Stopped is = cc

memory_is_none : (s : AnswerStatus) → 7 ≡ answer_code s → ⊥
memory_is_none Done is = cc
memory_is_none Refused is = cc
memory_is_none Stopped is = cc

unwritten_is_none : (s : AnswerStatus) → 6 ≡ answer_code s → ⊥
unwritten_is_none Done is = cc
unwritten_is_none Refused is = cc
unwritten_is_none Stopped is = cc

-- That of want of memory is none of a fault, nor that of a failed write.
memory_is_no_fault : (f : FaultStatus) → 7 ≡ fault_code f → ⊥
memory_is_no_fault Malformed is = cc
memory_is_no_fault Unread is = cc
memory_is_no_fault TooLarge is = cc

memory_is_not_unwritten : NO_MEMORY ≡ UNWRITTEN → ⊥
memory_is_not_unwritten is = cc

-- Where memory was wanting, the tool found nothing.
pub nothing_found : {F : Type 0} (fault_status : F → FaultStatus) (fault_text : F → List ℕ) (tool : List ℕ)
    (before after : Writable) (found : Option (Result Print F)) (status : ℕ) →
    Concludes fault_status fault_text tool found before after status →
    status ≡ NO_MEMORY → found ≡ None
nothing_found fault_status fault_text tool before after None status concludes is = refl
nothing_found fault_status fault_text tool before after (Some (Err fault)) status concludes is =
    absurd (memory_is_no_fault (fault_status fault) (sym is ∙ concludes.ends))
nothing_found fault_status fault_text tool before after (Some (Ok print)) status (inl printed) is =
    absurd (memory_is_none print.status (sym is ∙ printed.ends))
nothing_found fault_status fault_text tool before after (Some (Ok print)) status (inr cut) is =
    absurd (memory_is_not_unwritten (sym is ∙ cut.ends))

-- what a run that printed its whole text found and printed
printed_by : {F : Type 0} (fault_status : F → FaultStatus) (fault_text : F → List ℕ) (tool : List ℕ)
    (Finds : Result Print F → Type 0)
    (before after : Writable) (status : ℕ) (found : Option (Result Print F)) (s : AnswerStatus) →
    status ≡ answer_code s →
    IfSome found Finds → Concludes fault_status fault_text tool found before after status →
    (print : Print) × Finds (Ok print) × Printed print before after status
printed_by fault_status fault_text tool Finds before after status None s is finds concludes =
    absurd (memory_is_none s (sym concludes.ends ∙ is))
printed_by fault_status fault_text tool Finds before after status (Some (Err fault)) s is finds concludes =
    absurd (fault_is_none (fault_status fault) s (sym concludes.ends ∙ is))
printed_by fault_status fault_text tool Finds before after status (Some (Ok print)) s is finds (inl printed) =
    (print, finds, printed)
printed_by fault_status fault_text tool Finds before after status (Some (Ok print)) s is finds (inr cut) =
    absurd (unwritten_is_none s (sym cut.ends ∙ is))

-- A run that ends with the status of a printed text printed what the tool found.
pub printed_ends : {F : Type 0} (fault_status : F → FaultStatus) (fault_text : F → List ℕ) (tool : List ℕ)
    (Finds : Readable → Readable → Result Print F → Type 0) (Leaves : Readable → Readable → Type 0)
    (before after : Outside) (status : ℕ) (s : AnswerStatus) → status ≡ answer_code s →
    Ends fault_status fault_text tool Finds Leaves before after status →
    (print : Print) × Finds before.read after.read (Ok print) × Printed print before.written after.written status
printed_ends fault_status fault_text tool Finds Leaves before after status s is ends =
    printed_by fault_status fault_text tool (Finds before.read after.read) before.written after.written status
    ends.found s is ends.finds ends.concludes

-- how a run ends that found no fault and met no failed write
complete_by : {F : Type 0} (fault_status : F → FaultStatus) (fault_text : F → List ℕ) (tool : List ℕ)
    (Finds : Result Print F → Type 0)
    (before after : Writable) (status : ℕ) (found : Option (Result Print F)) → ((fault : F) → Finds (Err fault) → ⊥) →
    (Rose before.out.faults after.out.faults → ⊥) →
    IfSome found Finds → Concludes fault_status fault_text tool found before after status →
    (status ≡ 7) ⊎ ((print : Print) × Finds (Ok print) × (status ≡ answer_code print.status))
complete_by fault_status fault_text tool Finds before after status None faultless writes finds concludes =
    inl concludes.ends
complete_by fault_status fault_text tool Finds before after status (Some (Err fault)) faultless writes finds
    concludes = absurd (faultless fault finds)
complete_by fault_status fault_text tool Finds before after status (Some (Ok print)) faultless writes finds
    (inl printed) = inr (print, finds, printed.ends)
complete_by fault_status fault_text tool Finds before after status (Some (Ok print)) faultless writes finds
    (inr cut) = absurd (writes cut.cut.rose)

-- Where a tool finds no fault and no write fails, the run ends as the tool's answer says, or memory was wanting.
pub complete_ends : {F : Type 0} (fault_status : F → FaultStatus) (fault_text : F → List ℕ) (tool : List ℕ)
    (Finds : Readable → Readable → Result Print F → Type 0) (Leaves : Readable → Readable → Type 0)
    (before after : Outside) (status : ℕ) → ((fault : F) → Finds before.read after.read (Err fault) → ⊥) →
    (Rose before.written.out.faults after.written.out.faults → ⊥) →
    Ends fault_status fault_text tool Finds Leaves before after status →
    (status ≡ 7) ⊎ ((print : Print) × Finds before.read after.read (Ok print) × (status ≡ answer_code print.status))
complete_ends fault_status fault_text tool Finds Leaves before after status faultless writes ends =
    complete_by fault_status fault_text tool (Finds before.read after.read) before.written after.written status
    ends.found faultless writes ends.finds ends.concludes

-- What was found, and how the run then ended, are a run.
pub ends_found : {A : Type 0} {F : Type 0} (text : A → List ℕ) (answer_status : A → AnswerStatus)
    (fault_status : F → FaultStatus) (fault_text : F → List ℕ) (tool : List ℕ)
    (Finds : Readable → Readable → Result Print F → Type 0) (Leaves : Readable → Readable → Type 0)
    (before after : Outside) (status : ℕ) (found : Result A (Stop F)) →
    FindsDue text answer_status (Finds before.read after.read) found → Leaves before.read after.read →
    Concludes fault_status fault_text tool (prints_found text answer_status found) before.written after.written
    status →
    Ends fault_status fault_text tool Finds Leaves before after status
ends_found text answer_status fault_status fault_text tool Finds Leaves before after status (Ok answer) finds leaves
    concludes =
    record {
      found = Some (Ok (record { text = text answer; status = answer_status answer }));
      finds = finds;
      leaves = leaves;
      concludes = concludes;
    }
ends_found text answer_status fault_status fault_text tool Finds Leaves before after status (Err (Fault fault)) finds
    leaves concludes =
    record { found = Some (Err fault); finds = finds; leaves = leaves; concludes = concludes }
ends_found text answer_status fault_status fault_text tool Finds Leaves before after status (Err (Memory error)) finds
    leaves concludes =
    record { found = None; finds = tt; leaves = leaves; concludes = concludes }
