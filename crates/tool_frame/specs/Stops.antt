-- What a step of a tool gives: a value, a fault, or nothing where memory was wanting.
use Rattle.std.specs.Prelude.{ℕ, ◌≡◌, List, Option, None, Some, Result, Ok, Err}
use Rattle.tool_frame.specs.declared.status.AnswerStatus.{AnswerStatus}
use Rattle.tool_frame.specs.declared.stop.Stop.{Stop}
use Rattle.tool_frame.specs.declared.stop.Stop.TheVariants.{Fault, Memory}
use Rattle.tool_frame.specs.Ends.{Print}

-- The value is the one that it has to be, or the fault has its cause. Of want of memory nothing is said.
abbrev pub IfFound : {A : Type 0} → {F : Type 0} → Result A (Stop F) → (Result A F → Type 0) → Type 0
IfFound (Ok value) Finds = Finds (Ok value)
IfFound (Err (Fault fault)) Finds = Finds (Err fault)
IfFound (Err (Memory error)) Finds = Unit {0}

-- The fault has its cause.
abbrev pub IfFault : {F : Type 0} → Stop F → (F → Type 0) → Type 0
IfFault (Fault fault) Is = Is fault
IfFault (Memory error) Is = Unit {0}

-- P, where memory was wanting
abbrev pub OnStarved : {A : Type 0} → {F : Type 0} → Result A (Stop F) → Type 0 → Type 0
OnStarved (Ok value) P = Unit {0}
OnStarved (Err (Fault fault)) P = Unit {0}
OnStarved (Err (Memory error)) P = P

-- The same was found, with its fault as one of the whole.
abbrev pub IsWithin : {A : Type 0} → {F : Type 0} → {G : Type 0} → (F → G → Type 0) → Result A (Stop F) →
    Result A (Stop G) → Type 0
IsWithin Is found (Ok value) = found ≡ Ok value
IsWithin Is found (Err (Fault whole)) = (fault : _) × (found ≡ Err (Fault fault)) × Is fault whole
IsWithin Is found (Err (Memory error)) = found ≡ Err (Memory error)

-- what a tool prints, or the fault that it refuses for; nothing where memory was wanting
abbrev pub prints_found : {A : Type 0} → {F : Type 0} → (A → List ℕ) → (A → AnswerStatus) → Result A (Stop F) →
    Option (Result Print F)
prints_found text status (Ok answer) = Some (Ok (record { text = text answer; status = status answer }))
prints_found text status (Err (Fault fault)) = Some (Err fault)
prints_found text status (Err (Memory error)) = None

-- A tool found what is due: an answer, by its text and its status; or a fault.
abbrev pub FindsDue : {A : Type 0} → {F : Type 0} → (A → List ℕ) → (A → AnswerStatus) →
    (Result Print F → Type 0) → Result A (Stop F) → Type 0
FindsDue text status IsDue (Ok answer) = IsDue (Ok (record { text = text answer; status = status answer }))
FindsDue text status IsDue (Err (Fault fault)) = IsDue (Err fault)
FindsDue text status IsDue (Err (Memory error)) = Unit {0}
