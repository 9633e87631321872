-- A tool that reads one text.
use Rattle.std.specs.Prelude.{ℕ, List, Result, Ok, Err}
use Rattle.tool_frame.specs.declared.text_fault.TextFault.{TextFault}
use Rattle.tool_frame.specs.declared.text_fault.TextFault.TheVariants.{Input, Text}
use Rattle.tool_frame.specs.Outside.{Readable}
use Rattle.tool_frame.specs.Taking.{IsWholeInput, IsInputFault}

-- The input was read to its end, and this was found in its bytes; or it couldn't be.
abbrev pub FromText : {V : Type 0} → {F : Type 0} → ℕ → (List ℕ → Result V F → Type 0) → Readable → Readable →
    Result V (TextFault F) → Type 0
FromText limit Finds before after (Ok value) =
    (bytes : List ℕ) × IsWholeInput limit before.input after.input bytes × Finds bytes (Ok value)
FromText limit Finds before after (Err (Text fault)) =
    (bytes : List ℕ) × IsWholeInput limit before.input after.input bytes × Finds bytes (Err fault)
FromText limit Finds before after (Err (Input fault)) = IsInputFault limit before.input after.input fault
