-- Inputs and files that are read whole, within a limit, and why they are not.
use Rattle.std.specs.Prelude.{ℕ, ◌≡◌, ◌<◌, ◌≤◌, List, length, Result, Ok, Err, ⊤}
use Rattle.std.specs.Global.{Vec}
use Rattle.rst_outside.specs.Counts.{Rose}
use Rattle.rst_outside.specs.Source.{SourceState, Came, CameToTheEnd}
use Rattle.rst_outside.specs.Fed.{Fed}
use Rattle.rst_outside.specs.Shelf.{ShelfState, OfFile}
use Rattle.tool_frame.specs.declared.take.InputFault.{InputFault}
use Rattle.tool_frame.specs.declared.take.InputFault.TheVariants as input_fault
use Rattle.tool_frame.specs.declared.take.FileFault.{FileFault}
use Rattle.tool_frame.specs.declared.take.FileFault.TheVariants as file_fault

-- the input was read to its end, and these are its bytes
pub record IsWholeInput (limit : ℕ) (before after : SourceState) (bytes : List ℕ) : Type 0 where
  pub came : CameToTheEnd before.rest bytes after.rest
  pub within : length bytes ≤ limit

-- Why the input is not taken whole: a read failed, or more bytes of it came than are taken.
abbrev pub IsInputFault : ℕ → SourceState → SourceState → InputFault → Type 0
IsInputFault limit before after input_fault.Unread = Rose before.faults after.faults
IsInputFault limit before after (input_fault.TooLong most) =
    (most ≡ limit) × (bytes : List ℕ) × (limit < length bytes) × Came before.rest bytes after.rest

-- The input was read to its end, or it couldn't be.
abbrev pub TakesInput : ℕ → SourceState → SourceState → Result (Vec ℕ) InputFault → Type 0
TakesInput limit before after (Ok bytes) = IsWholeInput limit before after bytes.items
TakesInput limit before after (Err fault) = IsInputFault limit before after fault

-- The input was read to its end, and a consumer was fed its bytes; or it couldn't be read so.
abbrev pub FeedsInput : {T : Type 0} → (T → List ℕ → Type 0) → ℕ → SourceState → SourceState → T → T →
    Result ⊤ InputFault → Type 0
FeedsInput stands limit before after consumer consumer' (Ok done) =
    (bytes : List ℕ) × IsWholeInput limit before after bytes × Fed stands consumer bytes consumer'
FeedsInput stands limit before after consumer consumer' (Err fault) = IsInputFault limit before after fault

-- Some first bytes of the rest were taken, and no more; the count of failed reads doesn't fall.
pub record TakesSome (before after : SourceState) : Type 0 where
  pub some : (bytes : List ℕ) × Came before.rest bytes after.rest
  pub count : before.faults ≤ after.faults

-- the shelf has a file of this name, and these are its bytes, where it tells its files
pub record IsWholeFile (limit : ℕ) (shelf : ShelfState) (name bytes : List ℕ) : Type 0 where
  pub told : OfFile shelf.files name (λ file. bytes ≡ file)
  pub within : length bytes ≤ limit

-- Why the file is not taken whole: a read of it failed, or it has more bytes than are taken.
abbrev pub IsFileFault : ℕ → ShelfState → ShelfState → List ℕ → FileFault → Type 0
IsFileFault limit shelf shelf' name file_fault.Unread = Rose shelf.faults shelf'.faults
IsFileFault limit shelf shelf' name (file_fault.TooLong most) =
    (most ≡ limit) × OfFile shelf.files name (λ file. limit < length file)

-- The file was read to its end, or it couldn't be.
abbrev pub TakesFile : ℕ → ShelfState → ShelfState → List ℕ → Result (Vec ℕ) FileFault → Type 0
TakesFile limit shelf shelf' name (Ok bytes) = IsWholeFile limit shelf name bytes.items
TakesFile limit shelf shelf' name (Err fault) = IsFileFault limit shelf shelf' name fault

-- the files stay as they were, and the count of failed reads doesn't fall
pub record KeepsFiles (shelf shelf' : ShelfState) : Type 0 where
  pub files : shelf'.files ≡ shelf.files
  pub count : shelf.faults ≤ shelf'.faults
