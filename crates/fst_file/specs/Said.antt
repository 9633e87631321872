-- What is said of the faults of a file, and which of them pass a limit.
use Rattle.std.specs.Prelude.{ℕ, Bool, true, false, List, ◌++◌, codes, decimal}
use Rattle.text_in.specs.Texts.{line_text, total_text}
use Rattle.fst_file.specs.declared.fault.FstFault.{FstFault}
use Rattle.fst_file.specs.declared.fault.FstFault.TheVariants.{BadLine, TooManyPoints, RepeatedPoint, TooLong, TooManyTrees, NotInForm, WrongLength, OutOfOrder, Memory}

-- what is said of a line with another length than the tree's
abbrev pub length_text : ℕ → ℕ → ℕ → List ℕ
length_text line printed found =
    line_text line (codes " says length ") ++ decimal printed ++ codes ", found " ++ decimal found

abbrev pub fst_fault_text : FstFault → List ℕ
fst_fault_text (BadLine line) = line_text line (codes " is not in the format")
fst_fault_text (TooManyPoints line) = line_text line (codes " asks for more than 50 points")
fst_fault_text (RepeatedPoint line) = line_text line (codes " repeats a point")
fst_fault_text (TooLong total) = total_text total
fst_fault_text (TooManyTrees line) = line_text line (codes " asks for more than 20000 trees")
fst_fault_text (NotInForm line) = line_text line (codes " is no full tree")
fst_fault_text (WrongLength line printed found) = length_text line printed found
fst_fault_text (OutOfOrder line) = line_text line (codes " is out of order")
fst_fault_text (Memory error) = codes "out of memory"

-- the line asks for more than 50 points, or for more than 20,000 trees
abbrev pub fst_passes_limit : FstFault → Bool
fst_passes_limit (TooManyPoints line) = true
fst_passes_limit (TooManyTrees line) = true
fst_passes_limit fault = false

-- want of memory, which is no fault of the bytes
abbrev pub IsMemory : FstFault → Type 0
IsMemory (Memory error) = Unit {0}
IsMemory fault = ⊥
