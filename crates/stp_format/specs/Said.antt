-- What is said of the faults of an STP file, and which of them pass a limit.
use Rattle.std.specs.Prelude.{ℕ, Bool, true, false, List, ◌++◌, codes, decimal}
use Rattle.text_in.specs.Texts.{line_text}
use Rattle.stp_format.specs.declared.fault.StpFault.{StpFault}
use Rattle.stp_format.specs.declared.fault.StpFault.TheVariants.{NoMagic, BadLine, LeftOut, NodeOutOfRange, WrongCount, MissingSection, NoTerminals, NoCoordinates, TooManyPoints, Memory}
use Rattle.stp_format.specs.declared.fault.StpSection.{StpSection}
use Rattle.stp_format.specs.declared.fault.StpSection.TheVariants.{Graph, Terminals, Coordinates}

-- the name of a section
abbrev pub section_name : StpSection → List ℕ
section_name Graph = codes "Graph"
section_name Terminals = codes "Terminals"
section_name Coordinates = codes "Coordinates"

-- what is said of a section, and of a number
abbrev pub section_text : StpSection → List ℕ → List ℕ
section_text section said = codes "section " ++ section_name section ++ said

abbrev pub number_text : List ℕ → ℕ → List ℕ → List ℕ
number_text before n after = before ++ decimal n ++ after

abbrev pub stp_fault_text : StpFault → List ℕ
stp_fault_text NoMagic = codes "not an STP file"
stp_fault_text (BadLine line) = line_text line (codes " is not in the format")
stp_fault_text (LeftOut line) = line_text line (codes " is left out of this profile")
stp_fault_text (NodeOutOfRange line) = line_text line (codes " names no node")
stp_fault_text (WrongCount section) = section_text section (codes " has a wrong count")
stp_fault_text (MissingSection section) = section_text section (codes " is missing")
stp_fault_text NoTerminals = codes "no terminals"
stp_fault_text (NoCoordinates node) = number_text (codes "node ") node (codes " has no coordinates")
stp_fault_text (TooManyPoints node) = number_text (codes "more than 50 points at node ") node (codes "")
stp_fault_text (Memory error) = codes "out of memory"

-- the terminals have more than 50 distinct points
abbrev pub stp_passes_limit : StpFault → Bool
stp_passes_limit (TooManyPoints node) = true
stp_passes_limit fault = false

-- want of memory, which is no fault of the bytes
abbrev pub IsMemory : StpFault → Type 0
IsMemory (Memory error) = Unit {0}
IsMemory fault = ⊥
