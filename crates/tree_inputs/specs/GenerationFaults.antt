-- What is said where points give no file of trees, and the statuses that this ends with.
use Rattle.std.specs.Prelude.{ℕ, List, codes}
use Rattle.tool_frame.specs.declared.status.FaultStatus.{FaultStatus}
use Rattle.tool_frame.specs.declared.status.FaultStatus.TheVariants.{TooLarge}
use Rattle.tool_frame.specs.FaultTexts.{list_fault_text, list_fault_status}
use Rattle.tree_inputs.specs.declared.generation_fault.GenerationFault.{GenerationFault}
use Rattle.tree_inputs.specs.declared.generation_fault.GenerationFault.TheVariants.{List as InList, TooManyTrees}

abbrev pub generation_fault_text : GenerationFault → List ℕ
generation_fault_text (InList fault) = list_fault_text fault
generation_fault_text TooManyTrees = codes "more than 20000 trees"

abbrev pub generation_fault_status : GenerationFault → FaultStatus
generation_fault_status (InList fault) = list_fault_status fault
generation_fault_status TooManyTrees = TooLarge
