-- A tool that finds something in the graph that a text gives finds no fault in a text without one.
use Rattle.std.proofs.Common.{ℕ, List, Result, Err, arith}
use Rattle.net_graph.specs.Graph.{Graph}
use Rattle.tool_frame.specs.declared.take.TheConstants.{TEXT_LIMIT}
use Rattle.tool_frame.specs.declared.text_fault.TextFault.{TextFault}
use Rattle.tool_frame.specs.declared.text_fault.TextFault.TheVariants.{Input, Text}
use Rattle.tool_frame.specs.Outside.{Readable}
use Rattle.tool_frame.specs.FromText.{FromText}
use Rattle.tool_frame.specs.Complete.{HasInput}
use Rattle.tool_frame.specs.TakingLaws.{input_is_taken, whole_input_is}
use Rattle.graph_tools.specs.Found.{FindsIn}

module _ {F : Type 0} (Reads : List ℕ → Result Graph F → Type 0) where
  -- No fault is found where the whole input has none.
  pub found_faultless : {A : Type 0} (Is : Graph → A → Type 0) (before after : Readable) (bytes : List ℕ) →
      HasInput TEXT_LIMIT before.input after.input bytes → ((fault : F) → Reads bytes (Err fault) → ⊥) →
      (fault : TextFault F) → FromText {V = A} TEXT_LIMIT (FindsIn Reads Is) before after (Err fault) → ⊥
  found_faultless Is before after bytes has none (Input fault) is =
      input_is_taken TEXT_LIMIT before.input after.input bytes fault has is
  found_faultless Is before after bytes has none (Text fault) (taken, whole, is) =
      grind (arith, whole_input_is TEXT_LIMIT before.input after.input bytes taken has whole)
