-- What a reader of files answers is what the bytes come to.
use Rattle.std.proofs.Common.{ℕ, ◌≡◌, List, Result, Ok, Err, IfOk, IfErr, sym, subst}
use Rattle.section_text.specs.Judged.{IsFirstFault}
use Rattle.fst_file.specs.declared.fault.FstFault.{FstFault}
use Rattle.fst_file.specs.Value.{FstValue}
use Rattle.fst_file.specs.Format.{fst_format}
use Rattle.fst_file.specs.Text.{SpellsFstFile}
use Rattle.fst_file.specs.Said.{IsMemory}
use Rattle.tool_frame.specs.declared.stop.Stop.{Stop}
use Rattle.tool_frame.specs.declared.stop.Stop.TheVariants.{Fault, Memory}
use Rattle.tool_frame.specs.Stops.{IfFound}
use Rattle.tree_inputs.specs.Files.{ReadsFst}

-- an answer of the reader that is no want of memory
pub reads_apart : (bytes : List ℕ) (read : Result FstValue FstFault) (found : Result FstValue (Stop FstFault)) →
    IfOk read (SpellsFstFile bytes) → IfErr read (IsFirstFault fst_format bytes) → IfFound found (λ r. r ≡ read) →
    IfFound found (λ r. IfErr r (λ fault. IsMemory fault → ⊥)) → IfFound found (ReadsFst bytes)
reads_apart bytes read (Ok file) spelled first same told = subst (λ r. IfOk r (SpellsFstFile bytes)) (sym same) spelled
reads_apart bytes read (Err (Fault fault)) spelled first same told =
    (subst (λ r. IfErr r (IsFirstFault fst_format bytes)) (sym same) first, told)
reads_apart bytes read (Err (Memory error)) spelled first same told = tt
