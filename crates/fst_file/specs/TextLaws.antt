-- A file as a text of sections.
use Rattle.std.specs.Prelude.{ℕ, List}
use Rattle.std.proofs.Common.{arith}
use Rattle.section_text.specs.Text.{Spells}
use Rattle.fst_file.specs.Value.{FstValue}
use Rattle.fst_file.specs.Format.{fst_format}
use Rattle.fst_file.specs.Text.{SpellsFstFile}

pub spelled_file : (bytes : List ℕ) (v : FstValue) → Spells fst_format bytes v → SpellsFstFile bytes v
spelled_file bytes v is = grind arith

pub file_spelled : (bytes : List ℕ) (v : FstValue) → SpellsFstFile bytes v → Spells fst_format bytes v
file_spelled bytes v is = grind arith
