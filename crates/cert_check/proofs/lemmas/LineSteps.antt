-- Judging one line after another.
use Rattle.std.proofs.Common.{ℕ, suc, List, ◌∷◌, arith}
use Rattle.answer_text.specs.Events.{Told}
use Rattle.cert_check.specs.Named.{Named}
use Rattle.cert_check.proofs.lemmas.ToldParts.{numbered}
use Rattle.tree_judge.specs.declared.cause.Cause.{Cause}
use Rattle.cert_check.specs.declared.verdict.Finished.{Finished}
use Rattle.cert_check.specs.Lines.Behind.{Ended}
use Rattle.tree_judge.specs.Judged.{SoFar}
use Rattle.cert_check.specs.Judged.{Passes, Fails, Judges}

-- the next line and those behind it are judged behind what was told
abbrev pub JudgesTold : Named → SoFar → ℕ → List Told → Finished → Type 0
JudgesTold N s n ts f = Judges N s (numbered n ts) Ended f

-- a line that cannot fail passes
pub passed : (N : Named) (s : SoFar) (n : ℕ) (t : Told) (ts : List Told) (f : Finished)
    → ((cause : Cause) → Fails N s n t.0 t.1 cause f.network → ⊥) → JudgesTold N s n (t ∷ ts) f
    → (s' : SoFar) × Passes N s t.0 t.1 s' × JudgesTold N s' (suc n) ts f
passed N s n t ts f never judged = grind arith
