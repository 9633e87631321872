-- What is found of an answer that comes in, by what was read.
use Rattle.std.specs.Prelude.{ℕ, ◌≡◌, ◌<◌, ◌≤◌, Bool, List, length, Result, Ok, Err}
use Rattle.rst_outside.specs.Source.{SourceState}
use Rattle.net_graph.specs.Network.{IsLowerBound}
use Rattle.cert_check.specs.declared.verdict.Finished.{Finished}
use Rattle.cert_check.specs.declared.verdict.Verdict.TheVariants.{Accepted}
use Rattle.cert_check.specs.Named.{Named}
use Rattle.cert_check.specs.Rulings.{verdict_of}
use Rattle.cert_check.specs.Verdicts.{IsVerdictIn, byte_limit}
use Rattle.cert_check.specs.Accepted.{AcceptsAsIn, IsAcceptedIn, IsAccepting}
use Rattle.tool_frame.specs.declared.take.InputFault.{InputFault}
use Rattle.tool_frame.specs.declared.take.InputFault.TheVariants.{TooLong}
use Rattle.tool_frame.specs.Taking.{IsWholeInput, IsInputFault}
use Rattle.verdict_line.specs.declared.judged_input.Judged.{Judged}

-- The verdict on bytes, with what follows of it: of bytes that aren't too many it accepts exactly those that should be
-- accepted, it says what the answer says, and no network of the graph is shorter than the bound.
pub record JudgesBytes (N : Named) (bytes : List ℕ) (f : Finished) : Type 0 where
  pub verdict : IsVerdictIn N bytes f
  pub accepted : (length bound : ℕ) (optimal : Bool) → f.verdict ≡ Accepted length bound optimal
      → AcceptsAsIn N bytes f.network length bound optimal
  pub complete : length bytes ≤ byte_limit → IsAcceptedIn N bytes → IsAccepting f.verdict
  pub bound : (length bound : ℕ) (optimal : Bool) → f.verdict ≡ Accepted length bound optimal
      → IsLowerBound N.graph bound

-- what is found of an answer, as the verdict on it
abbrev pub finished_of : Judged → Finished
finished_of judged = record { verdict = verdict_of judged.ruling; network = judged.network }

-- This is found of the bytes; or they are more than the limit.
abbrev pub TellsVerdict : Named → ℕ → List ℕ → Result Judged InputFault → Type 0
TellsVerdict N limit bytes (Ok judged) = JudgesBytes N bytes (finished_of judged)
TellsVerdict N limit bytes (Err fault) = (fault ≡ TooLong limit) × (limit < length bytes)

-- The input was read to its end, and this is found of its bytes; or the input is at fault.
abbrev pub JudgesInput : Named → ℕ → SourceState → SourceState → Result Judged InputFault → Type 0
JudgesInput N limit before after (Ok judged) =
    (bytes : List ℕ) × IsWholeInput limit before after bytes × JudgesBytes N bytes (finished_of judged)
JudgesInput N limit before after (Err fault) = IsInputFault limit before after fault
