-- The verdict on bytes as an answer.
use Rattle.std.specs.Prelude.{ℕ, ◌≡◌, ◌-◌, ◌^◌, ◌<◌, ◌≤◌, List, length, take, ◌⊎◌}
use Rattle.points_in.specs.declared.point.Point.{Point}
use Rattle.answer_text.specs.declared.event.AnswerEvent.{AnswerEvent}
use Rattle.cert_check.specs.Named.{Named, on_grid}
use Rattle.cert_check.specs.declared.verdict.Verdict.TheVariants.{TooLong}
use Rattle.cert_check.specs.declared.verdict.Finished.{Finished}
use Rattle.cert_check.specs.Lines.{Behind, ReadsLines}
use Rattle.tree_judge.specs.Judged.{nothing_told}
use Rattle.cert_check.specs.Judged.{Judges}

-- the verdict on bytes of any number: that on the lines that they tell
pub record IsJudged (N : Named) (bytes : List ℕ) (f : Finished) : Type 0 where
  pub events : List AnswerEvent
  pub behind : Behind
  pub read : ReadsLines N.form bytes events behind
  pub judged : Judges N (nothing_told N.graph) events behind f

-- an answer has no more bytes than this
abbrev pub byte_limit : ℕ
byte_limit = 2 ^ 32 - 1

-- few enough bytes have the verdict of their lines
pub record IsVerdictWithin (N : Named) (bytes : List ℕ) (f : Finished) : Type 0 where
  pub few : length bytes ≤ byte_limit
  pub judged : IsJudged N bytes f

-- more bytes are too many, whatever they are; the edges are those that the first of them tell
pub record IsVerdictBeyond (N : Named) (bytes : List ℕ) (f : Finished) : Type 0 where
  pub many : byte_limit < length bytes
  pub verdict : f.verdict ≡ TooLong
  pub first : Finished
  pub judged : IsJudged N (take byte_limit bytes) first
  pub network : f.network ≡ first.network

-- the verdict on bytes as an answer in a graph
abbrev pub IsVerdictIn : Named → List ℕ → Finished → Type 0
IsVerdictIn N bytes f = IsVerdictWithin N bytes f ⊎ IsVerdictBeyond N bytes f

-- and as one for terminals
abbrev pub IsVerdict : List Point → List ℕ → Finished → Type 0
IsVerdict ps bytes f = IsVerdictIn (on_grid ps) bytes f
