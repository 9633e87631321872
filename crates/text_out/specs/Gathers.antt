-- What a writer of a text does whose bytes wait in a block before they go to a sink.
--
-- A block is the list of the bytes that wait, or nothing once the sink has failed. What was written so far is
-- then what the sink took, and after it the bytes that wait.
use Rattle.std.specs.Prelude.{◌≡◌, ℕ, List, ◌++◌, Option, None, Some, Result, IsErr, ⊤}
use Rattle.rst_outside.specs.Sink.{SinkState, Wrote, CutShort, Writes}

-- The text followed the waiting bytes: a front of both was appended to what the sink took, and the rest waits.
pub record Gathered (before : SinkState) (waiting text : List ℕ) (after : SinkState) (waiting' : List ℕ) : Type 0 where
  pub front : List ℕ
  pub split : waiting ++ text ≡ front ++ waiting'
  pub wrote : Wrote before front after

-- The clause of every writer of a text over a block: the text was gathered, or the sink failed and what waited
-- with the text was cut short. Where the sink had failed before, nothing happens.
pub record Gathers (before : SinkState) (block : Option (List ℕ)) (text : List ℕ) (after : SinkState)
    (block' : Option (List ℕ)) : Type 0 where
  pub gathered : (waiting waiting' : List ℕ) → block ≡ Some waiting → block' ≡ Some waiting' →
      Gathered before waiting text after waiting'
  pub short : (waiting : List ℕ) → block ≡ Some waiting → block' ≡ None → CutShort before (waiting ++ text) after
  pub failed : block ≡ None → (block' ≡ None) × (after ≡ before)

-- The end of a text: what waits is written out. It fails where the sink has failed, now or before.
pub record Finishes {E : Type 0} (before : SinkState) (block : Option (List ℕ)) (after : SinkState)
    (result : Result ⊤ E) : Type 0 where
  pub written : (waiting : List ℕ) → block ≡ Some waiting → Writes before waiting after result
  pub failed : block ≡ None → IsErr result × (after ≡ before)
