-- What sources, sinks and a shelf in memory show to contracts.
use Rattle.std.specs.Prelude.{ℕ, List, [], ◌∷◌, None, Some, ◌-◌, ◌^◌, drop, ◌++◌, length}
use Rattle.rst_outside.specs.Counts.{next_count}
use Rattle.rst_outside.specs.Source.{SourceState}
use Rattle.rst_outside.specs.Sink.{SinkState}
use Rattle.rst_outside.specs.Shelf.{ShelfState}

-- The bytes that are still to come, how many come at most in one call, which calls fail, counted from 0,
-- and how many calls there were and failed so far.
pub record MemSourceState : Type 0 where
  pub rest : List ℕ
  pub step : ℕ
  pub failing : List ℕ
  pub calls : ℕ
  pub faults : ℕ

-- What a source in memory shows as a source.
abbrev pub source_state_of : MemSourceState → SourceState
source_state_of s = record { faults = s.faults; rest = Some s.rest }

-- A source in memory that gave n bytes.
abbrev pub after_read : MemSourceState → ℕ → MemSourceState
after_read s n = record s { rest = drop n s.rest; calls = next_count s.calls }

-- A source in memory whose read failed.
abbrev pub after_failed_read : MemSourceState → MemSourceState
after_failed_read s = record s { calls = next_count s.calls; faults = next_count s.faults }

-- The bytes that were taken, how many more are, how many are at most in one call, which calls fail, counted
-- from 0, and how many calls there were and failed so far.
pub record MemSinkState : Type 0 where
  pub taken : List ℕ
  pub room : ℕ
  pub step : ℕ
  pub failing : List ℕ
  pub calls : ℕ
  pub faults : ℕ

-- The room that is sure: what is left where no call fails, and else none.
abbrev pub sure_room : List ℕ → ℕ → ℕ
sure_room [] room = room
sure_room (call ∷ calls) room = 0

-- What a sink in memory shows as a sink.
abbrev pub sink_state_of : MemSinkState → SinkState
sink_state_of s = record { faults = s.faults; sure = sure_room s.failing s.room; taken = Some s.taken }

-- A sink in memory that took these bytes.
abbrev pub after_write : MemSinkState → List ℕ → MemSinkState
after_write s bytes = record s { taken = s.taken ++ bytes; room = s.room - length bytes; calls = next_count s.calls }

-- A sink in memory whose write failed.
abbrev pub after_failed_write : MemSinkState → MemSinkState
after_failed_write s = record s { calls = next_count s.calls; faults = next_count s.faults }

-- The files with the bytes of their names, which calls fail, counted from 0, and how many calls there were and
-- failed so far.
pub record MemShelfState : Type 0 where
  pub files : List (List ℕ × List ℕ)
  pub failing : List ℕ
  pub calls : ℕ
  pub faults : ℕ

-- What a shelf in memory shows as a shelf.
abbrev pub shelf_state_of : MemShelfState → ShelfState
shelf_state_of s = record { faults = s.faults; files = Some s.files }

-- A shelf in memory after a read.
abbrev pub after_read_at : MemShelfState → MemShelfState
after_read_at s = record s { calls = next_count s.calls }

-- A shelf in memory whose read failed.
abbrev pub after_failed_read_at : MemShelfState → MemShelfState
after_failed_read_at s = record s { calls = next_count s.calls; faults = next_count s.faults }

-- What a source of these bytes shows that never fails.
abbrev pub sure_source_state : List ℕ → SourceState
sure_source_state rest = record { faults = 0; rest = Some rest }

-- What a sink that takes all bytes shows: it surely has room for more than any slice has, and it doesn't tell what
-- it took.
abbrev pub sure_sink_state : {T : Type 0} → T → SinkState
sure_sink_state s = record { faults = 0; sure = 2 ^ 64; taken = None }
