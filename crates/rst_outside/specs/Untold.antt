-- Sources, sinks and shelves of the system, which tell no contents, but only how many calls failed.
use Rattle.std.specs.Prelude.{ℕ, None}
use Rattle.rst_outside.specs.Source.{SourceState}
use Rattle.rst_outside.specs.Sink.{SinkState}
use Rattle.rst_outside.specs.Shelf.{ShelfState}

-- A reader, a writer or what reaches files, and how many calls on it failed so far.
pub record Counted (T : Type 0) : Type 0 where
  pub inner : T
  pub faults : ℕ

-- A source that doesn't tell what is still to come.
abbrev pub untold_source : {T : Type 0} → Counted T → SourceState
untold_source s = record { faults = s.faults; rest = None }

-- A sink that doesn't tell what it took, and has no sure room.
abbrev pub untold_sink : {T : Type 0} → Counted T → SinkState
untold_sink s = record { faults = s.faults; sure = 0; taken = None }

-- A shelf that doesn't tell its files.
abbrev pub untold_shelf : {T : Type 0} → Counted T → ShelfState
untold_shelf s = record { faults = s.faults; files = None }
