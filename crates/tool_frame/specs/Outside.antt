-- What a run can read and change.
use Rattle.rst_outside.specs.Source.{SourceState}
use Rattle.rst_outside.specs.Sink.{SinkState}
use Rattle.rst_outside.specs.Shelf.{ShelfState}

-- what a tool reads
pub record Readable : Type 0 where
  pub input : SourceState
  pub shelf : ShelfState

-- what a run writes
pub record Writable : Type 0 where
  pub out : SinkState
  pub err : SinkState

-- all that a run can change
pub record Outside : Type 0 where
  pub read : Readable
  pub written : Writable

abbrev pub readable : SourceState → ShelfState → Readable
readable input shelf = record { input = input; shelf = shelf }

abbrev pub writable : SinkState → SinkState → Writable
writable out err = record { out = out; err = err }

abbrev pub outside : SourceState → SinkState → SinkState → ShelfState → Outside
outside input out err shelf = record { read = readable input shelf; written = writable out err }
