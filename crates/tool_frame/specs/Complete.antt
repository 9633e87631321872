-- When nothing keeps an input or a file from being read whole.
use Rattle.std.specs.Prelude.{ℕ, ◌≡◌, ◌≤◌, List, length, Some}
use Rattle.rst_outside.specs.Counts.{Rose}
use Rattle.rst_outside.specs.Source.{SourceState}
use Rattle.rst_outside.specs.Shelf.{ShelfState, file_named}

-- The source tells its rest, which is within the limit, and no read of it fails.
pub record HasInput (limit : ℕ) (before after : SourceState) (bytes : List ℕ) : Type 0 where
  pub told : before.rest ≡ Some bytes
  pub within : length bytes ≤ limit
  pub reads : Rose before.faults after.faults → ⊥

-- The shelf tells its files, the one of this name is within the limit, and no read fails.
pub record HasFile (limit : ℕ) (before after : ShelfState) (name bytes : List ℕ) : Type 0 where
  pub files : List (List ℕ × List ℕ)
  pub told : before.files ≡ Some files
  pub named : file_named files name ≡ Some bytes
  pub within : length bytes ≤ limit
  pub reads : Rose before.faults after.faults → ⊥
