-- How a tool leaves what it reads, however its run ends.
use Rattle.std.specs.Prelude.{◌≡◌}
use Rattle.tool_frame.specs.Outside.{Readable}
use Rattle.tool_frame.specs.Taking.{TakesSome, KeepsFiles}

-- a tool that reads the input alone
pub record LeavesShelf (before after : Readable) : Type 0 where
  pub input : TakesSome before.input after.input
  pub shelf : after.shelf ≡ before.shelf

-- a tool that reads the input and files
pub record LeavesFiles (before after : Readable) : Type 0 where
  pub input : TakesSome before.input after.input
  pub shelf : KeepsFiles before.shelf after.shelf

-- a tool that reads nothing
pub record LeavesAll (before after : Readable) : Type 0 where
  pub input : after.input ≡ before.input
  pub shelf : after.shelf ≡ before.shelf
