use Rattle.std.proofs.Common.{◌≡◌, drop}
use Rattle.rst_outside.specs.Shelf.{file_named}
use Rattle.rst_outside.proofs.memory.shelf.bytes_named.Given as goal

-- No file before this one has the name.
abbrev pub invariant-loop-file : goal.invariant-loop-file
invariant-loop-file l = file_named l.files l.name ≡ file_named (drop l.file-index l.files) l.name
