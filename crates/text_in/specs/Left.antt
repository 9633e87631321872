-- The words that are left of a line.
use Rattle.std.specs.Prelude.{ℕ, List, [], Option, Some, None}
use Rattle.std.specs.Borrow.{Bor}
use Rattle.text_in.specs.Lines.{words_of}

-- those of what stands behind the last blank that was passed, and none behind the last word
abbrev pub words_left : Option (Bor (List ℕ)) → List (List ℕ)
words_left None = []
words_left (Some bytes) = words_of bytes.now
