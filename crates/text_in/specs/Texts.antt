-- What several formats say alike of a fault of a text.
use Rattle.std.specs.Prelude.{ℕ, List, ◌++◌, codes, decimal}

-- what is said of a line, which counts from 1
abbrev pub line_text : ℕ → List ℕ → List ℕ
line_text line said = codes "line " ++ decimal line ++ said

-- what is said of points' grid whose edges sum to a total that is too great
abbrev pub total_text : ℕ → List ℕ
total_text total = codes "the grid is too long: " ++ decimal total
