use Rattle.std.specs.Prelude.{All}
use Rattle.hanan_grid.specs.Grid.{hanan_grid_of}
use Rattle.answer_text.specs.Answers.{IsCutOn}
use Rattle.point_calls.proofs.answer.described.cuts.Given as goal

-- each cut so far is one on the grid
abbrev pub invariant-loop-line : goal.invariant-loop-line
invariant-loop-line l = All (IsCutOn (hanan_grid_of l.grid)) l.cuts
