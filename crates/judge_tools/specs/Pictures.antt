-- A plot of a network, as an answer of a tool.
use Rattle.std.specs.Prelude.{ℕ, ◌≡◌, List, length}
use Rattle.hanan_grid.specs.Grid.{hanan_grid_of}
use Rattle.printed_texts.specs.Plot.{plot_text}
use Rattle.judge_tools.specs.declared.picture.Picture.{Picture}

abbrev pub picture_text : Picture → List ℕ
picture_text picture = plot_text picture.grid picture.network

-- the network is one of the grid's edges
abbrev pub HasEdges : Picture → Type 0
HasEdges picture = length picture.network ≡ length (hanan_grid_of picture.grid).edges
