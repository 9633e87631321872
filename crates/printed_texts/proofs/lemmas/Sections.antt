-- The sections of a grid, by its graph.
use Rattle.std.proofs.Common.{◌≡◌, List, ◌++◌, ap, sym, ◌∙◌, append_assoc}
use Rattle.points_in.specs.declared.point.Point.{Point}
use Rattle.net_graph.specs.Graph.{Graph}
use Rattle.hanan_grid.specs.Grid.{hanan_grid_of}
use Rattle.printed_texts.specs.Grid.{graph_text, terminals_text, coordinates_text, grid_sections_text}

-- the sections of the grid's graph, one after another
pub same_sections : (ps : List Point) (g g' : Graph) → g ≡ hanan_grid_of ps → g' ≡ hanan_grid_of ps →
    graph_text g ++ (terminals_text g' ++ coordinates_text ps) ≡ grid_sections_text ps
same_sections ps g g' is is' =
    ap (λ h. graph_text h ++ (terminals_text g' ++ coordinates_text ps)) is
    ∙ ap (λ h. graph_text (hanan_grid_of ps) ++ (terminals_text h ++ coordinates_text ps)) is'
    ∙ sym (append_assoc (graph_text (hanan_grid_of ps)) (terminals_text (hanan_grid_of ps)) (coordinates_text ps))
