-- There is one verdict on bytes as an answer.
use Rattle.std.specs.Prelude.{ℕ, ◌≡◌, List}
use Rattle.points_in.specs.declared.point.Point.{Point}
use Rattle.net_graph.specs.Graph.{Graph}
use Rattle.cert_check.specs.Named.{IsNamed, Named, in_graph, on_grid}
use Rattle.cert_check.specs.declared.verdict.Finished.{Finished}
use Rattle.cert_check.specs.Verdicts.{IsVerdictIn}

-- bytes have one verdict at most as an answer in a graph, and one set of edges that came before it
abbrev pub HasOneVerdict : Named → Type 0
HasOneVerdict N = (bytes : List ℕ) (f f' : Finished) → IsVerdictIn N bytes f → IsVerdictIn N bytes f' → f ≡ f'

-- it is so in every graph whose labels tell its edges and its vertices from one another; on the grid of terminals and
-- in a graph by numbers they do
abbrev pub OneVerdict : Type 0
OneVerdict = (N : Named) → IsNamed N → HasOneVerdict N

abbrev pub OneVerdictOnGrids : Type 0
OneVerdictOnGrids = (ps : List Point) → HasOneVerdict (on_grid ps)

abbrev pub OneVerdictInGraphs : Type 0
OneVerdictInGraphs = (g : Graph) → HasOneVerdict (in_graph g)
