-- How the edges of a grid are numbered: in strips of edges that join successive vertices to those a step further on.
use Rattle.std.specs.Prelude.{ℕ, ◌≡◌, ◌+◌, ◌-◌, ◌*◌, ◌<◌, ◌≤◌, min, length, slice_get, Some}
use Rattle.net_graph.specs.declared.edge.Edge.{Edge}
use Rattle.net_graph.specs.Graph.{Graph}
use Rattle.cert_check.specs.declared.border.Layout.{Layout}
use Rattle.cert_check.specs.declared.border.Strip.{Strip}

-- How many edges stand before a strip: a row has one horizontal edge less than columns, and behind the rows come the
-- vertical edges from each row to the next, one a column.
abbrev pub edges_before : Layout → ℕ → ℕ
edges_before l place = min place l.rows * (l.columns - 1) + (place - l.rows) * l.columns

-- the edge of this number has these ends
abbrev pub HasEnds : Graph → ℕ → ℕ → ℕ → Type 0
HasEnds g n a b = (e : Edge) → slice_get g.edges n ≡ Some e → (e.a ≡ a) × (e.b ≡ b)

-- the graph is numbered as a grid of so many columns and rows, of which there are 1 to 50
pub record IsLaidOut (g : Graph) (l : Layout) : Type 0 where
  pub some_columns : 0 < l.columns
  pub few_columns : l.columns ≤ 50
  pub some_rows : 0 < l.rows
  pub few_rows : l.rows ≤ 50
  pub vertices : g.vertices ≡ l.columns * l.rows
  pub edges : length g.edges ≡ l.rows * (l.columns - 1) + (l.rows - 1) * l.columns
  pub right : (row column : ℕ) → row < l.rows → column + 1 < l.columns →
      HasEnds g (row * (l.columns - 1) + column) (row * l.columns + column) (row * l.columns + column + 1)
  pub up : (row column : ℕ) → row + 1 < l.rows → column < l.columns →
      HasEnds g (l.rows * (l.columns - 1) + row * l.columns + column)
      (row * l.columns + column) (row * l.columns + column + l.columns)

-- the edges of the strip are those of the graph at its numbers
pub record IsStrip (g : Graph) (s : Strip) : Type 0 where
  pub few : s.count ≤ 50
  pub vertices : s.vertex + s.step + s.count ≤ g.vertices
  pub edges : s.edge + s.count ≤ length g.edges
  pub ends : (i : ℕ) → i < s.count → HasEnds g (s.edge + i) (s.vertex + i) (s.vertex + s.step + i)
