-- The text that tells the bounds of a grid's edges (this project's own format).
use Rattle.std.specs.Prelude.{ℕ, Bool, true, List, ◌++◌, length, flat_map, filter, codes, Option, Some, None, nat_lt, slice_index}
use Rattle.std.specs.Fmt.{decimal}
use Rattle.std.specs.List.{range_with_len}
use Rattle.points_in.specs.declared.point.Point.{Point}
use Rattle.hanan_grid.specs.declared.name.EdgeName.{EdgeName}
use Rattle.hanan_grid.specs.Names.{name_of_edge}
use Rattle.answer_text.specs.Words.{name_words}

-- whether a bound is above the threshold, as each is where there is none
abbrev pub is_above : Option ℕ → ℕ → Bool
is_above None bound = true
is_above (Some most) bound = nat_lt most bound

-- the edges that have a line, by their numbers, ascending: those whose bound is above the threshold
abbrev pub listed : Option ℕ → List ℕ → List ℕ
listed above bounds = filter (λ e. is_above above (slice_index bounds e)) (range_with_len 0 (length bounds))

-- the line of an edge and its bound
abbrev pub bound_line : EdgeName → ℕ → List ℕ
bound_line e bound = name_words e ++ codes " " ++ decimal bound ++ codes "\n"

-- the line of the edge of a number
abbrev pub edge_text : List Point → List ℕ → ℕ → List ℕ
edge_text ps bounds e = bound_line (name_of_edge ps e) (slice_index bounds e)

-- the first two lines, where so many edges have a line
abbrev pub head_text : ℕ → List ℕ
head_text count = codes "rst slack 1\nedges " ++ decimal count ++ codes "\n"

-- the whole text: of points, a threshold, and the bounds of the edges of the points' grid
unfoldable pub slack_text : List Point → Option ℕ → List ℕ → List ℕ
slack_text ps above bounds =
    head_text (length (listed above bounds)) ++ flat_map (edge_text ps bounds) (listed above bounds) ++ codes "end\n"
