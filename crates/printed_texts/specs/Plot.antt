-- The plot of a network on a grid, in PostScript. How the plane lies on the page is this project's own choice.
use Rattle.std.specs.Prelude.{ℕ, ◌+◌, ◌-◌, ◌*◌, ◌/◌, max, ℤ, ◌-ℤ◌, unsigned_abs, Bool, List, ◌++◌, length, flat_map, codes}
use Rattle.std.specs.Fmt.{decimal}
use Rattle.points_in.specs.declared.point.Point.{Point}
use Rattle.net_graph.specs.Members.{members_of}
use Rattle.hanan_grid.specs.declared.name.EdgeName.{EdgeName}
use Rattle.hanan_grid.specs.Lines.{line_at}
use Rattle.hanan_grid.specs.Grid.{xs_of, ys_of}
use Rattle.hanan_grid.specs.Names.{name_of_edge}
use Rattle.printed_texts.specs.declared.scale.Scale.{Scale}
use Rattle.printed_texts.specs.declared.scale.PagePoint.{PagePoint}

-- how far it is from the first of ascending lines to the last
abbrev pub extent_of : List ℤ → ℕ
extent_of lines = unsigned_abs (line_at lines (length lines - 1) -ℤ line_at lines 0)

-- How the grid of the points lies on the page: by its least coordinates, and by the greater of its width and its
-- height.
abbrev pub scale_of : List Point → Scale
scale_of ps = record {
  left = line_at (xs_of ps) 0;
  low = line_at (ys_of ps) 0;
  span = max (extent_of (xs_of ps)) (extent_of (ys_of ps));
}

-- Where a coordinate lies along a side of the page: the least one at 36, and one that is the span away at 576. A span
-- of 0 stands for 1.
abbrev pub along : ℕ → ℤ → ℤ → ℕ
along span least z = 36 + unsigned_abs (z -ℤ least) * 540 / max span 1

-- where a point lies on the page
abbrev pub on_page : Scale → Point → PagePoint
on_page scale p = record { x = along scale.span scale.left p.x; y = along scale.span scale.low p.y }

-- a point of the page
abbrev pub page_text : PagePoint → List ℕ
page_text at = decimal at.x ++ codes " " ++ decimal at.y

-- a stroke from one point of the page to another
abbrev pub stroke : PagePoint → PagePoint → List ℕ
stroke from to =
    codes "newpath\n" ++ page_text from ++ codes " moveto\n" ++ page_text to ++ codes " lineto\nstroke\n"

-- the stroke of an edge by its name, from its lower-numbered vertex to the other one
abbrev pub name_stroke : Scale → EdgeName → List ℕ
name_stroke scale name =
    stroke (on_page scale (record { x = name.x1; y = name.y1 })) (on_page scale (record { x = name.x2; y = name.y2 }))

-- the stroke of the grid's edge of a number
abbrev pub edge_stroke : Scale → List Point → ℕ → List ℕ
edge_stroke scale ps edge = name_stroke scale (name_of_edge ps edge)

-- the cross of a place on the page: a stroke to the right, and one upwards
abbrev pub cross_at : PagePoint → List ℕ
cross_at at =
    stroke (record { x = at.x - 3; y = at.y }) (record { x = at.x + 3; y = at.y })
    ++ stroke (record { x = at.x; y = at.y - 3 }) (record { x = at.x; y = at.y + 3 })

-- the cross of a point
abbrev pub cross : Scale → Point → List ℕ
cross scale p = cross_at (on_page scale p)

-- the strokes: of the network's edges in ascending number, and then of the points in order
abbrev pub strokes_text : List Point → List Bool → List ℕ
strokes_text ps network =
    flat_map (edge_stroke (scale_of ps) ps) (members_of network) ++ flat_map (cross (scale_of ps)) ps

-- the whole plot
unfoldable pub plot_text : List Point → List Bool → List ℕ
plot_text ps network = codes "%!\n" ++ strokes_text ps network ++ codes "showpage\n"
