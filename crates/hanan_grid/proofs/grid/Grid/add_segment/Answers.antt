use Rattle.hanan_grid.specs.StretchLaws.{Adds-row_stretch, Adds-column_stretch}
use Rattle.hanan_grid.proofs.lemmas.Stretches.{row_found, column_found, not_level}
use Rattle.hanan_grid.proofs.grid.Grid.add_segment.Goals as goal

pub add_row-requires-clause-row : goal.add_row-requires-clause-row
add_row-requires-clause-row c =
    let start = c.crossing_place-start in
    (row_found c.args.self.now c.args.from c.args.to _ _ _ c.requires.stretch (c.is_level.ensures.0 c.if-is_level.true) start.ensures.row start.ensures.column c.crossing_place-end.ensures.column).row_in

pub add_row-requires-clause-from : goal.add_row-requires-clause-from
add_row-requires-clause-from c =
    let start = c.crossing_place-start in
    (row_found c.args.self.now c.args.from c.args.to _ _ _ c.requires.stretch (c.is_level.ensures.0 c.if-is_level.true) start.ensures.row start.ensures.column c.crossing_place-end.ensures.column).a_in

pub add_row-requires-clause-to : goal.add_row-requires-clause-to
add_row-requires-clause-to c =
    let start = c.crossing_place-start in
    (row_found c.args.self.now c.args.from c.args.to _ _ _ c.requires.stretch (c.is_level.ensures.0 c.if-is_level.true) start.ensures.row start.ensures.column c.crossing_place-end.ensures.column).b_in

pub add_column-requires-clause-column : goal.add_column-requires-clause-column
add_column-requires-clause-column c =
    let start = c.crossing_place-start in
    (column_found c.args.self.now c.args.from c.args.to _ _ _ c.requires.stretch (not_level c.args.from c.args.to c.is_level.result c.is_level.ensures c.if-is_level.false) start.ensures.column start.ensures.row c.crossing_place-end.ensures.row).column_in

pub add_column-requires-clause-from : goal.add_column-requires-clause-from
add_column-requires-clause-from c =
    let start = c.crossing_place-start in
    (column_found c.args.self.now c.args.from c.args.to _ _ _ c.requires.stretch (not_level c.args.from c.args.to c.is_level.result c.is_level.ensures c.if-is_level.false) start.ensures.column start.ensures.row c.crossing_place-end.ensures.row).a_in

pub add_column-requires-clause-to : goal.add_column-requires-clause-to
add_column-requires-clause-to c =
    let start = c.crossing_place-start in
    (column_found c.args.self.now c.args.from c.args.to _ _ _ c.requires.stretch (not_level c.args.from c.args.to c.is_level.result c.is_level.ensures c.if-is_level.false) start.ensures.column start.ensures.row c.crossing_place-end.ensures.row).b_in

pub returns-then-is_level : goal.returns-then-is_level
returns-then-is_level c =
    let start = c.crossing_place-start in
    let end = c.crossing_place-end in
    Adds-row_stretch c.args.self.now c.args.from c.args.to start.result.row start.result.column end.result.column c.args.set.now c.add_row.new.set
    (row_found c.args.self.now c.args.from c.args.to _ _ _ c.requires.stretch (c.is_level.ensures.0 c.if-is_level.true) start.ensures.row start.ensures.column end.ensures.column)
    c.add_row.ensures

pub returns-else-is_level : goal.returns-else-is_level
returns-else-is_level c =
    let start = c.crossing_place-start in
    let end = c.crossing_place-end in
    Adds-column_stretch c.args.self.now c.args.from c.args.to start.result.column start.result.row end.result.row c.args.set.now c.add_column.new.set
    (column_found c.args.self.now c.args.from c.args.to _ _ _ c.requires.stretch (not_level c.args.from c.args.to c.is_level.result c.is_level.ensures c.if-is_level.false) start.ensures.column start.ensures.row end.ensures.row)
    c.add_column.ensures
