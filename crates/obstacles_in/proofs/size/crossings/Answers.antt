-- There are at most 100 lines in each direction.
use Rattle.std.specs.Prelude.{◌≡◌, ◌≤◌, length}
use Rattle.std.proofs.Common.{arith, ap, ◌∙◌}
use Rattle.hanan_grid.specs.Grid.{xs_of, ys_of}
use Rattle.obstacles_in.specs.Obstacles.{columns_of, rows_of}
use Rattle.obstacles_in.specs.Faults.{value_of}
use Rattle.obstacles_in.proofs.lemmas.Marks.{few_columns, few_rows, few_crossings}
use Rattle.obstacles_in.proofs.size.crossings.Goals as goal

pub overflow_cast-result : goal.overflow_cast-result
overflow_cast-result c =
    let lines : c.in_ok-columns.columns.items ≡ columns_of (value_of c.args.points.now c.args.boxes.now) =
    c.in_ok-columns.ensures ∙ ap xs_of (c.as_slice.ensures.value ∙ c.in_ok-marks.ensures) in
    let few = few_columns c.args.points.now c.args.boxes.now c.requires.few_points c.requires.few_boxes in
    omega (arith, ap length lines)

pub overflow_cast-result-2 : goal.overflow_cast-result-2
overflow_cast-result-2 c =
    let lines : c.in_ok-rows.rows.items ≡ rows_of (value_of c.args.points.now c.args.boxes.now) =
    c.in_ok-rows.ensures ∙ ap ys_of (c.as_slice-2.ensures.value ∙ c.in_ok-marks.ensures) in
    let few = few_rows c.args.points.now c.args.boxes.now c.requires.few_points c.requires.few_boxes in
    omega (arith, ap length lines)

pub overflow_mul-result : goal.overflow_mul-result
overflow_mul-result c =
    let ps = c.args.points.now in
    let bs = c.args.boxes.now in
    let columns : c.in_ok-columns.columns.items ≡ columns_of (value_of ps bs) =
    c.in_ok-columns.ensures ∙ ap xs_of (c.as_slice.ensures.value ∙ c.in_ok-marks.ensures) in
    let rows : c.in_ok-rows.rows.items ≡ rows_of (value_of ps bs) =
    c.in_ok-rows.ensures ∙ ap ys_of (c.as_slice-2.ensures.value ∙ c.in_ok-marks.ensures) in
    let few : c.len.result ≤ 100 =
    omega (arith, ap length columns, few_columns ps bs c.requires.few_points c.requires.few_boxes) in
    let few_others : c.len-2.result ≤ 100 =
    omega (arith, ap length rows, few_rows ps bs c.requires.few_points c.requires.few_boxes) in
    omega (arith, few_crossings c.len.result c.len-2.result few few_others)
