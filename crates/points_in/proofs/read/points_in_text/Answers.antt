-- What each way out of the reader shows of the text.
use Rattle.std.proofs.Common.{arith}
use Rattle.std.proofs.lemmas.Result.{err_from_is_err_and}
use Rattle.points_in.specs.Reading.{TakesPoint}
use Rattle.points_in.proofs.lemmas.ReadSoFar.{Adds, at_front, after_points, stops_with_cause, read_first, read_added, adding_has_cause}
use Rattle.points_in.proofs.read.points_in_text.Goals as goal

pub returns-in_err-first : goal.returns-in_err-first
returns-in_err-first c =
    grind (arith, err_from_is_err_and c.from_residual.result c.from_residual.ensures.1, stops_with_cause c.args.bytes.now 0 c.in_err-first.field-0.0 (at_front c.args.bytes.now) c.in_err-first.ensures, at_front c.args.bytes.now)

pub loop-points-init : goal.loop-points-init
loop-points-init c = grind (arith, read_first)

pub returns-in_err-next : goal.returns-in_err-next
returns-in_err-next c =
    grind (arith, err_from_is_err_and c.from_residual-in_err-next.result c.from_residual-in_err-next.ensures.1, stops_with_cause c.args.bytes.now c.loop-points.at c.in_err-next.field-0.0 (after_points c.args.bytes.now c.loop-points.at c.loop-points.points c.loop-points.invariant) c.in_err-next.ensures)

pub returns-in-Err : goal.returns-in-Err
returns-in-Err c =
    let takes : TakesPoint c.args.bytes.now c.loop-points.at c.in-Some-2.next = rw c.in-Some-2.is at c.in_ok-next.ensures in
    let adds : Adds c.loop-points.points c.add.new.self c.in-Some-2.next.point c.add.result = record {
      new = c.add.ensures.new;
      new_point = c.add.ensures.new_point;
      repeat = c.add.ensures.repeat;
      repeat_kept = c.add.ensures.repeat_kept;
      full = c.add.ensures.full;
      no_room = c.add.ensures.no_room;
    } in
    adding_has_cause c.args.bytes.now c.loop-points.at c.loop-points.points c.add.new.self c.in-Some-2.next c.add.result c.in-Err.fault c.fault_at.result
    c.loop-points.invariant takes adds c.in-Err.is c.fault_at.ensures.full c.fault_at.ensures.memory

pub loop-points-preserved : goal.loop-points-preserved
loop-points-preserved c =
    let takes : TakesPoint c.args.bytes.now c.loop-points.at c.in-Some-2.next = rw c.in-Some-2.is at c.in_ok-next.ensures in
    let adds : Adds c.loop-points.points c.add.new.self c.in-Some-2.next.point c.add.result = record {
      new = c.add.ensures.new;
      new_point = c.add.ensures.new_point;
      repeat = c.add.ensures.repeat;
      repeat_kept = c.add.ensures.repeat_kept;
      full = c.add.ensures.full;
      no_room = c.add.ensures.no_room;
    } in
    read_added c.args.bytes.now c.loop-points.at c.loop-points.points c.add.new.self c.in-Some-2.next c.add.result c.in_default-add.field-0
    c.loop-points.invariant takes adds c.in_default-add.is
