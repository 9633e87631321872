-- A fault is one of the text as it was.
use Rattle.std.specs.Prelude.{◌+◌, ◌-◌}
use Rattle.std.proofs.Common.{arith}
use Rattle.std.proofs.lemmas.Result.{err_from_is_err_and}
use Rattle.section_text.proofs.items.read_items.Goals as goal

pub returns-in_err-item-clause-err : goal.returns-in_err-item-clause-err
returns-in_err-item-clause-err g c =
    grind (arith, err_from_is_err_and c.from_residual.result c.from_residual.ensures.1, c.in_err-item.ensures.err (c.args.count - (c.loop-told._told + 1)))
