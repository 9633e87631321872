use Rattle.std.proofs.Common.{append_assoc}
use Rattle.text_out.specs.GatherLaws.{gathers_four}
use Rattle.fst_file.proofs.fault.write_length.Goals as goal

pub returns : goal.returns
returns g c =
    gathers_four _ _ _ _ _ _ _ _ _ _ _ _ _ _ _
    c.write_line.ensures c.number.ensures c.literal.ensures c.number-2.ensures (simp append_assoc)
