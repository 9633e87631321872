-- The trees leave no terminal apart.
use Rattle.search_tools.proofs.longer_trees.joined.Goals as goal

pub unreachable-requires : goal.unreachable-requires
unreachable-requires c =
    c.requires.joins c.in-Err-Fault.field-0-0
    (rw (c.in-Err-Fault.is, c.in-Err-Fault.field-0-is) at c.network_on.ensures)
