use Rattle.std.proofs.Common.{◌≡◌}
use Rattle.fst_gen.proofs.listing.freed.Given as goal

abbrev pub invariant-loop-listed : goal.invariant-loop-listed
invariant-loop-listed l = l.trees ≡ l.yielded
