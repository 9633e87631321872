use Rattle.std.proofs.Common.{◌≡◌, take}
use Rattle.dual_ascent.specs.Carried.{unentered}
use Rattle.dual_ascent.proofs.carried.list_unentered.Given as goal

abbrev pub invariant-loop-cut : goal.invariant-loop-cut
invariant-loop-cut l = l.kept ≡ unentered l.edges (take l.cut-index l.cuts)
