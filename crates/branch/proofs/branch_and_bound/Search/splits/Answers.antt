-- What is kept ends a run of openings.
use Rattle.std.proofs.Common.{arith}
use Rattle.branch.specs.Searching.{is_anew_at}
use Rattle.branch.proofs.lemmas.VariantLemmas.{variant_same}
use Rattle.branch.proofs.branch_and_bound.Search.splits.Goals as goal

pub returns-clause-run : goal.returns-clause-run
returns-clause-run _ c =
    grind (
      arith,
      c.self.invariant.run (c.self.inside.kept).tree (variant_same (is_anew_at (c.self.inside.kept).notes.items) 0 (c.self.inside.kept).tree),
      variant_same (is_anew_at (c.self.inside.kept).notes.items) 0 (c.self.inside.kept).tree,
    )
