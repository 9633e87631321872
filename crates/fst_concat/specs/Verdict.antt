-- What is found of choices.
use Rattle.std.specs.Prelude.{ℕ, ◌≤◌, List}
use Rattle.full_tree.specs.declared.code.Tree.{Tree}
use Rattle.concatenation.specs.declared.choice.Choice.{Choice}
use Rattle.concatenation.specs.Concatenation.{total_of}
use Rattle.concatenation.specs.Choices.{taken_of, IsLeastUnder}
use Rattle.concatenation.specs.Trails.{CanGoOn, IsNoBetter, IsOpenPlace}
use Rattle.fst_concat.specs.declared.judge.Verdict.{Verdict}
use Rattle.fst_concat.specs.declared.judge.Verdict.TheVariants.{Done, Undecided}

-- Either no concatenation that respects the choices is below the total, or a search can go on with the tree at an open
-- place, and none is below some total that is no less than what is taken.
abbrev pub VerdictHolds : ℕ → List Tree → List Choice → ℕ → Verdict → Type 0
VerdictHolds n trees choices total Done =
    IsNoBetter n trees total choices × IsLeastUnder n trees choices total
VerdictHolds n trees choices total (Undecided least place) =
    CanGoOn n trees choices × IsLeastUnder n trees choices least
    × (total_of trees (taken_of choices) ≤ least) × IsOpenPlace choices place
