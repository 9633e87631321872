-- For which bytes a checker stands.
use Rattle.std.specs.Prelude.{ℕ, ◌≡◌, ◌-◌, ◌^◌, min, List, length, take}
use Rattle.points_in.specs.declared.point.Point.{Point}
use Rattle.cert_check.specs.Named.{Named, named_of, on_grid}
use Rattle.cert_check.specs.declared.checker.Checker.{Checker}
use Rattle.cert_check.specs.Verdicts.{byte_limit}
use Rattle.cert_check.specs.Underway.{Follows}

-- it was made for the subject, fed these bytes, and follows them as far as an answer may reach
pub record StandsForBytesIn (N : Named) (bytes : List ℕ) (checker : Checker) : Type 0 where
  pub subject : named_of checker.subject ≡ N
  pub fed : checker.fed ≡ min (length bytes) (2 ^ 64 - 1)
  pub follows : Follows N (take byte_limit bytes) checker.reader checker.judge checker.fault

-- the same for terminals of the plane, on their grid
abbrev pub StandsForBytes : List Point → List ℕ → Checker → Type 0
StandsForBytes ps = StandsForBytesIn (on_grid ps)
