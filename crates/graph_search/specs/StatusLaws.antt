-- What the status tells of the bound and the length.
use Rattle.std.specs.Prelude.{ℕ, ◌≡◌, ◌<◌, ◌↔◌, min}
use Rattle.std.proofs.Common.{arith}
use Rattle.std.proofs.Math.Nat.{min-eq_right}
use Rattle.std.proofs.lemmas.Bool.{cases_lt}

-- Where the status is 3 the value is below the length.
pub value_below : (value length status : ℕ) → (status ≡ 0) ↔ (min value length ≡ length) → status ≡ 3 →
    value < length
value_below value length status exact three = grind (arith, min-eq_right, cases_lt value length)
