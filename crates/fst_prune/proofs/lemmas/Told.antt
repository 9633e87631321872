-- What results tell.
use Rattle.std.proofs.Common.{ℕ, ◌≡◌, Bool, false, Option, None, Some, arith}
use Rattle.std.specs.Prelude.{not, nat_eq}
use Rattle.std.specs.Bool.{MatchBool}
use Rattle.std.specs.Option.{option_eq, is_some}

pub none_of : {X : Type 0} (o : Option X) (b : Bool) → b ≡ is_some o → b ≡ false → o ≡ None
none_of o b is test = grind arith

-- what a comparison of a place that was found with a place tells
pub told_by_ne : (found : Option ℕ) (k : ℕ) (b : Bool) (P Q : Type 0) → b ≡ not (option_eq nat_eq found (Some k))
    → (found ≡ Some k → Q) → ((found ≡ Some k → ⊥) → P) → MatchBool b P Q
told_by_ne found k b P Q is same other = grind arith
