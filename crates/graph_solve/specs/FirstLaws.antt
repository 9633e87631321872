-- The first place of a kind is one.
use Rattle.std.specs.Prelude.{ℕ, ◌≡◌, ◌<◌, Bool, List}
use Rattle.std.proofs.Common.{arith}
use Rattle.net_graph.specs.JoinsLaws.{not_apart_before}
use Rattle.net_graph.specs.Fault.{IsFirst}
use Rattle.net_graph.specs.Graph.{Graph}
use Rattle.net_graph.specs.Network.{IsFirstApart}

-- the first item of a kind
not_before : {X : Type 0} (P : X → Type 0) (xs : List X) (n m : ℕ) → IsFirst P xs n → IsFirst P xs m → n < m → ⊥
not_before P xs n m first other below = other.before n first.here.0 below first.here.1 first.here.2

pub one_first : {X : Type 0} (P : X → Type 0) (xs : List X) (n m : ℕ) → IsFirst P xs n → IsFirst P xs m → n ≡ m
one_first P xs n m first other =
    let later = not_before P xs n m first other in
    let sooner = not_before P xs m n other first in omega arith

pub one_apart : (g : Graph) (set : List Bool) (n m : ℕ) → IsFirstApart g set n → IsFirstApart g set m → n ≡ m
one_apart g set n m first other =
    let later = not_apart_before g set n m first other in
    let sooner = not_apart_before g set m n other first in omega arith
