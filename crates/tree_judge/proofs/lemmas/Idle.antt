-- When a set holds no required vertex.
use Rattle.std.proofs.Common.{ℕ, ◌≡◌, Bool, true, false, List}
use Rattle.std.proofs.lemmas.Bool.{false_from_ne_true}
use Rattle.net_graph.specs.Flags.{has}
use Rattle.net_graph.specs.Graph.{Graph}
use Rattle.net_graph.specs.Decision.{Decided, IsRequired}

-- where a set holds none, each required vertex is out of it
pub idle_without : (g : Graph) (d : Decided) (members : List Bool) →
    (((v : ℕ) × IsRequired g d v × (has members v ≡ true)) → ⊥) →
    (v : ℕ) → IsRequired g d v → has members v ≡ false
idle_without g d members none v required = false_from_ne_true (has members v) (λ held. none (v, required, held))
