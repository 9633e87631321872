-- What a search over all edges tells of the terminals.
use Rattle.std.specs.Prelude.{ℕ, ◌≡◌, Bool, List, Option, Some, IfSome}
use Rattle.std.proofs.Common.{subst}
use Rattle.net_graph.specs.Graph.{Graph}
use Rattle.net_graph.specs.Network.{IsFirstApart}
use Rattle.graph_solve.specs.Task.{all_edges}

-- the first one that is
pub apart_by_all : (g : Graph) (all : List Bool) (place : Option ℕ) (p : ℕ) → all ≡ all_edges g → place ≡ Some p →
    IfSome place (IsFirstApart g all) → IsFirstApart g (all_edges g) p
apart_by_all g all place p same is known =
    subst (λ set. IsFirstApart g set p) same (subst (λ o. IfSome o (IsFirstApart g all)) is known)
