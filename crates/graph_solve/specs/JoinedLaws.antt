-- What all edges of a graph join.
use Rattle.std.specs.Prelude.{ℕ, ◌≡◌, Bool, true, List, length, replicate, Option, None, IfNone}
use Rattle.std.proofs.Common.{ap, subst, ◌∙◌}
use Rattle.net_graph.specs.Graph.{Graph}
use Rattle.net_graph.specs.Network.{IsNetwork}
use Rattle.graph_solve.specs.Task.{all_edges}

-- the set of as many edges as there are is that of all
pub whole_set : (g : Graph) (all : List Bool) (n : ℕ) → all ≡ replicate n true → n ≡ length g.edges → all ≡ all_edges g
whole_set g all n is count = is ∙ ap (λ k. replicate k true) count

-- no terminal is apart
pub joined_by_all : (g : Graph) (all : List Bool) (place : Option ℕ) → all ≡ all_edges g → place ≡ None →
    IfNone place (IsNetwork g all) → IsNetwork g (all_edges g)
joined_by_all g all place same none known =
    subst (IsNetwork g) same (subst (λ o. IfNone o (IsNetwork g all)) none known)
