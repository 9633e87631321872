-- What follows of an answer that is accepted.
use Rattle.std.proofs.Common.{ℕ, ◌≡◌, Bool, true, List, sym, subst, ◌∙◌}
use Rattle.std.proofs.lemmas.Bool.{eqb-true}
use Rattle.net_graph.specs.Network.{IsLowerBound, IsShortest}
use Rattle.cert_tree.specs.declared.split.SplitOn.{SplitOn}
use Rattle.cert_tree.specs.Tree.{Tree}
use Rattle.answer_text.specs.Value.{WrittenAnswer}
use Rattle.cert_check.specs.Named.{Named}
use Rattle.cert_check.specs.Accepted.{AcceptsIn}

-- The network of an accepted answer that says optimal is a shortest one.
pub shortest_where_optimal : (N : Named) (bytes : List ℕ) (answer : WrittenAnswer) (network : List Bool)
    (tree : Tree SplitOn) → AcceptsIn N bytes answer network tree → IsLowerBound N.graph answer.head.bound →
    answer.head.optimal ≡ true → IsShortest N.graph network
shortest_where_optimal N bytes answer network tree accepts below marked =
    let same : answer.head.bound ≡ answer.head.length =
    eqb-true answer.head.bound answer.head.length (sym accepts.status ∙ marked) in
    (accepts.joins, subst (λ b. IsLowerBound N.graph b) (same ∙ accepts.plain_length) below)
