-- No network is shorter than the bound of an accepted answer.
use Rattle.std.proofs.Common.{ℕ, Bool, List, arith, eqb-true}
use Rattle.net_graph.specs.Network.{IsLowerBound}
use Rattle.net_graph.specs.Decision.{nothing_decided}
use Rattle.net_graph.specs.DecisionLaws.{IsDecisionFor-nothing, Agrees-nothing}
use Rattle.cert_tree.specs.declared.split.SplitOn.{SplitOn}
use Rattle.cert_tree.specs.Tree.{Tree}
use Rattle.cert_tree.specs.TreeValue.{TreesBoundNetworks}
use Rattle.answer_text.specs.Value.{WrittenAnswer}
use Rattle.cert_check.specs.Named.{Named, on_grid}
use Rattle.cert_check.specs.Accepted.{AcceptsIn, AcceptsAsIn, AcceptedBoundHolds}

-- the bound of an accepted answer is at most its tree's value, and so at most the length of any network
bound_below : TreesBoundNetworks → (N : Named) (bytes : List ℕ) (answer : WrittenAnswer) (network : List Bool)
    (tree : Tree SplitOn) → AcceptsIn N bytes answer network tree → IsLowerBound N.graph answer.head.bound
bound_below lifting N bytes answer network tree accepts other joins =
    grind (arith, lifting (N.graph) (nothing_decided (N.graph)) tree (IsDecisionFor-nothing (N.graph)) accepts.valid other (Agrees-nothing (N.graph) other) joins)

-- the law, by lifting
pub accepted_bound_holds_lem : TreesBoundNetworks → AcceptedBoundHolds
accepted_bound_holds_lem lifting ps bytes answer network tree accepts other joins =
    grind (arith, bound_below lifting (on_grid ps) bytes answer network tree accepts other joins, eqb-true)

-- so for the bound that an accepting verdict says
pub accepted_bound_below : TreesBoundNetworks → (N : Named) (bytes : List ℕ) (network : List Bool)
    (printed bound : ℕ) (optimal : Bool) → AcceptsAsIn N bytes network printed bound optimal →
    IsLowerBound N.graph bound
accepted_bound_below lifting N bytes network printed bound optimal (answer, tree, accepts, _, told, _) other joins =
    grind (arith, bound_below lifting N bytes answer network tree accepts other joins)
