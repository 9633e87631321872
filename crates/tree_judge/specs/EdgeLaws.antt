-- An edge may stand behind those before it, or its line is wrong for one cause.
use Rattle.std.proofs.Common.{ℕ, ◌≡◌, Bool, List, ap, sym, ◌∙◌, arith}
use Rattle.net_graph.specs.Graph.{Graph}
use Rattle.tree_judge.specs.declared.cause.Cause.{Cause}
use Rattle.tree_judge.specs.declared.cause.Cause.TheVariants.{EdgeOrder}
use Rattle.tree_judge.specs.Edges.{ComesLate, EdgeFault, FollowsEdges}

-- the one cause
pub record IsLate (network : List Bool) (e n : ℕ) (cause : Cause) : Type 0 where
  pub is : cause ≡ EdgeOrder n
  pub late : ComesLate network e

edge_cause : (network : List Bool) (e n : ℕ) (cause : Cause) → EdgeFault network e n cause → IsLate network e n cause
edge_cause network e n (EdgeOrder line) (is, late) = record { is = ap EdgeOrder is; late = late }
edge_cause network e n cause fault = absurd fault

-- the line of an edge that may follow has no fault
pub follows_without_fault : {P : Type 0} (g : Graph) (network : List Bool) (e n : ℕ) (cause : Cause) →
    FollowsEdges g network e → EdgeFault network e n cause → P
follows_without_fault g network e n cause follows fault =
    let late = (edge_cause network e n cause fault).late in
    absurd (omega (arith, follows.above late.other late.held, late.order))

-- and that of one that may not has one
pub same_edge_fault : (network : List Bool) (e n : ℕ) (cause cause' : Cause) → EdgeFault network e n cause →
    EdgeFault network e n cause' → cause ≡ cause'
same_edge_fault network e n cause cause' fault fault' =
    (edge_cause network e n cause fault).is ∙ sym (edge_cause network e n cause' fault').is
