-- Judging a certificate step by step: what was told so far, when the next step is right, and why it is wrong.
use Rattle.std.specs.Prelude.{ℕ, zero, suc, ◌≡◌, ◌+◌, ◌-◌, min, Bool, true, false, List, [], ◌∷◌, ◌++◌, length}
use Rattle.std.specs.Prelude.{drop, replicate, slice_set, slice_index_or, Option, Some, None, ◌⊎◌}
use Rattle.net_graph.specs.declared.packing.Cut.{Cut}
use Rattle.net_graph.specs.Graph.{Graph}
use Rattle.net_graph.specs.Decision.{Decided, nothing_decided}
use Rattle.net_graph.specs.Packing.{packing_value}
use Rattle.cert_tree.specs.declared.split.SplitOn.{SplitOn}
use Rattle.cert_tree.specs.Decisions.{outside_of, inside_of}
use Rattle.tree_judge.specs.declared.claim.Claim.{Claim}
use Rattle.tree_judge.specs.declared.step.Step.{Step}
use Rattle.tree_judge.specs.declared.step.Step.TheVariants as step
use Rattle.tree_judge.specs.declared.cause.Cause.{Cause}
use Rattle.tree_judge.specs.Edges.{FollowsEdges, EdgeFault}
use Rattle.tree_judge.specs.Networks.{IsMeasured, NetworkFault}
use Rattle.tree_judge.specs.Splits.{MaySplitOn, SplitOnFault}
use Rattle.tree_judge.specs.Cuts.{PacksCut, CutFault, cut_of}

-- What the steps so far told: the claim, how many edges are still due, the edges; the decisions of the nodes that are
-- still due, in preorder, of which the first is that of the leaf that is being read, if one is; how many splits there
-- were, how many cuts of the leaf are still due, its cuts, and the values of the leaves before it.
pub record SoFar : Type 0 where
  pub claim : Claim
  pub edges_due : ℕ
  pub network : List Bool
  pub decisions : List Decided
  pub splits : ℕ
  pub cuts_due : ℕ
  pub cuts : List Cut
  pub values : List ℕ

-- nothing is claimed
abbrev pub nothing_claimed : Claim
nothing_claimed = record { length = 0; bound = 0; optimal = false }

-- before the first step: the top of the tree is due, where nothing is decided
abbrev pub nothing_told : Graph → SoFar
nothing_told g = record {
  claim = nothing_claimed;
  edges_due = 0;
  network = replicate (length g.edges) false;
  decisions = nothing_decided g ∷ [];
  splits = 0;
  cuts_due = 0;
  cuts = [];
  values = [];
}

-- with one more edge
abbrev pub with_edge : SoFar → ℕ → SoFar
with_edge s e = record s { edges_due = s.edges_due - 1; network = slice_set s.network e true }

-- the decision of the next node, or of the leaf that is being read
abbrev pub decision_due : Graph → SoFar → Decided
decision_due g s = slice_index_or s.decisions 0 (nothing_decided g)

-- with one more split: its outside child is due, and then its inside child
abbrev pub with_split : Graph → SoFar → SplitOn → SoFar
with_split g s on = record s {
  decisions = outside_of (decision_due g s) on ∷ inside_of (decision_due g s) on ∷ drop 1 s.decisions;
  splits = s.splits + 1;
}

-- where so many cuts of a leaf are due; where none is, the leaf ends with its value, and the next node is due
abbrev pub with_cuts_due : Graph → SoFar → ℕ → SoFar
with_cuts_due g s zero = record s {
  decisions = drop 1 s.decisions;
  cuts_due = 0;
  cuts = [];
  values = packing_value g (decision_due g s) s.cuts ∷ s.values;
}
with_cuts_due g s (suc due) = record s { cuts_due = suc due }

-- with one more cut of the leaf
abbrev pub with_cut : Graph → SoFar → Cut → SoFar
with_cut g s c = with_cuts_due g (record s { cuts = s.cuts ++ c ∷ [] }) (s.cuts_due - 1)

-- where no edge is due the edges are the network that is claimed
abbrev pub IsNetworkRight : Graph → SoFar → Type 0
IsNetworkRight g s = s.edges_due ≡ 0 → IsMeasured g s.claim.length s.network

-- why they are not
abbrev pub IsNetworkWrong : Graph → SoFar → Cause → Type 0
IsNetworkWrong g s cause = (s.edges_due ≡ 0) × NetworkFault g s.claim.length s.network cause

-- The next step is right behind what was told, and this is told with it. A cut comes with its members.
abbrev pub Passes : Graph → SoFar → Step → Option (List Bool) → SoFar → Type 0
Passes g s (step.Claims claim) members s' = s' ≡ record s { claim = claim }
Passes g s (step.EdgeCount count) members s' = (s' ≡ record s { edges_due = count }) × IsNetworkRight g s'
Passes g s (step.Edge e) members s' =
    FollowsEdges g s.network e × (s' ≡ with_edge s e) × IsNetworkRight g s'
Passes g s step.Tree members s' = s' ≡ s
Passes g s (step.Split on) members s' = MaySplitOn g (decision_due g s) s.splits on × (s' ≡ with_split g s on)
Passes g s (step.Leaf count) members s' = s' ≡ with_cuts_due g s count
Passes g s (step.Cut weight) None s' = ⊥
Passes g s (step.Cut weight) (Some members) s' =
    PacksCut g (decision_due g s) s.cuts (cut_of weight members) × (s' ≡ with_cut g s (cut_of weight members))
Passes g s step.End members s' = s' ≡ s

-- the next step, in a line of number n, is wrong behind what was told, for this cause, and these edges were told before
-- it; the edges are judged together with the last of them
abbrev pub Fails : Graph → SoFar → ℕ → Step → Option (List Bool) → Cause → List Bool → Type 0
Fails g s n (step.EdgeCount count) members cause network =
    IsNetworkWrong g (record s { edges_due = count }) cause × (network ≡ s.network)
Fails g s n (step.Edge e) members cause network =
    (EdgeFault s.network e n cause × (network ≡ s.network))
    ⊎ (FollowsEdges g s.network e × IsNetworkWrong g (with_edge s e) cause × (network ≡ (with_edge s e).network))
Fails g s n (step.Split on) members cause network =
    SplitOnFault g (decision_due g s) s.splits on n cause × (network ≡ s.network)
Fails g s n (step.Cut weight) (Some members) cause network =
    CutFault g (decision_due g s) s.cuts (cut_of weight members) n cause × (network ≡ s.network)
Fails g s n step members cause network = ⊥

-- the least of a number and those of a list
abbrev pub least_with : ℕ → List ℕ → ℕ
least_with top [] = top
least_with top (n ∷ ns) = min n (least_with top ns)

-- the least value of the leaves, or the length where that is less
abbrev pub bound_found : SoFar → ℕ
bound_found s = least_with s.claim.length s.values
