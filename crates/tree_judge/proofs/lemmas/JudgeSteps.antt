-- What a judge stands for behind one more line.
use Rattle.std.proofs.lemmas.List.Sums.{sum_by_push}
use Rattle.std.proofs.Common.{ℕ, ◌≡◌, ◌-◌, ◌+◌, ◌^◌, ◌<◌, min, Bool, true, false, List, [], ◌∷◌, ◌++◌, Some, refl, sym, ◌∙◌, subst, arith}
use Rattle.std.specs.Prelude.{Option, None, IfSome, IfNone, slice_set}
use Rattle.net_graph.specs.declared.packing.Cut.{Cut}
use Rattle.net_graph.specs.Graph.{Graph}
use Rattle.net_graph.specs.Decision.{Decided}
use Rattle.cert_tree.specs.declared.split.SplitOn.{SplitOn}
use Rattle.cert_tree.specs.declared.split.SplitOn.TheVariants as split
use Rattle.cert_tree.specs.Decisions.{IsUndecidedSplit, outside_of}
use Rattle.tree_judge.specs.declared.cause.Cause.{Cause}
use Rattle.tree_judge.specs.declared.judge.Judge.{Judge}
use Rattle.tree_judge.specs.Edges.{FollowsEdges}
use Rattle.tree_judge.specs.Cuts.{PacksCut, cut_of}
use Rattle.tree_judge.specs.declared.step.Step.TheVariants as step
use Rattle.tree_judge.specs.Splits.{MaySplitOn}
use Rattle.tree_judge.specs.Steps.{IsSplitIn}
use Rattle.tree_judge.specs.Loads.{IsLeafOf, weight_kept}
use Rattle.tree_judge.specs.Ways.{HasState, HasStates, StandsOnWay}
use Rattle.tree_judge.specs.Judged.{SoFar, Passes, Fails, IsNetworkRight, IsNetworkWrong, decision_due, with_cuts_due, with_edge, with_split}
use Rattle.tree_judge.specs.Standing.{StandsFor}
use Rattle.tree_judge.proofs.lemmas.Loading.{passes_free}
use Rattle.tree_judge.proofs.lemmas.Turns.{state_outside}

-- what follows where no fault was found, and where one was
pub none_gives : (fault : Option Cause) (P Q : Type 0) → (P → Q) → IfNone fault P → IfNone fault Q
none_gives None P Q gives is = gives is
none_gives (Some cause) P Q gives is = is

pub some_gives : (fault : Option Cause) (P Q : Cause → Type 0) → ((cause : Cause) → P cause → Q cause) → IfSome fault P → IfSome fault Q
some_gives None P Q gives is = is
some_gives (Some cause) P Q gives is = gives cause is

-- ---- edges

-- all that is kept of the tree stays
pub record SameTree (old new : Judge) : Type 0 where
  pub splits : new.splits ≡ old.splits
  pub cuts_due : new.cuts_due ≡ old.cuts_due
  pub room : new.room ≡ old.room
  pub weight : new.weight ≡ old.weight
  pub least : new.least ≡ old.least

-- the head, the edges or their count change alone
pub stands_edges : (g : Graph) (old new : Judge) (s s' : SoFar) → SameTree old new → new.claim ≡ s'.claim → new.edges_due ≡ s'.edges_due → new.edges ≡ s'.network →
    s'.decisions ≡ s.decisions → s'.splits ≡ s.splits → s'.cuts_due ≡ s.cuts_due → s'.cuts ≡ s.cuts → s'.values ≡ s.values → StandsFor g s old → StandsFor g s' new
stands_edges g old new s s' same head due network decisions splits cuts_due cuts values stands = grind arith

-- the judge behind one more edge
pub record IsBehindEdge (g : Graph) (edge : ℕ) (old new : Judge) : Type 0 where
  pub follows : FollowsEdges g old.edges edge
  pub edges : new.edges ≡ slice_set old.edges edge true
  pub edges_due : new.edges_due ≡ old.edges_due - 1
  pub claim : new.claim ≡ old.claim
  pub tree : SameTree old new

-- it stands for one edge more
stands_behind : (g : Graph) (edge : ℕ) (old new : Judge) (s : SoFar) → IsBehindEdge g edge old new → StandsFor g s old →
    StandsFor g (with_edge s edge) new
stands_behind g edge old new s behind stands = grind (arith, stands_edges)

-- the line passes where the edges are then right
pub edge_passes : (g : Graph) (edge : ℕ) (old mid new : Judge) → IsBehindEdge g edge old mid → new ≡ mid →
    ((s : SoFar) → StandsFor g s mid → IsNetworkRight g s) →
    (s : SoFar) (members : Option (List Bool)) → StandsFor g s old →
    (s' : SoFar) × Passes g s (step.Edge edge) members s' × StandsFor g s' new
edge_passes g edge old mid new behind same right s members stands =
    grind (arith, right (with_edge s edge) (stands_behind g edge old mid s behind stands))

-- and fails where they are then wrong
pub edges_fail : (g : Graph) (edge line : ℕ) (old mid new : Judge) (cause : Cause) → IsBehindEdge g edge old mid →
    new ≡ mid → ((s : SoFar) → StandsFor g s mid → IsNetworkWrong g s cause) →
    (s : SoFar) (members : Option (List Bool)) → StandsFor g s old →
    Fails g s line (step.Edge edge) members cause new.edges
edges_fail g edge line old mid new cause behind same wrong s members stands =
    grind (arith, wrong (with_edge s edge) (stands_behind g edge old mid s behind stands))

-- the judge behind the count of the edges
pub record IsBehindCount (count : ℕ) (old new : Judge) : Type 0 where
  pub edges_due : new.edges_due ≡ count
  pub claim : new.claim ≡ old.claim
  pub edges : new.edges ≡ old.edges
  pub tree : SameTree old new

-- it stands for that many edges
stands_behind_count : (g : Graph) (count : ℕ) (old new : Judge) (s : SoFar) → IsBehindCount count old new → StandsFor g s old → StandsFor g (record s { edges_due = count }) new
stands_behind_count g count old new s behind stands =
    stands_edges g old new s (record s { edges_due = count }) behind.tree (behind.claim ∙ stands.claim) behind.edges_due (behind.edges ∙ stands.network) refl refl refl refl refl stands

-- where none is due the edges are right or wrong at once
pub count_passes : (g : Graph) (count : ℕ) (old mid new : Judge) → IsBehindCount count old mid → new ≡ mid → ((s : SoFar) → StandsFor g s mid → IsNetworkRight g s)
    → (members : Option (List Bool)) (s : SoFar) → StandsFor g s old → (s' : SoFar) × Passes g s (step.EdgeCount count) members s' × StandsFor g s' new
count_passes g count old mid new behind same right members s stands =
    grind (arith, right (record s { edges_due = count }) (stands_behind_count g count old mid s behind stands))

pub count_fails : (g : Graph) (count line : ℕ) (old mid new : Judge) (cause : Cause) → IsBehindCount count old mid → new ≡ mid → ((s : SoFar) → StandsFor g s mid → IsNetworkWrong g s cause)
    → (members : Option (List Bool)) (s : SoFar) → StandsFor g s old → Fails g s line (step.EdgeCount count) members cause new.edges
count_fails g count line old mid new cause behind same wrong members s stands =
    grind (arith, wrong (record s { edges_due = count }) (stands_behind_count g count old mid s behind stands))

-- ---- splits

-- what may be said under what is decided in the room may be said under the decision that is due
pub split_due : (g : Graph) (s : SoFar) (judge : Judge) (on : SplitOn) → StandsFor g s judge →
    IsUndecidedSplit g judge.room.way.decided on → IsUndecidedSplit g (decision_due g s) on
split_due g s judge on stands undecided = subst (λ d. IsUndecidedSplit g d on) (sym stands.decision) undecided

pub split_decided : (g : Graph) (s : SoFar) (judge : Judge) (on : SplitOn) → StandsFor g s judge →
    (IsUndecidedSplit g judge.room.way.decided on → ⊥) →
    IsUndecidedSplit g (decision_due g s) on → ⊥
split_decided g s judge on stands decided undecided =
    decided (subst (λ d. IsUndecidedSplit g d on) stands.decision undecided)

-- the judge behind one more split
pub record IsBehindSplit (on : SplitOn) (old new : Judge) : Type 0 where
  pub claim : new.claim ≡ old.claim
  pub edges_due : new.edges_due ≡ old.edges_due
  pub edges : new.edges ≡ old.edges
  pub splits : new.splits ≡ old.splits + 1
  pub cuts_due : new.cuts_due ≡ old.cuts_due
  pub weight : new.weight ≡ old.weight
  pub least : new.least ≡ old.least
  pub path : new.room.way.path ≡ record { on = on; inside = false } ∷ old.room.way.path
  pub loads : new.room.loads ≡ old.room.loads
  pub decided : new.room.way.decided ≡ outside_of old.room.way.decided on

pub split_passes : (g : Graph) (on : SplitOn) (old new : Judge) (s : SoFar) → IsBehindSplit on old new → StandsFor g s old →
    StandsOnWay g old.room.way → IsUndecidedSplit g old.room.way.decided on → old.splits < 255 →
    MaySplitOn g (decision_due g s) s.splits on × StandsFor g (with_split g s on) new
split_passes g on old new s behind stands way undecided few =
    grind (arith, split_due g s old on stands undecided, state_outside, passes_free)

pub has_state : (g : Graph) (d : Decided) (on : SplitOn) → HasStates g d → IsSplitIn g on → HasState d on
has_state g d (split.Edge n) states on = omega (arith, on, states.edges)
has_state g d (split.Vertex v) states on = omega (arith, on, states.vertices)

-- ---- cuts

-- the judge that has read one more cut, before the count of those that are due changes
pub record IsBehindCut (weight : ℕ) (old new : Judge) : Type 0 where
  pub claim : new.claim ≡ old.claim
  pub edges_due : new.edges_due ≡ old.edges_due
  pub edges : new.edges ≡ old.edges
  pub splits : new.splits ≡ old.splits
  pub cuts_due : new.cuts_due ≡ old.cuts_due
  pub weight_kept : new.weight ≡ min (old.weight + weight) (2 ^ 64 - 1)
  pub least : new.least ≡ old.least
  pub way : new.room.way ≡ old.room.way

-- it stands for one cut more
pub stands_behind_cut : (g : Graph) (weight : ℕ) (set : List Bool) (old new : Judge) (s : SoFar) → IsBehindCut weight old new → StandsFor g s old →
    IsLeafOf g (s.cuts ++ cut_of weight set ∷ []) old.room.way.decided new.room.loads → StandsFor g (record s { cuts = s.cuts ++ cut_of weight set ∷ [] }) new
stands_behind_cut g weight set old new s behind stands leaf =
    grind (arith, sum_by_push (λ (x : Cut). x.weight) s.cuts (cut_of weight set))

-- what may be said of a cut under the decision of the way may be said under the one that is due
pub PacksCut-due : (g : Graph) (s : SoFar) (judge : Judge) (c : Cut) → StandsFor g s judge → PacksCut g judge.room.way.decided s.cuts c →
    PacksCut g (decision_due g s) s.cuts c
PacksCut-due g s judge c stands packs = subst (λ d. PacksCut g d s.cuts c) (sym stands.decision) packs

-- the line passes
pub cut_passes : (g : Graph) (weight due : ℕ) (set : List Bool) (old mid new : Judge) (s : SoFar) → IsBehindCut weight old mid → StandsFor g s old → due ≡ old.cuts_due - 1 →
    PacksCut g old.room.way.decided s.cuts (cut_of weight set) →
    IsLeafOf g (s.cuts ++ cut_of weight set ∷ []) old.room.way.decided mid.room.loads →
    ((s : SoFar) → StandsFor g s mid → StandsFor g (with_cuts_due g s due) new) →
    (s' : SoFar) × Passes g s (step.Cut weight) (Some set) s' × StandsFor g s' new
cut_passes g weight due set old mid new s behind stands less packs leaf then =
    grind (arith, then (record s { cuts = s.cuts ++ cut_of weight set ∷ [] }) (stands_behind_cut g weight set old mid s behind stands leaf), PacksCut-due g s old (cut_of weight set) stands packs)
