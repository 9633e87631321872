-- What a search keeps, and its steps.
use Rattle.std.specs.Prelude.{ℕ, zero, suc, ◌≡◌, ◌+◌, ◌≤◌, Bool, false, List, [], ◌∷◌, slice_get, slice_set}
use Rattle.std.specs.Prelude.{Option, Some, All, length}
use Rattle.std.specs.List.{insert}
use Rattle.net_graph.specs.declared.packing.Cut.{Cut}
use Rattle.net_graph.specs.Graph.{Graph}
use Rattle.net_graph.specs.Network.{length_of}
use Rattle.net_graph.specs.Decision.{Decided, IsDecisionFor, nothing_decided}
use Rattle.net_graph.specs.Packing.{packing_value}
use Rattle.cert_tree.specs.declared.split.SplitOn.{SplitOn}
use Rattle.cert_tree.specs.declared.split.SplitOn.TheVariants as split
use Rattle.cert_tree.specs.Tree.{Tree, split_with}
use Rattle.cert_tree.specs.Replaced.{replaced}
use Rattle.cert_tree.specs.Preorder.{split_count}
use Rattle.cert_tree.specs.Decisions.{outside_of, inside_of}
use Rattle.cert_tree.specs.TreeValue.{IsValidTree, tree_value}
use Rattle.branch.specs.declared.frontier.Frontier.{Frontier}
use Rattle.branch.specs.declared.note.LeafNote.{LeafNote}
use Rattle.branch.specs.declared.offered.Offered.{Offered}
use Rattle.branch.specs.declared.opening.Opening.{Opening}
use Rattle.branch.specs.declared.split_kind.SplitKind.{SplitKind}
use Rattle.branch.specs.declared.step.Step.{Step}
use Rattle.branch.specs.declared.step.Step.TheVariants as step
use Rattle.branch.specs.Leaves.{DecidedLeaf, leaf_under, leaves_of}
use Rattle.branch.specs.Candidates.{IsCandidate}
use Rattle.branch.specs.States.{IsOpenLeaf, IsSameOrShorter, IsShownBy}
use Rattle.branch.specs.Openings.{IsSplitOf, BeginsAt}
use Rattle.branch.specs.PlainOpenings.{IsOpenNext, IsPlainOpening}
use Rattle.branch.specs.Runs.{EndsRunOfOpenings}
use Rattle.branch.specs.Variants.{IsVariant, MayBe, MayBegin}
use Rattle.branch.specs.Notes.{IsBest, ShowsOwn, AreNotesOf, IsNoteOf, IsUpToOwn, shorter_of, shown_first}

-- A search as contracts see it: its graph, what it splits its leaves on, its best network, its tree, the length of the
-- network that it began with, and the network that the first leaf in preorder shows, if it shows one.
pub record SearchState : Type 0 where
  pub graph : Graph
  pub kind : SplitKind
  pub network : List Bool
  pub tree : Tree SplitOn
  pub first_length : ℕ
  pub shown : Option (List Bool)

-- what contracts see of what is kept
abbrev pub search_state : Graph → Frontier → SearchState
search_state g kept = record {
  graph = g;
  kind = kept.kind;
  network = kept.best.network;
  tree = kept.tree;
  first_length = kept.first_length;
  shown = shown_first kept.notes.items;
}

-- What is shown is what the first leaf in preorder shows: a network whose edges each have a saturated arc there, where
-- its packing is maximal; there is none only where its value is at least the sum of all lengths.
abbrev pub IsShownFirst : SearchState → Type 0
IsShownFirst s =
    (leaf : DecidedLeaf) × (slice_get (leaves_of (nothing_decided s.graph) s.tree) 0 ≡ Some leaf)
    × ShowsOwn s.graph leaf s.shown

-- whether the leaf at a place began with no cut, by what is kept beside it
abbrev pub is_anew_at : List LeafNote → ℕ → Bool
is_anew_at [] place = false
is_anew_at (note ∷ notes) zero = note.is_anew
is_anew_at (note ∷ notes) (suc place) = is_anew_at notes place

-- What is kept is a search: the best network is one, the tree is valid where nothing is decided, what is kept beside
-- its leaves is true of them, no leaf's own network is shorter than the best one, and both end a run of openings whose
-- first network is no longer than the one that the search began with. So they do with other packings that leaves may
-- have which began with no cut.
pub record IsSearch (g : Graph) (kept : Frontier) : Type 0 where
  pub best : IsBest g kept.best
  pub valid : IsValidTree g (nothing_decided g) kept.tree
  pub notes : AreNotesOf g kept.best.length (leaves_of (nothing_decided g) kept.tree) kept.notes.items
  pub run : (variant : Tree SplitOn) → IsVariant (is_anew_at kept.notes.items) kept.tree variant →
      EndsRunOfOpenings g kept.first_length kept.best.network variant
  pub no_longer : kept.best.length ≤ kept.first_length

-- What an opening of a search makes of one of its leaves: two new leaves, with what is kept beside them, and a
-- best network that is the same as before or shorter, and no longer than theirs. The new leaves begin as they may with
-- one packing that the leaf may have.
pub record IsOpeningOf (g : Graph) (kept : Frontier) (opening : Opening) : Type 0 where
  pub leaf : DecidedLeaf
  pub at : slice_get (leaves_of (nothing_decided g) kept.tree) opening.leaf ≡ Some leaf
  pub below : IsOpenLeaf g (length_of g kept.best.network) leaf
  pub splits : IsSplitOf g leaf opening.on
  pub outside :
      IsNoteOf g (leaf_under (outside_of leaf.decision opening.on) opening.outside.packing) opening.outside.note
  pub inside :
      IsNoteOf g (leaf_under (inside_of leaf.decision opening.on) opening.inside.packing) opening.inside.note
  pub as_if : List Cut
  pub may_be : MayBe (is_anew_at kept.notes.items opening.leaf) leaf.packing as_if
  pub outside_begins : MayBegin g as_if (outside_of leaf.decision opening.on) opening.outside
  pub inside_begins : MayBegin g as_if (inside_of leaf.decision opening.on) opening.inside
  pub best : IsBest g opening.best
  pub network_is : IsSameOrShorter g kept.best.network opening.best.network
  pub outside_own : IsUpToOwn g opening.best.length opening.outside.note.network
  pub inside_own : IsUpToOwn g opening.best.length opening.inside.note.network

-- both new leaves begin with what the leaf's own packing carries to them
pub record IsCarried (g : Graph) (kept : Frontier) (opening : Opening) : Type 0 where
  pub leaf : DecidedLeaf
  pub at : slice_get (leaves_of (nothing_decided g) kept.tree) opening.leaf ≡ Some leaf
  pub outside : BeginsAt g leaf (outside_of leaf.decision opening.on) opening.outside.packing
  pub inside : BeginsAt g leaf (inside_of leaf.decision opening.on) opening.inside.packing

-- .. and the split is on what the kind asks of a network that the leaf shows
pub record IsPlain (g : Graph) (kept : Frontier) (opening : Opening) : Type 0 where
  pub carried : IsCarried g kept opening
  pub set : List Bool
  pub shown : IsShownBy g carried.leaf set
  pub candidate : IsCandidate kept.kind g carried.leaf.decision set opening.on

-- the opening is made: its split stands in place of its leaf, and its best network is kept
pub record IsOpened (opening : Opening) (old new : Frontier) : Type 0 where
  pub tree : new.tree
      ≡ replaced opening.leaf (split_with opening.on opening.outside.packing opening.inside.packing) old.tree
  pub notes : new.notes.items
      ≡ insert (slice_set old.notes.items opening.leaf opening.outside.note) (opening.leaf + 1) opening.inside.note
  pub best : new.best ≡ opening.best
  pub first_length : new.first_length ≡ old.first_length
  pub kind : new.kind ≡ old.kind

-- nothing that is kept has changed
pub record IsAsBefore (old new : Frontier) : Type 0 where
  pub tree : new.tree ≡ old.tree
  pub notes : new.notes.items ≡ old.notes.items
  pub best : new.best ≡ old.best
  pub first_length : new.first_length ≡ old.first_length
  pub kind : new.kind ≡ old.kind

-- Another leaf may stand in place of the only one: the value is no less than it was and than that of the given cuts.
-- The best network is the shorter one of what it was and of the one that the leaf now shows, and what it was on a tie.
pub record IsRaised (cuts : List Cut) (old new : SearchState) : Type 0 where
  pub graph : new.graph ≡ old.graph
  pub kind : new.kind ≡ old.kind
  pub first_length : new.first_length ≡ old.first_length
  pub leaf : split_count new.tree ≡ 0
  pub value : tree_value old.graph (nothing_decided old.graph) old.tree
      ≤ tree_value new.graph (nothing_decided new.graph) new.tree
  pub given : packing_value old.graph (nothing_decided old.graph) cuts
      ≤ tree_value new.graph (nothing_decided new.graph) new.tree
  pub network : new.network ≡ shorter_of old.graph old.network new.shown

-- The best network is the shorter one of what it was and another, and what it was on a tie. Nothing else has changed.
pub record IsOffered (network : List Bool) (old new : SearchState) : Type 0 where
  pub graph : new.graph ≡ old.graph
  pub kind : new.kind ≡ old.kind
  pub first_length : new.first_length ≡ old.first_length
  pub tree : new.tree ≡ old.tree
  pub shown : new.shown ≡ old.shown
  pub network_is : new.network ≡ shorter_of old.graph old.network (Some network)

-- no leaf's value is below the best network's length
abbrev pub IsSettled : SearchState → Type 0
IsSettled s = length_of s.graph s.network ≤ tree_value s.graph (nothing_decided s.graph) s.tree

-- the one state leads to the other by a plain opening of its kind
pub record OpensTo (old new : SearchState) : Type 0 where
  pub graph : new.graph ≡ old.graph
  pub kind : new.kind ≡ old.kind
  pub first_length : new.first_length ≡ old.first_length
  pub splits : split_count new.tree ≡ split_count old.tree + 1
  pub opening : IsPlainOpening old.kind old.graph old.network new.network old.tree new.tree

-- What a step of a search does: settled, no leaf's value is below the best network's length, and the search
-- stays as it was; else it makes a plain opening.
abbrev pub TakesStep : SearchState → SearchState → Step → Type 0
TakesStep old new step.Settled = IsSettled old × (new ≡ old)
TakesStep old new step.Split = OpensTo old new

-- the leaf at the place is the one that is open next
abbrev pub IsOpenAt : SearchState → ℕ → Type 0
IsOpenAt s place = IsOpenNext s.graph s.network s.tree place

-- the decision is that of the leaf at the place
abbrev pub IsDecidedAt : SearchState → ℕ → Decided → Type 0
IsDecidedAt s place d =
    IsDecisionFor s.graph d
    × ((leaf : DecidedLeaf) × (slice_get (leaves_of (nothing_decided s.graph) s.tree) place ≡ Some leaf)
    × (leaf.decision ≡ d))

-- the leaf at the place is open, and it may be split on this
abbrev pub CanSplitOn : SearchState → ℕ → SplitOn → Type 0
CanSplitOn s place on =
    (leaf : DecidedLeaf) × (slice_get (leaves_of (nothing_decided s.graph) s.tree) place ≡ Some leaf)
    × IsOpenLeaf s.graph (length_of s.graph s.network) leaf × IsSplitOf s.graph leaf on

-- .. on the vertex
abbrev pub CanSplitAt : SearchState → ℕ → ℕ → Type 0
CanSplitAt s place vertex = CanSplitOn s place (split.Vertex vertex)

-- the cuts of both packings are sets of so many vertices
pub record AreOfSize (vertices : ℕ) (offered : Offered) : Type 0 where
  pub outside : All (λ c. length c.members ≡ vertices) offered.outside
  pub inside : All (λ c. length c.members ≡ vertices) offered.inside

-- packings are offered for the children of a split on a vertex alone
abbrev pub MayBeOffered : ℕ → SplitOn → Offered → Type 0
MayBeOffered vertices (split.Edge e) offered = ⊥
MayBeOffered vertices (split.Vertex v) offered = AreOfSize vertices offered

-- The leaf at the place is split on the vertex, the other leaves stay, and the network is the same or a shorter one.
-- Both end a run of openings whose first network is no longer than the one that the search began with.
pub record IsSplitAt (place vertex : ℕ) (old new : SearchState) : Type 0 where
  pub graph : new.graph ≡ old.graph
  pub kind : new.kind ≡ old.kind
  pub first_length : new.first_length ≡ old.first_length
  pub splits : split_count new.tree ≡ split_count old.tree + 1
  pub outside : List Cut
  pub inside : List Cut
  pub tree : new.tree ≡ replaced place (split_with (split.Vertex vertex) outside inside) old.tree
  pub network_is : IsSameOrShorter old.graph old.network new.network
  pub run : EndsRunOfOpenings new.graph new.first_length new.network new.tree
