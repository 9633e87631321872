-- Which bytes are accepted as an answer, and what is then true.
use Rattle.std.specs.Prelude.{ℕ, ◌≡◌, ◌≤◌, ◌==◌, Bool, true, List, length, min, All}
use Rattle.points_in.specs.declared.point.Point.{Point}
use Rattle.net_graph.specs.Members.{members_of}
use Rattle.net_graph.specs.Network.{IsNetwork, length_of}
use Rattle.net_graph.specs.Decision.{nothing_decided}
use Rattle.hanan_grid.specs.Grid.{hanan_grid_of}
use Rattle.cert_tree.specs.declared.split.SplitOn.{SplitOn}
use Rattle.cert_tree.specs.Tree.{Tree}
use Rattle.cert_tree.specs.Preorder.{nodes_of, split_count}
use Rattle.cert_tree.specs.TreeValue.{IsValidTree, tree_value}
use Rattle.answer_text.specs.Value.{WrittenAnswer}
use Rattle.answer_text.specs.Spelling.{SpellsAnswer}
use Rattle.answer_text.specs.Answers.{IsNodeOn, edge_labels, labelled}
use Rattle.cert_check.specs.Named.{Named, on_grid}
use Rattle.cert_check.specs.declared.verdict.Verdict.{Verdict}
use Rattle.cert_check.specs.declared.verdict.Verdict.TheVariants.{Accepted, Refused, TooLong}

-- The bytes are the text of this answer, and what it says is right. Its edges, in ascending number, are a network of
-- the graph's terminals with the printed length. Its tree has at most 255 splits, each on an edge or a vertex of the
-- graph, and is valid where nothing is decided. Its bound is the lesser of the tree's value and the length. It says
-- optimal exactly where the bound is the length. Its lines on openings and on the concatenation are passed over.
pub record AcceptsIn (N : Named) (bytes : List ℕ) (answer : WrittenAnswer) (network : List Bool)
    (tree : Tree SplitOn) : Type 0 where
  pub spells : SpellsAnswer N.form bytes answer
  pub size : length network ≡ length N.graph.edges
  pub edges : answer.edges ≡ edge_labels N.labels (members_of network)
  pub joins : IsNetwork N.graph network
  pub plain_length : answer.head.length ≡ length_of N.graph network
  pub named_tree : answer.tree ≡ labelled N.labels tree
  pub splits : All (IsNodeOn N.graph) (nodes_of tree)
  pub few : split_count tree ≤ 255
  pub valid : IsValidTree N.graph (nothing_decided N.graph) tree
  pub bound : answer.head.bound ≡ min (tree_value N.graph (nothing_decided N.graph) tree) answer.head.length
  pub status : answer.head.optimal ≡ (answer.head.bound == answer.head.length)

-- the bytes are accepted as an answer
abbrev pub IsAcceptedIn : Named → List ℕ → Type 0
IsAcceptedIn N bytes =
    (answer : WrittenAnswer) × (network : List Bool) × (tree : Tree SplitOn) × AcceptsIn N bytes answer network tree

-- the bytes are accepted, with this network, and say this length and bound, and whether they are optimal
abbrev pub AcceptsAsIn : Named → List ℕ → List Bool → ℕ → ℕ → Bool → Type 0
AcceptsAsIn N bytes network length bound optimal =
    (answer : WrittenAnswer) × (tree : Tree SplitOn) × AcceptsIn N bytes answer network tree
    × (length ≡ answer.head.length) × (bound ≡ answer.head.bound) × (optimal ≡ answer.head.optimal)

-- the same for terminals of the plane, on their grid
abbrev pub Accepts : List Point → List ℕ → WrittenAnswer → List Bool → Tree SplitOn → Type 0
Accepts ps = AcceptsIn (on_grid ps)

abbrev pub IsAccepted : List Point → List ℕ → Type 0
IsAccepted ps = IsAcceptedIn (on_grid ps)

-- the verdict accepts
abbrev pub IsAccepting : Verdict → Type 0
IsAccepting (Accepted length bound optimal) = Unit {0}
IsAccepting (Refused cause) = ⊥
IsAccepting TooLong = ⊥

-- No network of the terminals' grid is shorter than the bound of an accepted answer, and where it says optimal none is
-- shorter than its length.
abbrev pub AcceptedBoundHolds : Type 0
AcceptedBoundHolds =
    (ps : List Point) (bytes : List ℕ) (answer : WrittenAnswer) (network : List Bool) (tree : Tree SplitOn) →
    Accepts ps bytes answer network tree → (other : List Bool) → IsNetwork (hanan_grid_of ps) other →
    (answer.head.bound ≤ length_of (hanan_grid_of ps) other)
    × (answer.head.optimal ≡ true → answer.head.length ≤ length_of (hanan_grid_of ps) other)
