-- The network of the trees of a concatenation, and what is told of it.
use Rattle.std.proofs.Common.{ℕ, ◌≡◌, ◌≤◌, ◌<◌, Bool, List, length, All, arith}
use Rattle.std.specs.Prelude.{slice_index_or}
use Rattle.std.proofs.lemmas.List.Elements.{All-from_recursion}
use Rattle.points_in.specs.declared.point.Point.{Point}
use Rattle.net_graph.specs.Members.{members_of as numbers_of}
use Rattle.net_graph.specs.Network.{IsNetwork, length_of}
use Rattle.hanan_grid.specs.Grid.{hanan_grid_of}
use Rattle.full_tree.specs.declared.code.Tree.{Tree}
use Rattle.full_tree.specs.Form.{IsInForm}
use Rattle.concatenation.specs.Concatenation.{IsConcatenation, total_of}
use Rattle.fst_file.specs.Value.{AreTreesOf, IsTreeOf}
use Rattle.fst_concat.specs.declared.chosen.ChosenKind.{ChosenKind}
use Rattle.fst_concat.specs.declared.chosen.ChosenKind.TheVariants.{Least, Spent}
use Rattle.fst_concat.specs.Chosen.{HasMembersBelow, IsChosen, IsUpToPairs, KindHolds}
use Rattle.tree_network.specs.NamedLaws.{places-below}
use Rattle.search_tools.specs.Steps.{IsMadeOf, is_least}
use Rattle.search_tools.specs.Permitted.{IsConcatNote}

-- All trees of a file have members enough, all of them among its points.
pub have_members : ((ps : List Point) (tree : Tree) → IsInForm ps tree.code → HasMembersBelow (length ps) tree) →
    (ps : List Point) (trees : List Tree) → AreTreesOf ps trees → All (HasMembersBelow (length ps)) trees
have_members law ps trees are =
    λ k d inside. law ps (slice_index_or trees k d) (All-from_recursion (IsTreeOf ps) trees are.trees k d inside).form

-- The chosen places are below the number of trees.
pub chosen_below : (n : ℕ) (trees : List Tree) (places : List ℕ) (total : ℕ) → IsChosen n trees places total → All (λ k. k < length trees) places
chosen_below n trees places total chosen = places-below trees places chosen.set chosen.is chosen.joins.size

-- what the kind says, as what the note tells
least_told : (n : ℕ) (trees : List Tree) (allowed total : ℕ) (kind : ChosenKind) (set : List Bool) → IsConcatenation n trees set → total ≡ total_of trees set →
    IsUpToPairs n trees total → KindHolds n trees allowed total kind → IsConcatNote allowed n trees (record { least = is_least kind; total = total })
least_told n trees allowed total Least set joins sum pairs holds =
    record { set = set; joins = joins; total = sum; pairs = pairs; least = λ is. holds; spent = λ is. absurd cc }
least_told n trees allowed total (Spent trail) set joins sum pairs holds =
    record { set = set; joins = joins; total = sum; pairs = pairs; least = λ is. absurd cc; spent = λ is. (trail, holds.0, holds.1) }

-- The network of what was chosen is made of the trees.
pub made_of : (allowed : ℕ) (ps : List Point) (trees : List Tree) (kind : ChosenKind) (places : List ℕ) (total : ℕ) (network : List Bool) →
    IsChosen (length ps) trees places total → IsUpToPairs (length ps) trees total → KindHolds (length ps) trees allowed total kind →
    length network ≡ length (hanan_grid_of ps).edges →
    ((set : List Bool) → places ≡ numbers_of set → IsConcatenation (length ps) trees set → IsNetwork (hanan_grid_of ps) network) →
    ((set : List Bool) → places ≡ numbers_of set → length_of (hanan_grid_of ps) network ≤ total_of trees set) →
    IsMadeOf allowed ps trees (record { network = network; note = record { least = is_least kind; total = total } })
made_of allowed ps trees kind places total network chosen pairs holds size joins short =
    grind (arith, joins chosen.set chosen.is chosen.joins, least_told (length ps) trees allowed total kind chosen.set chosen.joins chosen.sum pairs holds, short chosen.set chosen.is)
