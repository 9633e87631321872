-- Where an opening stands.
use Rattle.std.proofs.Common.{◌≡◌, ◌<◌, ◌^◌, length, arith}
use Rattle.std.proofs.lemmas.Option.{slice_get_within}
use Rattle.net_graph.specs.Graph.{Graph}
use Rattle.net_graph.specs.Decision.{nothing_decided}
use Rattle.cert_tree.specs.Preorder.{packings_of, split_count}
use Rattle.cert_tree.specs.PreorderLaws.{length-packings_of}
use Rattle.branch.specs.declared.frontier.Frontier.{Frontier}
use Rattle.branch.specs.declared.opening.Opening.{Opening}
use Rattle.branch.specs.Leaves.{leaves_of}
use Rattle.branch.specs.Notes.{IsKeptNote}
use Rattle.branch.specs.Searching.{SearchState, search_state, IsSearch, IsOpeningOf}
use Rattle.branch.proofs.lemmas.ListLemmas.{AllZip-length}
use Rattle.branch.proofs.lemmas.TreeLemmas.{length-leaves_of}

-- the leaf is one of the tree
pub opens_within : (g : Graph) (kept : Frontier) (opening : Opening) → IsOpeningOf g kept opening → opening.leaf < length (packings_of kept.tree)
opens_within g kept opening op =
    grind (arith, slice_get_within (leaves_of (nothing_decided g) kept.tree) opening.leaf op.leaf op.at, length-leaves_of (nothing_decided g) kept.tree)

-- .. with a note
pub opens_within_notes : (g : Graph) (kept : Frontier) (opening : Opening) → IsSearch g kept → IsOpeningOf g kept opening →
    opening.leaf < length kept.notes.items
opens_within_notes g kept opening search op =
    grind (arith, slice_get_within (leaves_of (nothing_decided g) kept.tree) opening.leaf op.leaf op.at, AllZip-length (IsKeptNote g kept.best.length) (leaves_of (nothing_decided g) kept.tree) kept.notes.items search.notes)

-- a tree of few splits has few leaves
pub opens_few : (kept : Frontier) (s : SearchState) (g : Graph) → search_state g kept ≡ s → split_count s.tree < 255 → length (packings_of kept.tree) < 2 ^ 31
opens_few kept s g same few = grind (arith, length-packings_of)
