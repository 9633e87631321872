-- A search whose only leaf another one replaces.
use Rattle.std.proofs.Common.{ℕ, ◌≡◌, ◌<◌, ◌≤◌, List, [], ◌∷◌, length, slice_get, get_or, Some}
use Rattle.std.proofs.Common.{arith}
use Rattle.std.proofs.lemmas.List.Sums.{sum_by-append}
use Rattle.std.proofs.lemmas.Option.{slice_get-get_or}
use Rattle.net_graph.specs.declared.packing.Cut.{Cut}
use Rattle.net_graph.specs.Graph.{Graph}
use Rattle.net_graph.specs.Decision.{Decided, nothing_decided}
use Rattle.net_graph.specs.Packing.{packing_value}
use Rattle.dual_ascent.specs.Ascending.{BeginsWith}
use Rattle.cert_tree.specs.declared.split.SplitOn.{SplitOn}
use Rattle.cert_tree.specs.Tree.{Tree}
use Rattle.cert_tree.specs.Tree.Tree.{Leaf, Split}
use Rattle.cert_tree.specs.Preorder.{split_count}
use Rattle.cert_tree.specs.PreorderLaws.{length-packings_of}
use Rattle.cert_tree.specs.TreeValue.{tree_value}
use Rattle.branch.specs.declared.note.LeafNote.{LeafNote}
use Rattle.branch.specs.declared.frontier.Frontier.{Frontier}
use Rattle.branch.specs.Leaves.{DecidedLeaf, leaf_under, leaves_of}
use Rattle.branch.specs.Notes.{IsKeptNote, IsNoteOf, AreNotesOf, shorter_of, shown_first}
use Rattle.branch.specs.Searching.{SearchState, search_state, IsSearch, IsRaised}
use Rattle.branch.proofs.lemmas.ListLemmas.{AllZip-length, beside_right}
use Rattle.branch.proofs.lemmas.TreeLemmas.{length-leaves_of}

-- a search keeps a note at least
pub some_note : (g : Graph) (kept : Frontier) → IsSearch g kept → 0 < length kept.notes.items
some_note g kept search = omega (arith, length-packings_of, length-leaves_of, AllZip-length)

-- the first note tells the value of a tree that is one leaf
first_value : (g : Graph) (limit : ℕ) (tree : Tree SplitOn) (notes : List LeafNote) (note : LeafNote) → split_count tree ≡ 0 →
    AreNotesOf g limit (leaves_of (nothing_decided g) tree) notes → slice_get notes 0 ≡ Some note →
    note.value ≡ tree_value g (nothing_decided g) tree
first_value g limit (Leaf cuts) notes note none are at = grind arith
first_value g limit (Split on outside inside) notes note none are at = absurd (omega (arith, none))

-- a packing that begins with other cuts is worth no less
pub worth : (g : Graph) (d : Decided) (packing start : List Cut) → BeginsWith packing start →
    packing_value g d start ≤ packing_value g d packing
worth g d packing start (rest, is) = grind (arith, sum_by-append)

-- the first note tells the value of a search's only leaf
only_value : (g : Graph) (kept : Frontier) (s : SearchState) (first : LeafNote) → IsSearch g kept → search_state g kept ≡ s →
    split_count s.tree ≡ 0 → first ≡ get_or kept.notes.items 0 first → first.value ≡ tree_value g (nothing_decided g) kept.tree
only_value g kept s first search view none is = grind (arith, slice_get-get_or, some_note, first_value)

-- what is kept beside the first leaf is true of it
pub first_kept : (g : Graph) (kept : Frontier) (note : LeafNote) → IsSearch g kept → note ≡ get_or kept.notes.items 0 note →
    (leaf : DecidedLeaf) × (slice_get (leaves_of (nothing_decided g) kept.tree) 0 ≡ Some leaf)
    × IsKeptNote g kept.best.length leaf note
first_kept g kept note search is = grind (arith, slice_get-get_or, some_note, beside_right)

-- what the first note shows
shown_first-at : (notes : List LeafNote) (note : LeafNote) → 0 < length notes → note ≡ get_or notes 0 note → shown_first notes ≡ note.network
shown_first-at notes note some is = grind arith

pub shown_is : (g : Graph) (kept : Frontier) (note : LeafNote) → IsSearch g kept → note ≡ get_or kept.notes.items 0 note →
    shown_first kept.notes.items ≡ note.network
shown_is g kept note search is = shown_first-at kept.notes.items note (some_note g kept search) is

-- Another leaf in place of the only one, of a value that isn't less, raises the search.
pub raised : (g : Graph) (old new : Frontier) (s : SearchState) (first note : LeafNote) (packing cuts : List Cut) →
    IsSearch g old → search_state g old ≡ s → split_count s.tree ≡ 0 → first ≡ get_or old.notes.items 0 first →
    new.kind ≡ old.kind → new.first_length ≡ old.first_length → new.tree ≡ Leaf packing →
    new.notes.items ≡ note ∷ [] → new.best.network ≡ shorter_of g old.best.network note.network →
    IsNoteOf g (leaf_under (nothing_decided g) packing) note → BeginsWith packing cuts → first.value ≤ note.value →
    IsRaised cuts s (search_state g new)
raised g old new s first note packing cuts search view none is kind first_length tree notes best of_note begins more =
    grind (arith, only_value, worth g (nothing_decided g) packing cuts begins)

-- A search is raised as it stands where the leaf of the cuts isn't worth more than its only one.
pub stays_raised : (g : Graph) (kept : Frontier) (s : SearchState) (first note : LeafNote) (packing cuts : List Cut) →
    IsSearch g kept → search_state g kept ≡ s → split_count s.tree ≡ 0 → first ≡ get_or kept.notes.items 0 first →
    IsNoteOf g (leaf_under (nothing_decided g) packing) note → BeginsWith packing cuts → note.value ≤ first.value →
    IsRaised cuts s s
stays_raised g kept s first note packing cuts search view none is of_note begins less =
    grind (arith, only_value, worth, first_kept, shown_is)
