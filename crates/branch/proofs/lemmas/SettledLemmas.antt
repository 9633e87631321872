-- What a search comes to.
use Rattle.std.proofs.Common.{ℕ, ◌≡◌, ◌+◌, ◌*◌, ◌<◌, ◌≤◌, Bool, List, length, min, take, All, IsTrue, ◌↔◌, sym, ◌∙◌, subst, arith}
use Rattle.std.proofs.Math.Nat.{min-le_left, min-le_right, le-min}
use Rattle.std.proofs.lemmas.Option.{slice_get_within, slice_get-get_or, same_Some}
use Rattle.lists.specs.ListLaws.{All-at, All-from_places}
use Rattle.net_graph.specs.declared.packing.Cut.{Cut}
use Rattle.net_graph.specs.Graph.{Graph}
use Rattle.net_graph.specs.Decision.{nothing_decided}
use Rattle.net_graph.specs.DecisionLaws.{IsDecisionFor-nothing, Agrees-nothing}
use Rattle.net_graph.specs.Saturation.{IsMaximal}
use Rattle.cert_tree.specs.Preorder.{packings_of}
use Rattle.cert_tree.specs.TreeValue.{tree_value, TreesBoundNetworks}
use Rattle.branch.specs.declared.note.LeafNote.{LeafNote}
use Rattle.branch.specs.declared.frontier.Frontier.{Frontier}
use Rattle.branch.specs.Leaves.{DecidedLeaf, leaves_of}
use Rattle.branch.specs.States.{IsOpenLeaf, leaf_value}
use Rattle.branch.specs.Notes.{IsKeptNote, IsLesserOfNotes, IsNextNote}
use Rattle.branch.specs.Searching.{search_state, is_anew_at, IsSearch, IsSettled, IsOpenAt}
use Rattle.branch.specs.Solving.{IsSolved}
use Rattle.branch.proofs.lemmas.ListLemmas.{AllZip-take, beside_left, beside_right}
use Rattle.branch.proofs.lemmas.TreeLemmas.{length-leaves_of, packing_at, le-tree_value, tree_value-le}
use Rattle.branch.proofs.lemmas.SearchLemmas.{state_of}
use Rattle.branch.proofs.lemmas.VariantLemmas.{variant_same}

module _ (g : Graph) (kept : Frontier) (search : IsSearch g kept) where
  abbrev leaves : List DecidedLeaf
  leaves = leaves_of (nothing_decided g) kept.tree

  -- what no kept value is below, the tree's value isn't below
  pub tree_above : (bound : ℕ) → All (λ (note : LeafNote). bound ≤ note.value) kept.notes.items → bound ≤ tree_value g (nothing_decided g) kept.tree
  tree_above bound each = le-tree_value g (nothing_decided g) kept.tree bound
      (λ k leaf at.
      let (note, note_at, kept_note) = beside_left (IsKeptNote g kept.best.length) leaves kept.notes.items k leaf search.notes at in
      let low : bound ≤ note.value = All-at (λ (n : LeafNote). bound ≤ n.value) kept.notes.items k note each note_at in
      let value = kept_note.0.value in omega arith)

  pub settled : All (λ (note : LeafNote). kept.best.length ≤ note.value) kept.notes.items → IsSettled (search_state g kept)
  settled each = let length_is = search.best.length in let low = tree_above kept.best.length each in omega arith

  -- the lesser of the kept values and the length is that of the tree's value and the length
  pub bound_is : (bound : ℕ) → IsLesserOfNotes kept.best.length kept.notes.items bound →
      bound ≡ min (tree_value g (nothing_decided g) kept.tree) kept.best.length
  bound_is bound lesser = grind (arith, tree_above, min, le-min, min-le_left, min-le_right, beside_right, tree_value-le)

  pub few_cuts : All (λ (packing : List Cut). length packing ≤ 4 * length g.edges + 1) (packings_of kept.tree)
  few_cuts = All-from_places (λ (packing : List Cut). length packing ≤ 4 * length g.edges + 1) (packings_of kept.tree)
      (λ k packing at.
      let within : k < length (packings_of kept.tree) = slice_get_within (packings_of kept.tree) k packing at in
      let other : DecidedLeaf = record { decision = nothing_decided g; packing = packing } in
      let leaf_at = slice_get-get_or leaves k other (omega (arith, length-leaves_of (nothing_decided g) kept.tree)) in
      let (note, _, kept_note) = beside_left (IsKeptNote g kept.best.length) leaves kept.notes.items k _ search.notes leaf_at in
      let same = same_Some _ packing (sym (packing_at (nothing_decided g) kept.tree k _ leaf_at) ∙ at) in
      subst (λ (p : List Cut). length p ≤ 4 * length g.edges + 1) same kept_note.0.few)

  pub open_maximal : All (λ (leaf : DecidedLeaf). IsOpenLeaf g kept.best.length leaf → IsMaximal g leaf.decision leaf.packing) leaves
  open_maximal = grind (arith, state_of)

  -- all that is told is true
  pub solved_is : (bound : ℕ) (optimal : Bool) → IsLesserOfNotes kept.best.length kept.notes.items bound →
      (IsTrue optimal ↔ (bound ≡ kept.best.length)) → TreesBoundNetworks →
      IsSolved g kept.first_length
      (record { network = kept.best.network; length = kept.best.length; bound = bound; optimal = optimal; tree = kept.tree })
  solved_is bound optimal lesser agree law =
      grind (arith, bound_is bound lesser, tree_above, IsDecisionFor-nothing, Agrees-nothing, few_cuts, open_maximal, search.run kept.tree (variant_same (is_anew_at kept.notes.items) 0 kept.tree))

  -- the leaves before one whose note is the next have greater values
  earlier_leaves : (place value : ℕ) → All (λ (other : LeafNote). value < other.value) (take place kept.notes.items) →
      All (λ (other : DecidedLeaf). value < leaf_value g other) (take place leaves)
  earlier_leaves place value earlier = All-from_places (λ (other : DecidedLeaf). value < leaf_value g other) (take place leaves)
      (λ k leaf at.
      let both = AllZip-take (IsKeptNote g kept.best.length) place leaves kept.notes.items search.notes in
      let (note, note_at, kept_note) = beside_left (IsKeptNote g kept.best.length) (take place leaves) (take place kept.notes.items) k leaf both at in
      let more : value < note.value = All-at (λ (n : LeafNote). value < n.value) (take place kept.notes.items) k note earlier note_at in
      let value_is = kept_note.0.value in omega arith)

  -- the next note's leaf is the one that is open next
  pub next_is_open : (place : ℕ) → IsNextNote kept.best.length kept.notes.items place → IsOpenAt (search_state g kept) place
  next_is_open place (note, at, below, least, earlier) =
      let (leaf, leaf_at, kept_note) = beside_right (IsKeptNote g kept.best.length) leaves kept.notes.items place note search.notes at in
      let above : tree_value g (nothing_decided g) kept.tree ≤ leaf_value g leaf =
      tree_value-le g (nothing_decided g) kept.tree place leaf leaf_at in
      let low = tree_above note.value least in
      let value = kept_note.0.value in
      let length_is = search.best.length in
      let lower : note.value < kept.best.length = below in
      let least_is : note.value ≡ tree_value g (nothing_decided g) kept.tree = omega arith in
      record {
        leaf = leaf;
        at = leaf_at;
        below = omega arith;
        least = omega arith;
        earlier = subst (λ (n : ℕ). All (λ (other : DecidedLeaf). n < leaf_value g other) (take place leaves)) least_is
            (earlier_leaves place note.value earlier);
      }
