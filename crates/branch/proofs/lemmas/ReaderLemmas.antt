-- What a search tells of its leaves.
use Rattle.std.proofs.Common.{ℕ, ◌≡◌, ◌<◌, Bool, List, length, slice_get, get_or, Option, Some}
use Rattle.std.proofs.Common.{refl, sym, ◌∙◌, subst, arith}
use Rattle.std.specs.Prelude.{IfNone, IfSome}
use Rattle.std.proofs.lemmas.Option.{slice_get_within, slice_get-get_or, same_Some}
use Rattle.net_graph.specs.Graph.{Graph}
use Rattle.net_graph.specs.declared.packing.Cut.{Cut}
use Rattle.net_graph.specs.Packing.{IsFeasible}
use Rattle.net_graph.specs.Decision.{Decided, IsDecisionFor, IsUndecided, IsVertexUndecided, states_of, nothing_decided}
use Rattle.net_graph.specs.DecisionLaws.{length-states_of}
use Rattle.net_graph.specs.LengthLaws.{length_of_edges-le-sum}
use Rattle.net_graph.specs.Network.{length_of}
use Rattle.dual_ascent.specs.declared.costs.EdgeCosts.{EdgeCosts}
use Rattle.dual_ascent.specs.Costs.{costs_of}
use Rattle.dual_ascent.specs.CostLaws.{length-costs_of}
use Rattle.cert_tree.specs.Preorder.{packings_of}
use Rattle.branch.specs.declared.note.LeafNote.{LeafNote}
use Rattle.branch.specs.declared.frontier.Frontier.{Frontier}
use Rattle.branch.specs.Leaves.{DecidedLeaf, leaves_of}
use Rattle.branch.specs.SaturatedArcs.{IsUsedUpEdge}
use Rattle.branch.specs.States.{IsOpenLeaf}
use Rattle.branch.specs.Openings.{IsSplitVertex}
use Rattle.branch.specs.Notes.{IsNoteOf, IsKeptNote, IsNextNote, HasSaturatedEnd}
use Rattle.branch.specs.Searching.{SearchState, search_state, IsSearch, IsDecidedAt, CanSplitAt}
use Rattle.branch.proofs.lemmas.ListLemmas.{AllZip-length, beside_right}
use Rattle.branch.proofs.lemmas.SaturatedLemmas.{HasSaturatedArc-used_up}
use Rattle.branch.proofs.lemmas.TreeLemmas.{length-leaves_of, packing_at}

-- what holds anyway holds where there is nothing
pub IfNone-holds : {A : Type 0} (o : Option A) (P : Type 0) → P → IfNone o P
IfNone-holds o P holds = grind arith

-- there is a note for each leaf
notes_length : (g : Graph) (kept : Frontier) → IsSearch g kept →
    length kept.notes.items ≡ length (packings_of kept.tree)
notes_length g kept search = omega (arith, AllZip-length, length-leaves_of)

pub note_within : (g : Graph) (kept : Frontier) (s : SearchState) (k : ℕ) → IsSearch g kept → search_state g kept ≡ s →
    k < length (packings_of s.tree) → k < length kept.notes.items
note_within g kept s k search view within = grind (arith, notes_length)

pub next_within : (g : Graph) (kept : Frontier) (place : ℕ) → IsSearch g kept →
    IsNextNote kept.best.length kept.notes.items place →
    place < length (packings_of kept.tree)
next_within g kept place search (note, at, below, least, earlier) =
    grind (arith, slice_get_within kept.notes.items place note, notes_length)

module _ (g : Graph) (kept : Frontier) (k : ℕ) (note : LeafNote) (search : IsSearch g kept)
    (within : k < length kept.notes.items) (is : note ≡ get_or kept.notes.items k note) where
  -- the leaf that the note stands for
  leaf_beside : (leaf : DecidedLeaf) × (slice_get (leaves_of (nothing_decided g) kept.tree) k ≡ Some leaf)
      × IsKeptNote g kept.best.length leaf note
  leaf_beside = grind (arith, slice_get-get_or, beside_right)

  pub is_decided : IsDecidedAt (search_state g kept) k note.decision
  is_decided = grind (arith, leaf_beside)

  pub rooms_size : IfSome note.network (λ _. length note.costs ≡ length g.edges)
  rooms_size = grind (arith, leaf_beside, length-costs_of, length-states_of)

  -- a view of the leaf tells its decision, its packing, what that leaves, and a network of the graph's edges
  pub seen_decision : IsDecisionFor g note.decision
  seen_decision = grind (arith, leaf_beside)

  pub seen_feasible : (packing : List Cut) → slice_get (packings_of kept.tree) k ≡ Some packing →
      IsFeasible g note.decision packing
  seen_feasible packing at =
      let (leaf, leaf_at, kept_note) = leaf_beside in
      grind (arith, packing_at (nothing_decided g) kept.tree k leaf leaf_at)

  pub seen_costs : (set : List Bool) → note.network ≡ Some set → (packing : List Cut) →
      slice_get (packings_of kept.tree) k ≡ Some packing →
      note.costs ≡ costs_of g.edges (states_of g note.decision) packing
  seen_costs set own packing at =
      let (leaf, leaf_at, kept_note) = leaf_beside in
      grind (arith, packing_at (nothing_decided g) kept.tree k leaf leaf_at, kept_note.0.costs set own)

  pub seen_own : (set : List Bool) → note.network ≡ Some set → length set ≡ length g.edges
  seen_own set own = grind (arith, leaf_beside)

  -- a vertex at which an undecided edge with a saturated arc ends can be split on
  pub can_split : (v : ℕ) → note.value < kept.best.length → HasSaturatedEnd g note v →
      CanSplitAt (search_state g kept) k v
  can_split v low has =
      let (leaf, at, kept_note) = leaf_beside in
      let value = kept_note.0.value in
      let length_is = search.best.length in
      let same = kept_note.0.decision in
      let decided = kept_note.0.decided in
      let costs = kept_note.0.costs has.set has.own in
      let edge = has.edge in
      let used_up : IsUsedUpEdge (costs_of g.edges (states_of g leaf.decision) leaf.packing) edge.number =
      subst (λ (cs : List EdgeCosts). IsUsedUpEdge cs edge.number) costs edge.used_up in
      let below : IsOpenLeaf g (length_of g kept.best.network) leaf = omega arith in
      let splits : IsSplitVertex g leaf v = record {
        undecided = subst (λ (d : Decided). IsVertexUndecided g d v) same has.undecided;
        number = edge.number;
        edge = edge.edge;
        at = edge.at;
        ends = edge.ends;
        splits = record {
          undecided = subst (λ (d : Decided). IsUndecided g d edge.number) same edge.undecided;
          saturated = (HasSaturatedArc-used_up g leaf.decision leaf.packing decided edge.number).0 used_up;
        };
      } in
      (leaf, at, below, splits)

  -- an open leaf's note has a network
  own_network : (leaf : DecidedLeaf) → IsNoteOf g leaf note → IsOpenLeaf g (length_of g kept.best.network) leaf →
      (own : Option (List Bool)) → note.network ≡ own → (set : List Bool) × (note.network ≡ Some set)
  own_network leaf is below own none = grind (arith, length_of_edges-le-sum)

  -- .. and no other vertex can
  pub has_end : (v : ℕ) → CanSplitAt (search_state g kept) k v →
      (note.value < kept.best.length) × HasSaturatedEnd g note v
  has_end v (leaf, at, below, splits) =
      let (other, other_at, kept_note) = leaf_beside in
      let is : IsNoteOf g leaf note =
      subst (λ (l : DecidedLeaf). IsNoteOf g l note) (same_Some other leaf (sym other_at ∙ at)) kept_note.0 in
      let value = is.value in
      let length_is = search.best.length in
      let same = sym is.decision in
      let (set, own) = own_network leaf is below note.network refl in
      let used_up = (HasSaturatedArc-used_up g leaf.decision leaf.packing is.decided splits.number).1 splits.splits.saturated in (
        omega arith,
        record {
          set = set;
          own = own;
          undecided = subst (λ (d : Decided). IsVertexUndecided g d v) same splits.undecided;
          edge = record {
            number = splits.number;
            edge = splits.edge;
            at = splits.at;
            ends = splits.ends;
            undecided = subst (λ (d : Decided). IsUndecided g d splits.number) same splits.splits.undecided;
            used_up = subst (λ (cs : List EdgeCosts). IsUsedUpEdge cs splits.number) (sym (is.costs set own)) used_up;
          };
        },
      )
