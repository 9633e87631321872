-- How the next open leaf can be opened.
use Rattle.std.proofs.Common.{ℕ, ◌≡◌, ◌*◌, ◌<◌, ◌≤◌, ◌^◌, ◌↔◌, ◌⊎◌, ⊎_elim, inl, inr, Bool, true, false, List, [], length, sum_by, slice_get, IsTrue, IfSome, IfNone, IfOk, Option, option_map, Result, Ok, Err, Some, None, refl, ap, sym, ◌∙◌, subst, arith, get_or}
use Rattle.std.proofs.lemmas.Option.{same_Some, slice_get_within, slice_get_read}
use Rattle.net_graph.specs.declared.state.EdgeState.TheVariants.{Inside}
use Rattle.net_graph.specs.declared.packing.Cut.{Cut}
use Rattle.net_graph.specs.Graph.{Graph, total_of}
use Rattle.net_graph.specs.Network.{length_of}
use Rattle.net_graph.specs.LengthLaws.{length_of_edges-le-sum}
use Rattle.net_graph.specs.Decision.{Decided, IsDecisionFor, IsUndecided, IsVertexUndecided, states_of, nothing_decided}
use Rattle.net_graph.specs.DecisionLaws.{states_of-inside}
use Rattle.net_graph.specs.Packing.{IsFeasible}
use Rattle.dual_ascent.specs.Ascending.{BeginsWith}
use Rattle.dual_ascent.specs.Carried.{carried, DecidesOneMore}
use Rattle.branch.specs.SaturatedArcs.{HasSaturatedArc}
use Rattle.cert_tree.specs.declared.split.SplitOn.{SplitOn}
use Rattle.cert_tree.specs.declared.split.SplitOn.TheVariants as split
use Rattle.cert_tree.specs.Decisions.{outside_of, inside_of, IsUndecidedSplit}
use Rattle.cert_tree.specs.Preorder.{packings_of, split_count}
use Rattle.cert_tree.specs.PreorderLaws.{length-packings_of}
use Rattle.branch.specs.declared.note.LeafNote.{LeafNote}
use Rattle.branch.specs.declared.leaf.NewLeaf.{NewLeaf}
use Rattle.branch.specs.declared.best.Best.{Best}
use Rattle.branch.specs.declared.frontier.Frontier.{Frontier}
use Rattle.branch.specs.Leaves.{DecidedLeaf, leaf_under, leaves_of}
use Rattle.branch.specs.States.{IsOpenLeaf, IsSameOrShorter, IsShownBy, leaf_value}
use Rattle.branch.specs.declared.split_kind.SplitKind.{SplitKind}
use Rattle.branch.specs.Candidates.{IsCandidate, IsVertexToSplit}
use Rattle.branch.specs.Openings.{IsSplitVertex, IsSplitOf}
use Rattle.dual_ascent.specs.Costs.{costs_of}
use Rattle.branch.specs.Notes.{IsBest, ShowsOwn, IsNoteOf, IsUpToOwn, IsKeptNote, IsNextNote, CanSplit, IsChoice}
use Rattle.branch.specs.declared.opening.Opening.{Opening}
use Rattle.branch.specs.Variants.{in_units, MayBe, MayBeNone, MayBeginAnew, MayBegin}
use Rattle.branch.specs.declared.offered.Offered.{Offered}
use Rattle.branch.specs.Searching.{search_state, is_anew_at, IsSearch, IsOpeningOf, IsCarried, IsPlain, CanSplitOn, MayBeOffered}
use Rattle.branch.proofs.lemmas.ListLemmas.{beside_left, beside_right}
use Rattle.branch.proofs.lemmas.TreeLemmas.{length-leaves_of, packing_at}
use Rattle.branch.proofs.lemmas.UnitLemmas.{length-in_units, unentered-in_units}
use Rattle.branch.proofs.lemmas.VariantLemmas.{flag_at}
use Rattle.std.proofs.lemmas.Bool.{cases_Bool}
use Rattle.branch.proofs.lemmas.InsideLemmas.{inside-covers}
use Rattle.branch.proofs.lemmas.MeetingLemmas.{meeting}

-- the leaf that the next note stands for
pub record IsNextLeaf (g : Graph) (kept : Frontier) (place : ℕ) (note : LeafNote) (leaf : DecidedLeaf) : Type 0 where
  pub at : slice_get (leaves_of (nothing_decided g) kept.tree) place ≡ Some leaf
  pub of_note : IsNoteOf g leaf note
  pub own : IsUpToOwn g kept.best.length note.network
  pub below : IsOpenLeaf g (length_of g kept.best.network) leaf
  pub flag : is_anew_at kept.notes.items place ≡ note.is_anew

pub next_leaf : (g : Graph) (kept : Frontier) (place : ℕ) (note : LeafNote) → IsSearch g kept → IsNextNote kept.best.length kept.notes.items place →
    note ≡ get_or kept.notes.items place note → (leaf : DecidedLeaf) × IsNextLeaf g kept place note leaf
next_leaf g kept place note search next is =
    grind (arith, slice_get_within, same_Some, slice_get_read, beside_right, flag_at)

-- an edge with a saturated arc is undecided or inside
saturated_cases : (g : Graph) (d : Decided) (packing : List Cut) (n : ℕ) → HasSaturatedArc g d packing n →
    IsUndecided g d n ⊎ (slice_get d.edges n ≡ Some Inside)
saturated_cases g d packing n (e, state, at, state_at, saturated) = grind (arith, states_of-inside)

pub saturated_inside : (g : Graph) (d : Decided) (packing : List Cut) (n : ℕ) → HasSaturatedArc g d packing n → (IsUndecided g d n → ⊥) →
    slice_get d.edges n ≡ Some Inside
saturated_inside g d packing n arc other = grind (arith, saturated_cases g d packing n arc)

-- a decision and what a split adds to it
pub one_more_outside : (g : Graph) (d now : Decided) (on : SplitOn) → IsUndecidedSplit g d on → now ≡ outside_of d on → DecidesOneMore g d now
one_more_outside g d now on undecided is = grind arith

pub one_more_inside : (g : Graph) (d now : Decided) (on : SplitOn) → IsUndecidedSplit g d on → now ≡ inside_of d on → DecidesOneMore g d now
one_more_inside g d now on undecided is = grind arith

split_undecided : (g : Graph) (d : Decided) (leaf : DecidedLeaf) (on : SplitOn) → d ≡ leaf.decision → IsSplitOf g leaf on → IsUndecidedSplit g d on
split_undecided g d leaf (split.Edge e) same splits = subst (λ (d : Decided). IsUndecided g d e) (sym same) splits.undecided
split_undecided g d leaf (split.Vertex v) same splits = subst (λ (d : Decided). IsVertexUndecided g d v) (sym same) splits.undecided

-- A child may begin anew only where packings are offered for both, and there the same is carried to both.
anew_child : (g : Graph) (on : SplitOn) (d : Decided) (offered : Option Offered) (of_child : Offered → List Cut) (anew : Bool) (cuts : List Cut) →
    IfSome offered (MayBeOffered g.vertices on) → MayBeginAnew g anew (option_map of_child offered) cuts →
    MayBeNone g anew cuts × ((other : List Cut) → carried g (inside_of d on) other ≡ carried g (outside_of d on) other)
anew_child g on d None of_child anew cuts may begins = absurd begins
anew_child g (split.Edge e) d (Some packings) of_child anew cuts may begins = absurd may
anew_child g (split.Vertex v) d (Some packings) of_child anew cuts may begins = (begins, λ _. refl)

-- a packing that the leaf may have, of which nothing is carried
as_if_none : (g : Graph) (anew : Bool) (parent : List Cut) (d : Decided) → MayBeNone g anew (carried g d parent) →
    (as_if : List Cut) × MayBe anew parent as_if × (carried g d as_if ≡ [])
as_if_none g anew parent d may =
    ⊎_elim
    (λ (none : carried g d parent ≡ []). (parent, inl refl, none))
    (λ (units : (anew ≡ true) × (2 * length g.edges < sum_by (λ c. c.weight) (carried g d parent))).
    (in_units parent, inr (units.0, refl), grind (arith, unentered-in_units, length-in_units)))
    may

begins_none : (g : Graph) (as_if : List Cut) (d : Decided) (leaf : NewLeaf) → carried g d as_if ≡ [] → MayBegin g as_if d leaf
begins_none g as_if d leaf none = record {
  begins = λ _. subst (λ (cuts : List Cut). BeginsWith leaf.packing cuts) (sym none) (leaf.packing, refl);
  none = λ _. none;
}

begins_own : (g : Graph) (parent : List Cut) (d : Decided) (leaf : NewLeaf) → leaf.note.is_anew ≡ false →
    (leaf.note.is_anew ≡ false → BeginsWith leaf.packing (carried g d parent)) → MayBegin g parent d leaf
begins_own g parent d leaf own begins = record { begins = begins; none = λ anew. let never : true ≡ false = sym anew ∙ own in absurd cc }

module _ (g : Graph) (kept : Frontier) (place : ℕ) (note : LeafNote) (search : IsSearch g kept) (leaf : DecidedLeaf)
    (is_next : IsNextLeaf g kept place note leaf) where
  pub note_decided : IsDecisionFor g note.decision
  note_decided = subst (λ (d : Decided). IsDecisionFor g d) (sym is_next.of_note.decision) is_next.of_note.decided

  -- were no edge of its network undecided, the leaf would not be below the best network's length
  pub note_can_split : CanSplit g note
  note_can_split = go note.network refl is_next.of_note.own is_next.own
    where
      go : (own : Option (List Bool)) → note.network ≡ own → ShowsOwn g leaf own → IsUpToOwn g kept.best.length own → CanSplit g note
      go None same shows up_to =
          let least : length_of g kept.best.network ≤ total_of g = length_of_edges-le-sum g.edges kept.best.network in
          let below : leaf_value g leaf < length_of g kept.best.network = is_next.below in
          absurd (omega arith)
      go (Some set) same shows up_to = record {
        set = set;
        own = same;
        size = shows.network_of.size;
        some = λ none.
            let covered = inside-covers g.edges leaf.decision.edges set
            (λ n at. saturated_inside g leaf.decision leaf.packing n (shows.arcs.arcs n at)
            (λ undecided. none n (record {
              within = at;
              undecided = subst (λ (d : Decided). IsUndecided g d n) (sym is_next.of_note.decision) undecided;
            }))) in
            let below : leaf_value g leaf < length_of g kept.best.network = is_next.below in
            let length_is = search.best.length in
            omega arith;
      }

  -- the leaf shows the network from which a split is chosen
  pub choice_shown : (asked : SplitKind) (on : SplitOn) (choice : IsChoice g note asked on) → IsShownBy g leaf choice.set
  choice_shown asked on choice = subst (λ (own : Option (List Bool)). ShowsOwn g leaf own) choice.own is_next.of_note.own

  pub choice_candidate : (asked : SplitKind) (on : SplitOn) (choice : IsChoice g note asked on) →
      IsCandidate asked g leaf.decision choice.set on
  choice_candidate asked on choice = grind arith

  -- an undecided vertex is no end of an inside edge, so that an edge of the network is undecided there
  shown_vertex : (set : List Bool) (v : ℕ) → IsShownBy g leaf set → IsVertexToSplit g leaf.decision set v → IsSplitVertex g leaf v
  shown_vertex set v shows sought =
      let undecided = sought.undecided in
      let met = meeting g.edges set v sought.some in
      let arc = shows.arcs.arcs met.number met.within in
      record {
        undecided = undecided;
        number = met.number;
        edge = met.edge;
        at = met.at;
        ends = met.ends;
        splits = record {
          undecided = ⊎_elim
              (λ (yes : IsUndecided g leaf.decision met.number). yes)
              (λ (inside : slice_get leaf.decision.edges met.number ≡ Some Inside).
              absurd (undecided.not_required (inr (inl (met.number, met.edge, inside, met.at, met.ends)))))
              (saturated_cases g leaf.decision leaf.packing met.number arc);
          saturated = arc;
        };
      }

  choice_splits : (asked : SplitKind) (on : SplitOn) → IsChoice g note asked on → IsSplitOf g leaf on
  choice_splits asked (split.Edge e) choice = grind arith
  choice_splits asked (split.Vertex v) choice = grind (arith, shown_vertex)

  pub choice_can : (asked : SplitKind) (on : SplitOn) → IsChoice g note asked on → CanSplitOn (search_state g kept) place on
  choice_can asked on choice = (leaf, is_next.at, is_next.below, choice_splits asked on choice)

  -- .. and an opening on it of which both children begin with what is carried is plain
  pub plain_opening : {E : Type 0} (on : SplitOn) (result : Result Opening E) → IsChoice g note kept.kind on →
      IfOk result (λ opening. opening.leaf ≡ place) → IfOk result (λ opening. opening.on ≡ on) →
      IfOk result (IsCarried g kept) → IfOk result (IsPlain g kept)
  plain_opening on (Err e) choice leaf_is on_is carries = tt
  plain_opening on (Ok opening) choice leaf_is on_is carries =
      let at = subst (λ (n : ℕ). slice_get (leaves_of (nothing_decided g) kept.tree) n ≡ Some carries.leaf) leaf_is carries.at in
      let same : leaf ≡ carries.leaf = same_Some leaf carries.leaf (sym is_next.at ∙ at) in
      record {
        carried = carries;
        set = choice.set;
        shown = subst (λ (l : DecidedLeaf). IsShownBy g l choice.set) same (choice_shown kept.kind on choice);
        candidate = subst (λ (l : DecidedLeaf). IsCandidate kept.kind g l.decision choice.set opening.on) same
            (subst (λ (u : SplitOn). IsCandidate kept.kind g leaf.decision choice.set u) (sym on_is) (choice_candidate kept.kind on choice));
      }

module _ (g : Graph) (kept : Frontier) (place : ℕ) (on : SplitOn) (note : LeafNote) (search : IsSearch g kept)
    (can : CanSplitOn (search_state g kept) place on) (is : note ≡ get_or kept.notes.items place note) where
  ready : (leaf : DecidedLeaf) × IsNextLeaf g kept place note leaf × IsSplitOf g leaf on
  ready =
      let (leaf, leaf_at, below, splits) = can in
      grind (
        arith,
        beside_left (IsKeptNote g kept.best.length) (leaves_of (nothing_decided g) kept.tree) kept.notes.items place leaf search.notes leaf_at,
        slice_get_within,
        same_Some,
        slice_get_read,
        flag_at,
      )

  abbrev leaf : DecidedLeaf
  leaf = ready.0

  abbrev is_next : IsNextLeaf g kept place note leaf
  is_next = ready.1

  pub decided : IsDecisionFor g note.decision
  decided = note_decided g kept place note search leaf is_next

  -- what the leaf may be split on is undecided beside it
  pub undecided : IsUndecidedSplit g note.decision on
  undecided = split_undecided g note.decision leaf on is_next.of_note.decision ready.2

  pub place_within : place < length (packings_of kept.tree)
  place_within =
      grind (arith, slice_get_within (leaves_of (nothing_decided g) kept.tree) place leaf is_next.at, length-leaves_of (nothing_decided g) kept.tree)

  pub place_small : split_count kept.tree < 255 → place < 2 ^ 31
  place_small few = omega (arith, place_within, length-packings_of kept.tree)

  parent_is : (parent : List Cut) → slice_get (packings_of kept.tree) place ≡ Some parent → leaf.packing ≡ parent
  parent_is parent at = same_Some leaf.packing parent (sym (packing_at (nothing_decided g) kept.tree place leaf is_next.at) ∙ at)

  pub parent_feasible : (parent : List Cut) → slice_get (packings_of kept.tree) place ≡ Some parent → IsFeasible g note.decision parent
  parent_feasible parent at = grind (arith, parent_is)

  -- what is kept of the rooms
  pub parent_costs : (parent : List Cut) → slice_get (packings_of kept.tree) place ≡ Some parent →
      note.costs ≡ costs_of g.edges (states_of g note.decision) parent
  parent_costs parent at =
      is_next.of_note.costs (note_can_split g kept place note search leaf is_next).set (note_can_split g kept place note search leaf is_next).own
      ∙ ap (λ (p : List Cut). costs_of g.edges (states_of g leaf.decision) p) (parent_is parent at)
      ∙ ap (λ (d : Decided). costs_of g.edges (states_of g d) parent) (sym is_next.of_note.decision)

  -- all together
  module _ (d_out d_in : Decided) (parent : List Cut) (outside inside : NewLeaf) (best : Best)
      (out_decided : d_out ≡ outside_of note.decision on) (in_decided : d_in ≡ inside_of note.decision on)
      (parent_at : slice_get (packings_of kept.tree) place ≡ Some parent)
      (out_begins : outside.note.is_anew ≡ false → BeginsWith outside.packing (carried g d_out parent))
      (in_begins : inside.note.is_anew ≡ false → BeginsWith inside.packing (carried g d_in parent)) where
    abbrev made : Opening
    made = record { leaf = place; on = on; outside = outside; inside = inside; best = best }

    out_is : d_out ≡ outside_of leaf.decision on
    out_is = out_decided ∙ ap (λ d. outside_of d on) is_next.of_note.decision

    in_is : d_in ≡ inside_of leaf.decision on
    in_is = in_decided ∙ ap (λ d. inside_of d on) is_next.of_note.decision

    both_carried : outside.note.is_anew ≡ false → inside.note.is_anew ≡ false → IsCarried g kept made
    both_carried out_own in_own = record {
      leaf = leaf;
      at = is_next.at;
      outside = grind (arith, out_is, parent_is parent parent_at, out_begins out_own);
      inside = grind (arith, in_is, parent_is parent parent_at, in_begins in_own);
    }

    module _ (offered : Option Offered) (for_outside for_inside : Option (List Cut)) (may_be : IfSome offered (MayBeOffered g.vertices on))
        (outside_is : for_outside ≡ option_map (λ o. o.outside) offered) (inside_is : for_inside ≡ option_map (λ o. o.inside) offered)
        (out_anew : IsTrue outside.note.is_anew ↔ MayBeginAnew g note.is_anew for_outside (carried g d_out parent))
        (in_anew : IsTrue inside.note.is_anew ↔ MayBeginAnew g note.is_anew for_inside (carried g d_in parent)) where
      -- where nothing is offered, both begin with what is carried
      carried_where_none : IfNone offered (IsCarried g kept made)
      carried_where_none = grind (arith, both_carried, cases_Bool outside.note.is_anew, cases_Bool inside.note.is_anew)

      -- a child that begins anew has a packing that the leaf may have, of which nothing is carried to either
      as_if_anew : (of_child : Offered → List Cut) (for_child : Option (List Cut)) (d : Decided) → for_child ≡ option_map of_child offered →
          MayBeginAnew g note.is_anew for_child (carried g d parent) →
          (as_if : List Cut) × MayBe note.is_anew parent as_if × (carried g d as_if ≡ []) × (carried g d_in as_if ≡ carried g d_out as_if)
      as_if_anew of_child for_child d is begins =
          let (may, same) = anew_child g on note.decision offered of_child note.is_anew (carried g d parent) may_be
          (subst (λ (o : Option (List Cut)). MayBeginAnew g note.is_anew o (carried g d parent)) is begins) in
          let (as_if, may_have, none) = as_if_none g note.is_anew parent d may in
          (as_if, may_have, none, grind (arith, out_decided, in_decided, same as_if))

      -- there is one packing that the leaf may have with which both begin as they may
      as_if_both : (as_if : List Cut) × MayBe note.is_anew parent as_if × MayBegin g as_if d_out outside × MayBegin g as_if d_in inside
      as_if_both =
          ⊎_elim
          (λ (anew : outside.note.is_anew ≡ true).
          let (as_if, may, none, same) = as_if_anew (λ o. o.outside) for_outside d_out outside_is (out_anew.0 anew) in
          (as_if, may, begins_none g as_if d_out outside none, begins_none g as_if d_in inside (same ∙ none)))
          (λ (out_own : outside.note.is_anew ≡ false).
          ⊎_elim
          (λ (anew : inside.note.is_anew ≡ true).
          let (as_if, may, none, same) = as_if_anew (λ o. o.inside) for_inside d_in inside_is (in_anew.0 anew) in
          (as_if, may, begins_none g as_if d_out outside (sym same ∙ none), begins_none g as_if d_in inside none))
          (λ (in_own : inside.note.is_anew ≡ false).
          (parent, inl refl, begins_own g parent d_out outside out_own out_begins, begins_own g parent d_in inside in_own in_begins))
          (cases_Bool inside.note.is_anew))
          (cases_Bool outside.note.is_anew)

      pub opened : IsNoteOf g (leaf_under d_out outside.packing) outside.note → IsNoteOf g (leaf_under d_in inside.packing) inside.note →
          IsBest g best → IsSameOrShorter g kept.best.network best.network →
          IsUpToOwn g best.length outside.note.network → IsUpToOwn g best.length inside.note.network →
          IsOpeningOf g kept made × IfNone offered (IsCarried g kept made)
      opened out_note in_note is_best which out_own in_own =
          let (as_if, may_have, out_may, in_may) = as_if_both in
          let opening : IsOpeningOf g kept made = record {
            leaf = leaf;
            at = is_next.at;
            below = is_next.below;
            splits = ready.2;
            outside = subst (λ (d : Decided). IsNoteOf g (leaf_under d outside.packing) outside.note) out_is out_note;
            inside = subst (λ (d : Decided). IsNoteOf g (leaf_under d inside.packing) inside.note) in_is in_note;
            as_if = as_if;
            may_be = grind (arith, is_next.flag, parent_is parent parent_at);
            outside_begins = subst (λ (d : Decided). MayBegin g as_if d outside) out_is out_may;
            inside_begins = subst (λ (d : Decided). MayBegin g as_if d inside) in_is in_may;
            best = is_best;
            network_is = which;
            outside_own = out_own;
            inside_own = in_own;
          } in
          (opening, carried_where_none)
