-- What a search keeps, through its openings.
use Rattle.std.proofs.Common.{ℕ, suc, ◌≡◌, ◌+◌, ◌<◌, ◌≤◌, ⊎_elim, Bool, true, false, List, [], ◌∷◌, length, slice_get, slice_set, Some, refl, ap, sym, ◌∙◌, subst, arith}
use Rattle.std.specs.List.{AllZip, insert}
use Rattle.std.proofs.lemmas.Option.{same_Some, slice_get_within}
use Rattle.std.proofs.lemmas.Bool.{cases_Bool}
use Rattle.lists.specs.ListLaws.{All-from_places}
use Rattle.dual_ascent.specs.Ascending.{BeginsWith}
use Rattle.dual_ascent.specs.Carried.{carried}
use Rattle.net_graph.specs.declared.packing.Cut.{Cut}
use Rattle.net_graph.specs.Graph.{Graph}
use Rattle.net_graph.specs.Network.{length_of}
use Rattle.net_graph.specs.LengthLaws.{length_of_edges-le-sum}
use Rattle.net_graph.specs.Decision.{Decided, nothing_decided}
use Rattle.cert_tree.specs.declared.split.SplitOn.{SplitOn}
use Rattle.cert_tree.specs.declared.split.SplitOn.TheVariants as split
use Rattle.cert_tree.specs.Tree.{Tree, split_with}
use Rattle.cert_tree.specs.Tree.Tree.{Leaf}
use Rattle.cert_tree.specs.Preorder.{split_count}
use Rattle.cert_tree.specs.Replaced.{replaced}
use Rattle.cert_tree.specs.Decisions.{outside_of, inside_of}
use Rattle.cert_tree.specs.TreeValue.{IsValidTree}
use Rattle.branch.specs.declared.note.LeafNote.{LeafNote}
use Rattle.branch.specs.declared.best.Best.{Best}
use Rattle.branch.specs.declared.frontier.Frontier.{Frontier}
use Rattle.branch.specs.declared.opening.Opening.{Opening}
use Rattle.branch.specs.Leaves.{DecidedLeaf, leaf_under, leaves_of}
use Rattle.branch.specs.States.{IsReadyLeaf, IsOpenLeaf, IsSameOrShorter, IsShownBy, IsState, leaf_value}
use Rattle.branch.specs.Candidates.{IsCandidate}
use Rattle.branch.specs.PlainOpenings.{IsOpenNext, IsPlainOpening}
use Rattle.branch.specs.Openings.{IsOpening, BeginsAt}
use Rattle.branch.specs.Runs.{EndsOpenings, EndsRunOfOpenings}
use Rattle.branch.specs.Notes.{IsBest, IsNoteOf, IsUpToOwn, IsKeptNote, AreNotesOf}
use Rattle.branch.specs.Variants.{in_units, MayBe, IsVariant, MayBegin}
use Rattle.branch.specs.declared.leaf.NewLeaf.{NewLeaf}
use Rattle.branch.specs.Searching.{search_state, is_anew_at, IsSearch, IsOpeningOf, IsPlain, IsOpened, OpensTo, IsSplitAt}
use Rattle.branch.proofs.lemmas.ListLemmas.{two_at, insert-set, AllZip-two_at, AllZip-weaker, AllZip-length, beside_left}
use Rattle.branch.proofs.lemmas.VariantLemmas.{IsLike-may_be, like_value, like_split, variant_same, variant_splits, variant_state, variant_split}
use Rattle.branch.proofs.lemmas.VariantLemmas.{flags_same_before, flags_same_behind, flag_of_outside, flag_of_inside}
use Rattle.branch.proofs.lemmas.TreeLemmas.{leaves_of-replaced, IsValidTree-replaced, split_count-replaced}

-- a best network and a valid tree with notes are a state
pub state_of : (g : Graph) (best : Best) (tree : Tree SplitOn) (notes : List LeafNote) → IsBest g best →
    IsValidTree g (nothing_decided g) tree → AreNotesOf g best.length (leaves_of (nothing_decided g) tree) notes → IsState g best.network tree
state_of g best tree notes is_best valid are = record {
  network_of = is_best.network_of;
  valid = valid;
  leaves = All-from_places (λ (leaf : DecidedLeaf). IsOpenLeaf g (length_of g best.network) leaf → IsReadyLeaf g (length_of g best.network) leaf)
      (leaves_of (nothing_decided g) tree)
      (λ k leaf at below.
      let (note, _, kept) = beside_left (IsKeptNote g best.length) (leaves_of (nothing_decided g) tree) notes k leaf are at in
      grind (arith, length_of_edges-le-sum));
}

-- a new leaf that may have another packing begins with what is carried to it
may_begin : (g : Graph) (parent : List Cut) (d : Decided) (leaf : NewLeaf) (packing : List Cut) → MayBegin g parent d leaf →
    MayBe leaf.note.is_anew leaf.packing packing → BeginsWith packing (carried g d parent)
may_begin g parent d leaf packing begins may_be =
    ⊎_elim
    (λ (anew : leaf.note.is_anew ≡ true).
    subst (λ (cuts : List Cut). BeginsWith packing cuts) (sym (begins.none anew)) (packing, refl))
    (λ (same : leaf.note.is_anew ≡ false).
    ⊎_elim
    (λ (own : packing ≡ leaf.packing). subst (λ (cuts : List Cut). BeginsWith cuts (carried g d parent)) (sym own) (begins.begins same))
    (λ (units : (leaf.note.is_anew ≡ true) × (packing ≡ in_units leaf.packing)).
    let never : true ≡ false = sym units.0 ∙ same in absurd cc)
    may_be)
    (cases_Bool leaf.note.is_anew)

module _ (g : Graph) (old : Frontier) (opening : Opening) (search : IsSearch g old) (op : IsOpeningOf g old opening) where
  abbrev first_leaves : List DecidedLeaf
  first_leaves = leaves_of (nothing_decided g) old.tree

  abbrev outside_leaf : DecidedLeaf
  outside_leaf = leaf_under (outside_of op.leaf.decision opening.on) opening.outside.packing

  abbrev inside_leaf : DecidedLeaf
  inside_leaf = leaf_under (inside_of op.leaf.decision opening.on) opening.inside.packing

  abbrev opened_tree : Tree SplitOn
  opened_tree = replaced opening.leaf (split_with opening.on opening.outside.packing opening.inside.packing) old.tree

  opened_valid : IsValidTree g (nothing_decided g) opened_tree
  opened_valid =
      IsValidTree-replaced opening.on opening.outside.packing opening.inside.packing g (nothing_decided g) old.tree opening.leaf op.leaf op.at
      search.valid (grind arith) op.outside.feasible op.inside.feasible

  opened_shorter : length_of g opening.best.network ≤ length_of g old.best.network
  opened_shorter = grind arith

  opened_less : opening.best.length ≤ old.best.length
  opened_less = let less = opened_shorter in let before = search.best.length in let after = op.best.length in omega arith

  opened_within : opening.leaf < length old.notes.items
  opened_within =
      let within : opening.leaf < length first_leaves = slice_get_within first_leaves opening.leaf op.leaf op.at in
      omega (arith, AllZip-length (IsKeptNote g old.best.length) first_leaves old.notes.items search.notes)

  opened_notes : AllZip (IsKeptNote g opening.best.length) (leaves_of (nothing_decided g) opened_tree)
      (insert (slice_set old.notes.items opening.leaf opening.outside.note) (opening.leaf + 1) opening.inside.note)
  opened_notes =
      let within : opening.leaf < length first_leaves = slice_get_within first_leaves opening.leaf op.leaf op.at in
      let same : length first_leaves ≡ length old.notes.items = AllZip-length (IsKeptNote g old.best.length) first_leaves old.notes.items search.notes in
      let leaves = leaves_of-replaced opening.on opening.outside.packing opening.inside.packing (nothing_decided g) old.tree opening.leaf op.leaf op.at in
      let notes = insert-set old.notes.items opening.leaf opening.outside.note opening.inside.note (omega arith) in
      let all : AllZip (IsKeptNote g opening.best.length) first_leaves old.notes.items =
      AllZip-weaker (IsKeptNote g old.best.length) (IsKeptNote g opening.best.length)
      (λ leaf note kept. (kept.0, grind arith))
      first_leaves old.notes.items search.notes in
      subst (λ (xs : List DecidedLeaf). AllZip (IsKeptNote g opening.best.length) xs
      (insert (slice_set old.notes.items opening.leaf opening.outside.note) (opening.leaf + 1) opening.inside.note)) (sym leaves)
      (subst (λ (ys : List LeafNote). AllZip (IsKeptNote g opening.best.length) (two_at first_leaves opening.leaf outside_leaf inside_leaf) ys) (sym notes)
      (AllZip-two_at (IsKeptNote g opening.best.length) first_leaves old.notes.items opening.leaf outside_leaf inside_leaf
      opening.outside.note opening.inside.note all (op.outside, op.outside_own) (op.inside, op.inside_own)))

  opened_count : split_count opened_tree ≡ split_count old.tree + 1
  opened_count = split_count-replaced opening.on opening.outside.packing opening.inside.packing (nothing_decided g) old.tree opening.leaf op.leaf op.at

  opened_plain : IsPlain g old opening → IsOpenNext g old.best.network old.tree opening.leaf →
      IsPlainOpening old.kind g old.best.network opening.best.network old.tree opened_tree
  opened_plain plain next =
      let same : plain.carried.leaf ≡ op.leaf = same_Some plain.carried.leaf op.leaf (sym plain.carried.at ∙ op.at) in
      record {
        opening = record {
          place = opening.leaf;
          leaf = op.leaf;
          on = opening.on;
          outside = opening.outside.packing;
          inside = opening.inside.packing;
          at = op.at;
          below = op.below;
          splits = op.splits;
          tree_is = refl;
          outside_begins = subst (λ (l : DecidedLeaf). BeginsAt g l (outside_of l.decision opening.on) opening.outside.packing) same plain.carried.outside;
          inside_begins = subst (λ (l : DecidedLeaf). BeginsAt g l (inside_of l.decision opening.on) opening.inside.packing) same plain.carried.inside;
          no_longer = opened_shorter;
        };
        next = next;
        set = plain.set;
        shown = subst (λ (l : DecidedLeaf). IsShownBy g l plain.set) same plain.shown;
        candidate = subst (λ (l : DecidedLeaf). IsCandidate old.kind g l.decision plain.set opening.on) same plain.candidate;
        network_is = op.network_is;
      }

  -- the flags of the leaves before and after
  abbrev old_flags : ℕ → Bool
  old_flags = is_anew_at old.notes.items

  abbrev new_flags : ℕ → Bool
  new_flags = is_anew_at (insert (slice_set old.notes.items opening.leaf opening.outside.note) (opening.leaf + 1) opening.inside.note)

  -- the opening of a variant
  variant_opening : (p q : List Cut) (earlier other : Tree SplitOn) → MayBe opening.outside.note.is_anew opening.outside.packing p →
      MayBe opening.inside.note.is_anew opening.inside.packing q →
      slice_get (leaves_of (nothing_decided g) earlier) opening.leaf ≡ Some (leaf_under op.leaf.decision op.as_if) →
      other ≡ replaced opening.leaf (split_with opening.on p q) earlier → IsOpening g old.best.network opening.best.network earlier other
  variant_opening p q earlier other first second at is =
      let like = IsLike-may_be (old_flags opening.leaf) op.leaf.packing op.as_if op.may_be in
      let value = like_value g op.leaf.decision op.leaf.packing op.as_if like in
      let below : leaf_value g op.leaf < length_of g old.best.network = op.below in
      record {
        place = opening.leaf;
        leaf = leaf_under op.leaf.decision op.as_if;
        on = opening.on;
        outside = p;
        inside = q;
        at = at;
        below = omega arith;
        splits = like_split g op.leaf.decision op.leaf.packing op.as_if like opening.on op.splits;
        tree_is = is;
        outside_begins = may_begin g op.as_if (outside_of op.leaf.decision opening.on) opening.outside p op.outside_begins first;
        inside_begins = may_begin g op.as_if (inside_of op.leaf.decision opening.on) opening.inside q op.inside_begins second;
        no_longer = opened_shorter;
      }

  opened_run : (other : Tree SplitOn) → IsVariant new_flags opened_tree other →
      EndsRunOfOpenings g old.first_length opening.best.network other
  opened_run other of_new =
      let made = variant_split opening.on opening.outside.packing opening.inside.packing old_flags new_flags opening.leaf
      (flags_same_before old.notes.items opening.leaf opening.outside.note opening.inside.note opened_within)
      (flags_same_behind old.notes.items opening.leaf opening.outside.note opening.inside.note opened_within)
      0 (nothing_decided g) old.tree other opening.leaf op.leaf (omega arith) op.at of_new in
      let was = made.before op.as_if op.may_be in
      let first = subst (λ (b : Bool). MayBe b opening.outside.packing made.outside)
      (flag_of_outside old.notes.items opening.leaf opening.outside.note opening.inside.note opened_within) made.outside_may_be in
      let second = subst (λ (b : Bool). MayBe b opening.inside.packing made.inside)
      (flag_of_inside old.notes.items opening.leaf opening.outside.note opening.inside.note opened_within) made.inside_may_be in
      let new_splits = variant_splits new_flags 0 opened_tree other of_new in
      let old_splits = variant_splits old_flags 0 old.tree was.earlier was.variant in
      let count : split_count other ≡ suc (split_count was.earlier) = omega (arith, opened_count) in
      let state = variant_state new_flags g opening.best.network opened_tree other of_new (grind (arith, state_of, opened_within, opened_valid, opened_notes)) in
      subst (λ (n : ℕ). EndsOpenings g old.first_length n opening.best.network other) (sym count) (
        state,
        count,
        (
          old.best.network,
          was.earlier,
          search.run was.earlier was.variant,
          variant_opening made.outside made.inside was.earlier other first second was.leaf_at was.is,
        ),
      )

-- what is kept once an opening is made
pub search_opened : (g : Graph) (old new : Frontier) (opening : Opening) → IsSearch g old → IsOpeningOf g old opening → IsOpened opening old new →
    IsSearch g new
search_opened g old new opening search op opened = grind (arith, opened_valid, opened_notes, opened_run, opened_less)

-- Where the leaf is the one that is open next, the split is on what the kind asks, and both new leaves begin with what is
-- carried to them, the step is a plain opening.
pub opens_to : (g : Graph) (old new : Frontier) (opening : Opening) → IsSearch g old → IsOpeningOf g old opening → IsPlain g old opening →
    IsOpenNext g old.best.network old.tree opening.leaf → IsOpened opening old new → OpensTo (search_state g old) (search_state g new)
opens_to g old new opening search op plain next opened =
    let tree : opened_tree g old opening search op ≡ new.tree = sym opened.tree in
    let best : opening.best ≡ new.best = sym opened.best in
    record {
      graph = refl;
      kind = opened.kind;
      first_length = opened.first_length;
      splits = ap split_count (sym tree) ∙ opened_count g old opening search op;
      opening = subst (λ (b : Best). IsPlainOpening old.kind g old.best.network b.network old.tree new.tree) best
          (subst (λ (t : Tree SplitOn). IsPlainOpening old.kind g old.best.network opening.best.network old.tree t) tree
          (opened_plain g old opening search op plain next));
    }

-- the step splits the leaf of the opening on its vertex
pub splits_to : (g : Graph) (old new : Frontier) (opening : Opening) (place v : ℕ) → IsSearch g old → IsOpeningOf g old opening →
    IsOpened opening old new → opening.leaf ≡ place → opening.on ≡ split.Vertex v →
    IsSplitAt place v (search_state g old) (search_state g new)
splits_to g old new opening place v search op opened leaf_is on_is =
    let best : opening.best ≡ new.best = sym opened.best in
    let tree : opened_tree g old opening search op ≡ new.tree = sym opened.tree in
    record {
      graph = refl;
      kind = opened.kind;
      first_length = opened.first_length;
      splits = ap split_count (sym tree) ∙ opened_count g old opening search op;
      outside = opening.outside.packing;
      inside = opening.inside.packing;
      tree = subst (λ (n : ℕ). new.tree ≡ replaced n (split_with (split.Vertex v) opening.outside.packing opening.inside.packing) old.tree) leaf_is
          (subst (λ (u : SplitOn). new.tree ≡ replaced opening.leaf (split_with u opening.outside.packing opening.inside.packing) old.tree) on_is opened.tree);
      network_is = subst (λ (b : Best). IsSameOrShorter g old.best.network b.network) best op.network_is;
      run = (search_opened g old new opening search op opened).run new.tree (variant_same (is_anew_at new.notes.items) 0 new.tree);
    }

-- a search that begins with one leaf
pub search_begun : (g : Graph) (kept : Frontier) (packing : List Cut) (note : LeafNote) → IsBest g kept.best →
    kept.best.length ≤ kept.first_length → kept.tree ≡ Leaf packing → kept.notes.items ≡ note ∷ [] →
    IsNoteOf g (leaf_under (nothing_decided g) packing) note → IsUpToOwn g kept.best.length note.network → IsSearch g kept
search_begun g kept packing note best no_longer tree notes of_note own =
    let valid : IsValidTree g (nothing_decided g) kept.tree =
    subst (λ (t : Tree SplitOn). IsValidTree g (nothing_decided g) t) (sym tree) of_note.feasible in
    let are : AreNotesOf g kept.best.length (leaves_of (nothing_decided g) kept.tree) kept.notes.items =
    subst (λ (t : Tree SplitOn). AreNotesOf g kept.best.length (leaves_of (nothing_decided g) t) kept.notes.items) (sym tree)
    (subst (λ (ns : List LeafNote). AreNotesOf g kept.best.length (leaf_under (nothing_decided g) packing ∷ []) ns) (sym notes)
    ((of_note, own), tt)) in
    let none : split_count kept.tree ≡ 0 = ap split_count tree in
    record {
      best = best;
      valid = valid;
      notes = are;
      run = λ other of_leaf.
          let splits = variant_splits (is_anew_at kept.notes.items) 0 kept.tree other of_leaf in
          let no_split : split_count other ≡ 0 = omega arith in
          let state = variant_state (is_anew_at kept.notes.items) g kept.best.network kept.tree other of_leaf
          (state_of g kept.best kept.tree kept.notes.items best valid are) in
          subst (λ (n : ℕ). EndsOpenings g kept.first_length n kept.best.network other) (sym no_split)
          (state, no_split, let same = best.length in omega arith);
      no_longer = no_longer;
    }
