-- Going over a list for the least value.
use Rattle.std.proofs.Common.{ℕ, ◌≡◌, ◌+◌, ◌<◌, ◌≤◌, List, length, take, get_or, slice_get, Option, Some, None, All, IfNone, IfSome, arith, refl, subst}
use Rattle.std.proofs.lemmas.List.{take_all}
use Rattle.std.proofs.lemmas.List.Elements.{All-more, All-weaker}
use Rattle.std.proofs.lemmas.Option.{slice_get_read}
use Rattle.branch.specs.declared.note.LeafNote.{LeafNote}
use Rattle.branch.specs.Notes.{IsNextNote}

-- What was found has the least value, which is below the limit, and those before it have greater ones; where nothing was
-- found the limit stands for it.
abbrev pub HasLeast : ℕ → List LeafNote → ℕ → Option ℕ → Type 0
HasLeast limit notes least None = least ≡ limit
HasLeast limit notes least (Some place) =
    (note : LeafNote) × (slice_get notes place ≡ Some note) × (note.value ≡ least) × (least < limit)
    × All (λ other. least < other.value) (take place notes)

-- the least value so far
pub record IsLeastSoFar (limit : ℕ) (notes : List LeafNote) (seen least : ℕ) (found : Option ℕ) : Type 0 where
  pub below : least ≤ limit
  pub each : All (λ note. least ≤ note.value) (take seen notes)
  pub has : HasLeast limit notes least found

-- a note with a lesser value
pub least_lower : (limit : ℕ) (notes : List LeafNote) (seen least : ℕ) (found : Option ℕ) (note : LeafNote) →
    IsLeastSoFar limit notes seen least found → seen < length notes → note ≡ get_or notes seen note → note.value < least →
    IsLeastSoFar limit notes (seen + 1) note.value (Some seen)
least_lower limit notes seen least found note so_far within is lower =
    let below : least ≤ limit = so_far.below in
    record {
      below = omega arith;
      each = All-more (λ (n : LeafNote). note.value ≤ n.value) notes seen note within
          (All-weaker (λ (n : LeafNote). least ≤ n.value) (λ (n : LeafNote). note.value ≤ n.value) (λ n h. omega arith) (take seen notes) so_far.each)
          (subst (λ (n : LeafNote). note.value ≤ n.value) is (omega arith));
      has = (
        note,
        slice_get_read notes (length notes) seen note refl within is,
        refl,
        omega arith,
        All-weaker (λ (n : LeafNote). least ≤ n.value) (λ (n : LeafNote). note.value < n.value) (λ n h. omega arith) (take seen notes) so_far.each,
      );
    }

-- a note with none
pub least_kept : (limit : ℕ) (notes : List LeafNote) (seen least : ℕ) (found : Option ℕ) (note : LeafNote) →
    IsLeastSoFar limit notes seen least found → seen < length notes → note ≡ get_or notes seen note → least ≤ note.value →
    IsLeastSoFar limit notes (seen + 1) least found
least_kept limit notes seen least found note so_far within is above = record {
  below = so_far.below;
  each = All-more (λ (n : LeafNote). least ≤ n.value) notes seen note within so_far.each (subst (λ (n : LeafNote). least ≤ n.value) is above);
  has = so_far.has;
}

-- at the end: nothing is below the limit
pub none_below : (limit : ℕ) (notes : List LeafNote) (seen least : ℕ) (found : Option ℕ) → length notes ≤ seen →
    IsLeastSoFar limit notes seen least found → IfNone found (All (λ note. limit ≤ note.value) notes)
none_below limit notes seen least None all so_far = grind (arith, take_all seen notes all)
none_below limit notes seen least (Some place) all so_far = tt

-- .. or what was found is, and nothing is below that
pub some_below : (limit : ℕ) (notes : List LeafNote) (seen least : ℕ) (found : Option ℕ) → length notes ≤ seen →
    IsLeastSoFar limit notes seen least found → IfSome found (IsNextNote limit notes)
some_below limit notes seen least None all so_far = tt
some_below limit notes seen least (Some place) all so_far = grind (arith, take_all seen notes all)
