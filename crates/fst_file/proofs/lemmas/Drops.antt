-- Drops as they are kept, one more at a time.
use Rattle.std.specs.Prelude.{ℕ, ◌≡◌, ◌<◌, ◌≤◌, ◌^◌, List, [], ◌∷◌, ◌++◌, length, map}
use Rattle.std.specs.Fmt.{decimal}
use Rattle.std.specs.List.{AllByRecursion}
use Rattle.std.proofs.Common.{arith, sym, ◌∙◌}
use Rattle.std.proofs.lemmas.List.{length_push, append_assoc, map-append}
use Rattle.fst_file.specs.Kept.{StandsFor, StandForDrops}

-- a fact of all of them and one more
pub all_push : (P : ℕ → Type 0) (xs : List ℕ) (x : ℕ) → AllByRecursion P xs → P x → AllByRecursion P (xs ++ x ∷ [])
all_push P [] x all here = (here, tt)
all_push P (y ∷ xs) x all here = (all.0, all_push P xs x all.1 here)

-- and its parts
all_parts : (P : ℕ → Type 0) (xs : List ℕ) (x : ℕ) → AllByRecursion P (xs ++ x ∷ []) → AllByRecursion P xs × P x
all_parts P [] x all = (tt, all.0)
all_parts P (y ∷ xs) x all = let parts = all_parts P xs x all.1 in ((all.0, parts.0), parts.1)

-- one more drop that is kept
pub kept_drop : (kept ds : List ℕ) (k' k : ℕ) → StandForDrops kept ds → StandsFor k' k → length kept < 8
    → StandForDrops (kept ++ k' ∷ []) (ds ++ k ∷ [])
kept_drop kept ds k' k stand same room =
    grind (arith, length_push kept k', stand.full room, length_push ds k, all_parts)

-- one more drop that is left out
pub more_drops : (kept ds : List ℕ) (k : ℕ) → StandForDrops kept ds → 8 ≤ length kept → StandForDrops kept (ds ++ k ∷ [])
more_drops kept ds k stand full = grind (arith, length_push ds k, stand.many full)

-- These words are left of the line, and these drops are kept of those that were read.
pub record DropsSoFar (all left : List (List ℕ)) (kept : List ℕ) : Type 0 where
  pub read : List ℕ
  pub fits : AllByRecursion (λ d. d < 2 ^ 32) read
  pub words : all ≡ map decimal read ++ left
  pub stand : StandForDrops kept read

-- one more word
words_push : (all left later : List (List ℕ)) (read : List ℕ) (k : ℕ) → all ≡ map decimal read ++ left → left ≡ decimal k ∷ later
    → all ≡ map decimal (read ++ k ∷ []) ++ later
words_push all left later read k words is =
    grind (arith, append_assoc (map decimal read) (decimal k ∷ []) later, map-append decimal read (k ∷ []))

-- after one more place that is kept
pub drop_read : (all left later : List (List ℕ)) (kept : List ℕ) (k' k : ℕ) → DropsSoFar all left kept → k < 2 ^ 32 → left ≡ decimal k ∷ later
    → StandsFor k' k → length kept < 8 → DropsSoFar all later (kept ++ k' ∷ [])
drop_read all left later kept k' k so_far fits is same room =
    grind (arith, all_push, words_push all left later so_far.read k so_far.words is, kept_drop kept so_far.read k' k so_far.stand same room)

-- after one that is left out
pub drop_passed : (all left later : List (List ℕ)) (kept : List ℕ) (k : ℕ) → DropsSoFar all left kept → k < 2 ^ 32 → left ≡ decimal k ∷ later
    → 8 ≤ length kept → DropsSoFar all later kept
drop_passed all left later kept k so_far fits is full =
    grind (arith, all_push, words_push all left later so_far.read k so_far.words is, more_drops kept so_far.read k so_far.stand full)

-- the front of some drops
front_of : (read ds : List ℕ) (left : List (List ℕ)) → AllByRecursion (λ d. d < 2 ^ 32) read → AllByRecursion (λ d. d < 2 ^ 32) ds
    → map decimal read ++ left ≡ map decimal ds
    → (more : List ℕ) × AllByRecursion (λ d. d < 2 ^ 32) more × (left ≡ map decimal more)
front_of [] ds left fr fd e = (ds, fd, e)
front_of (r ∷ read) [] left fr fd e = cc
front_of (r ∷ read) (d ∷ ds) left fr fd e =
    let others : map decimal read ++ left ≡ map decimal ds = cc in
    front_of read ds left fr.1 fd.1 others

-- a word that is no place ends no drops
pub no_drop : (all left : List (List ℕ)) (kept : List ℕ) → DropsSoFar all left kept → (left ≡ [] → ⊥)
    → ((k : ℕ) (rest : List (List ℕ)) → k < 2 ^ 32 → left ≡ decimal k ∷ rest → ⊥)
    → (ds : List ℕ) → AllByRecursion (λ d. d < 2 ^ 32) ds → all ≡ map decimal ds → ⊥
no_drop all left kept so_far some none ds fits is =
    let front = front_of so_far.read ds left so_far.fits fits (sym so_far.words ∙ is) in
    not_these left front.0 some none front.1 front.2
  where
    not_these : (left : List (List ℕ)) (more : List ℕ) → (left ≡ [] → ⊥)
        → ((k : ℕ) (rest : List (List ℕ)) → k < 2 ^ 32 → left ≡ decimal k ∷ rest → ⊥)
        → AllByRecursion (λ d. d < 2 ^ 32) more → left ≡ map decimal more → ⊥
    not_these left [] some none fits is = some is
    not_these left (m ∷ more) some none fits is = none m (map decimal more) fits.0 is
