-- The words of a code: what they determine, and what is kept of them.
use Rattle.std.specs.Prelude.{ℕ, ◌≡◌, ◌<◌, ◌≤◌, ◌^◌, List, [], ◌∷◌, ◌++◌, length, map, codes, All, Option, None, Some, IfSome, option_to_list}
use Rattle.std.specs.Fmt.{decimal}
use Rattle.std.specs.List.{AllByRecursion}
use Rattle.std.proofs.Common.{arith, refl, sym, ap, inl, inr, get_or}
use Rattle.std.proofs.lemmas.List.{length-append}
use Rattle.std.proofs.lemmas.List.Elements.{All-head, All-tail}
use Rattle.points_in.specs.declared.point.Point.{Point}
use Rattle.full_tree.specs.declared.way.Way.{Way}
use Rattle.full_tree.specs.declared.code.TreeCode.{TreeCode}
use Rattle.full_tree.specs.declared.code.TreeCode.TheVariants.{Long, Cross}
use Rattle.full_tree.specs.Form.{IsInForm}
use Rattle.fst_file.specs.Words.{way_word, side_word, code_words, FitsCode}
use Rattle.fst_file.specs.Kept.{StandsFor, StandsForSide, StandForDrops, StandsForCode}

-- the two kinds have different words
kinds_differ : codes "long" ≡ codes "cross" → ⊥
kinds_differ e = omega (arith, ap (λ l. get_or l 0 0) e)

-- what the words of a long code tell
pub record LongWords (words : List (List ℕ)) : Type 0 where
  pub root : ℕ
  pub toward : Way
  pub drops : List ℕ
  pub side : Option ℕ
  pub tip : ℕ
  pub fits : FitsCode (Long root toward drops side tip)
  pub words_are : words ≡ decimal root ∷ way_word toward ∷ decimal tip ∷ side_word side ∷ map decimal drops

pub long_words : (code : TreeCode) (words : List (List ℕ)) → FitsCode code → codes "long" ∷ words ≡ code_words code → LongWords words
long_words (Long root toward drops side tip) words fits e =
    record { root = root; toward = toward; drops = drops; side = side; tip = tip; fits = fits; words_are = cc }
long_words (Cross w s e n) words fits is = absurd (let same : codes "long" ≡ codes "cross" = cc in kinds_differ same)

-- and those of a cross
pub record CrossWords (words : List (List ℕ)) : Type 0 where
  pub west : ℕ
  pub south : ℕ
  pub east : ℕ
  pub north : ℕ
  pub fits : FitsCode (Cross west south east north)
  pub words_are : words ≡ decimal west ∷ decimal south ∷ decimal east ∷ decimal north ∷ []

pub cross_words : (code : TreeCode) (words : List (List ℕ)) → FitsCode code → codes "cross" ∷ words ≡ code_words code → CrossWords words
cross_words (Cross w s e n) words fits is =
    record { west = w; south = s; east = e; north = n; fits = fits; words_are = cc }
cross_words (Long root toward drops side tip) words fits is = absurd (let same : codes "cross" ≡ codes "long" = cc in kinds_differ (sym same))

-- no place stands where the words go on
abbrev pub HasNoPlace : List (List ℕ) → Type 0
HasNoPlace words = (k : ℕ) (rest : List (List ℕ)) → k < 2 ^ 32 → words ≡ decimal k ∷ rest → ⊥

pub no_tip : (words w1 w2 : List (List ℕ)) (root : List ℕ) (toward : List ℕ) → words ≡ root ∷ w1 → w1 ≡ toward ∷ w2 → HasNoPlace w2
    → (code : TreeCode) → FitsCode code → codes "long" ∷ words ≡ code_words code → ⊥
no_tip words w1 w2 root toward e1 e2 none code fits is = grind (arith, long_words code words fits is)

pub no_south : (words w1 : List (List ℕ)) (a : List ℕ) → words ≡ a ∷ w1 → HasNoPlace w1
    → (code : TreeCode) → FitsCode code → codes "cross" ∷ words ≡ code_words code → ⊥
no_south words w1 a e1 none code fits is = grind (arith, cross_words code words fits is)

pub no_east : (words w1 w2 : List (List ℕ)) (a b : List ℕ) → words ≡ a ∷ w1 → w1 ≡ b ∷ w2 → HasNoPlace w2
    → (code : TreeCode) → FitsCode code → codes "cross" ∷ words ≡ code_words code → ⊥
no_east words w1 w2 a b e1 e2 none code fits is = grind (arith, cross_words code words fits is)

pub no_north : (words w1 w2 w3 : List (List ℕ)) (a b d : List ℕ) → words ≡ a ∷ w1 → w1 ≡ b ∷ w2 → w2 ≡ d ∷ w3 → HasNoPlace w3
    → (code : TreeCode) → FitsCode code → codes "cross" ∷ words ≡ code_words code → ⊥
no_north words w1 w2 w3 a b d e1 e2 e3 none code fits is =
    grind (arith, cross_words code words fits is, none (cross_words code words fits is).north)

-- places of at most 50 points are below 50
below : (n : ℕ) (xs : List ℕ) → n ≤ 50 → All (λ k. k < n) xs → AllByRecursion (λ k. k < 50) xs
below n [] few all = tt
below n (x ∷ xs) few all =
    let here = All-head (λ k. k < n) x xs all in
    (omega arith, below n xs few (All-tail (λ k. k < n) x xs all))

-- the parts of a fact of each place
appended : (P : ℕ → Type 0) (xs ys : List ℕ) → AllByRecursion P (xs ++ ys) → AllByRecursion P xs × AllByRecursion P ys
appended P [] ys all = (tt, all)
appended P (x ∷ xs) ys all = let parts = appended P xs ys all.1 in ((all.0, parts.0), parts.1)

-- what a long code in form tells of its places
record LongPlaces (root : ℕ) (drops : List ℕ) (side : Option ℕ) (tip : ℕ) : Type 0 where
  root_below : root < 50
  drops_below : AllByRecursion (λ k. k < 50) drops
  side_below : AllByRecursion (λ k. k < 50) (option_to_list side)
  tip_below : tip < 50
  few : length drops < 8

long_places : (ps : List Point) (root : ℕ) (toward : Way) (drops : List ℕ) (side : Option ℕ) (tip : ℕ) → length ps ≤ 50
    → IsInForm ps (Long root toward drops side tip) → LongPlaces root drops side tip
long_places ps root toward drops side tip fifty form =
    let all = below (length ps) (root ∷ drops ++ option_to_list side ++ tip ∷ []) fifty form.terminals in
    let last = appended (λ k. k < 50) (drops ++ option_to_list side) (tip ∷ []) all.1 in
    let others = appended (λ k. k < 50) drops (option_to_list side) last.0 in
    let eight = form.members.few in
    record {
      root_below = all.0;
      drops_below = others.0;
      side_below = others.1;
      tip_below = last.1.0;
      few = omega (arith, eight, length-append (drops ++ option_to_list side) (tip ∷ []), length-append drops (option_to_list side));
    }

-- a side that is a place of 50 points is kept
side_spelled : (kept side : Option ℕ) → StandsForSide kept side → AllByRecursion (λ k. k < 50) (option_to_list side) → kept ≡ side
side_spelled None None stands low = refl
side_spelled None (Some k) stands low = absurd stands
side_spelled (Some k') None stands low = absurd stands
side_spelled (Some k') (Some k) stands low = ap Some (stands (inl low.0))

side_held : (kept side : Option ℕ) → StandsForSide kept side → AllByRecursion (λ k. k < 50) (option_to_list kept) → kept ≡ side
side_held None None stands low = refl
side_held None (Some k) stands low = absurd stands
side_held (Some k') None stands low = absurd stands
side_held (Some k') (Some k) stands low = ap Some (stands (inr low.0))

-- what is kept of a long code
pub long_stands : (root' root : ℕ) (toward : Way) (drops' drops : List ℕ) (side' side : Option ℕ) (tip' tip : ℕ)
    → StandsFor root' root → StandForDrops drops' drops → StandsForSide side' side → StandsFor tip' tip
    → StandsForCode (Long root' toward drops' side' tip') (Long root toward drops side tip)
long_stands root' root toward drops' drops side' side tip' tip r d q t ps fifty (inl form) =
    let told = long_places ps root toward drops side tip fifty form in
    cc (r (inl told.root_below), d.spelled told.few told.drops_below, side_spelled side' side q told.side_below, t (inl told.tip_below))
long_stands root' root toward drops' drops side' side tip' tip r d q t ps fifty (inr form) =
    let told = long_places ps root' toward drops' side' tip' fifty form in
    cc (r (inr told.root_below), d.held told.few told.drops_below, side_held side' side q told.side_below, t (inr told.tip_below))

-- and of a cross
pub cross_stands : (w' w s' s e' e n' n : ℕ) → StandsFor w' w → StandsFor s' s → StandsFor e' e → StandsFor n' n
    → StandsForCode (Cross w' s' e' n') (Cross w s e n)
cross_stands w' w s' s e' e n' n a b d f ps fifty (inl form) =
    let all = below (length ps) (w ∷ s ∷ e ∷ n ∷ []) fifty form.terminals in
    cc (a (inl all.0), b (inl all.1.0), d (inl all.1.1.0), f (inl all.1.1.1.0))
cross_stands w' w s' s e' e n' n a b d f ps fifty (inr form) =
    let all = below (length ps) (w' ∷ s' ∷ e' ∷ n' ∷ []) fifty form.terminals in
    cc (a (inr all.0), b (inr all.1.0), d (inr all.1.1.0), f (inr all.1.1.1.0))

-- a fact of each from a stronger one
weaker : (xs : List ℕ) → AllByRecursion (λ k. k < 50) xs → AllByRecursion (λ k. k < 2 ^ 32) xs
weaker [] all = tt
weaker (x ∷ xs) all = (let here = all.0 in omega arith, weaker xs all.1)

side_fits : (side : Option ℕ) → AllByRecursion (λ k. k < 50) (option_to_list side) → IfSome side (λ q. q < 2 ^ 32)
side_fits None all = tt
side_fits (Some q) all = let here = all.0 in omega arith

-- the places of a code in form have 32 bits
pub fits_form : (ps : List Point) (code : TreeCode) → length ps ≤ 50 → IsInForm ps code → FitsCode code
fits_form ps (Long root toward drops side tip) fifty form =
    grind (arith, long_places ps root toward drops side tip fifty form, side_fits side (long_places ps root toward drops side tip fifty form).side_below, weaker drops (long_places ps root toward drops side tip fifty form).drops_below)
fits_form ps (Cross w s e n) fifty form =
    grind (arith, weaker (w ∷ s ∷ e ∷ n ∷ []) (below (length ps) (w ∷ s ∷ e ∷ n ∷ []) fifty form.terminals), below (length ps) (w ∷ s ∷ e ∷ n ∷ []) fifty form.terminals)
