-- What orderings tell of signed numbers and of points, and the tests of a form.
use Rattle.std.proofs.Common.{ℕ, ◌+◌, ◌≡◌, ◌≢◌, ◌<◌, ℤ, pos, ◌<ℤ◌, List, [], ◌∷◌, ◌++◌, length, get_or, drop, map, ◌⊎◌, inl, inr, ◌↔◌, arith, drop-cons, add-one, Less, Equal, Greater, Some, None, IfSome}
use Rattle.std.specs.Prelude.{All}
use Rattle.std.specs.List.{last_or}
use Rattle.std.specs.declared.cmp.Ordering.{Ordering}
use Rattle.std.specs.Ordering.{int_cmp}
use Rattle.std.proofs.lemmas.Int.{ints}
use Rattle.std.proofs.lemmas.List.Elements.{All-cons, All-head, All-tail}
use Rattle.full_tree.specs.Geometry.{RisesFrom, AreOpposite, AlternatesAfter, Alternates, IsBetweenZeroAnd}

-- how two numbers stand to each other, with what their comparison answers
pub data Stand (z y : ℤ) : Type 0 where
  is_lower : z <ℤ y → int_cmp z y ≡ Less → Stand z y
  is_same : z ≡ y → int_cmp z y ≡ Equal → Stand z y
  is_higher : y <ℤ z → int_cmp z y ≡ Greater → Stand z y

pub stand : (z y : ℤ) → Stand z y
stand z y = grind arith

-- ---- rising

-- a value that doesn't rise
pub rises_not : {P : Type 0} (A : ℕ → ℤ) (z : ℤ) (ds ts : List ℕ) (i : ℕ) → i < length ds → (P ↔ RisesFrom z (map A (drop i ds ++ ts))) → ¬ (z <ℤ A (get_or ds i 0)) → ¬ P
rises_not {P} A z ds ts i inside whole lower p = grind (arith, add-one, drop-cons ds i 0)

-- ---- turns

-- a number whose comparison with 0 doesn't answer equal isn't 0
off_from_turns : (c : ℤ) → int_cmp c (pos 0) ≢ Equal → c ≢ pos 0
off_from_turns c turns same = grind arith

turns_from_off : (c : ℤ) → c ≢ pos 0 → int_cmp c (pos 0) ≢ Equal
turns_from_off c off tied = grind arith

-- opposite numbers compare with 0 in two ways
apart_from_opposite : (c d : ℤ) → AreOpposite c d → int_cmp c (pos 0) ≢ int_cmp d (pos 0)
apart_from_opposite c d (inl (h, h')) same = grind arith
apart_from_opposite c d (inr (h, h')) same = grind arith

-- What the test of the drops asks, one drop after another: o is the side of the drop before, and equal
-- where there is none.
abbrev pub TurnsFrom : (ℕ → ℤ) → Ordering → List ℕ → ℕ → Type 0
TurnsFrom C o [] t = (int_cmp (C t) (pos 0) ≡ Equal) ⊎ (int_cmp (C t) (pos 0) ≢ o)
TurnsFrom C o (d ∷ ds) t =
    (int_cmp (C d) (pos 0) ≢ Equal) × (int_cmp (C d) (pos 0) ≢ o) × TurnsFrom C (int_cmp (C d) (pos 0)) ds t

-- the same as facts, behind the drop e
record SidesAfter (C : ℕ → ℤ) (e : ℕ) (ds : List ℕ) (t : ℕ) : Type 0 where
  off : All (λ d. C d ≢ pos 0) ds
  in_turn : AlternatesAfter (C e) (map C ds)
  last : C t ≢ pos 0 → IfSome (last_or (Some e) ds) (λ d. AreOpposite (C t) (C d))

sides_from_turns : (C : ℕ → ℤ) (e : ℕ) (ds : List ℕ) (t : ℕ) → C e ≢ pos 0 → TurnsFrom C (int_cmp (C e) (pos 0)) ds t → SidesAfter C e ds t
sides_from_turns C e [] t off turns = grind arith
sides_from_turns C e (d ∷ ds) t off turns =
    let off' = off_from_turns (C d) turns.0 in
    let rest = sides_from_turns C d ds t off' turns.2 in
    record {
      off = All-cons (λ d. C d ≢ pos 0) d ds off' rest.off;
      in_turn = ((grind arith), rest.in_turn);
      last = rest.last;
    }

turns_from_sides : (C : ℕ → ℤ) (e : ℕ) (ds : List ℕ) (t : ℕ) → SidesAfter C e ds t → TurnsFrom C (int_cmp (C e) (pos 0)) ds t
turns_from_sides C e [] t sides = elim (stand (C t) (pos 0)) [
  | is_lower h is ↦ inr (apart_from_opposite (C t) (C e) (sides.last (λ same. omega (arith, ints))))
  | is_same h is ↦ inl is
  | is_higher h is ↦ inr (apart_from_opposite (C t) (C e) (sides.last (λ same. omega (arith, ints))))
]
turns_from_sides C e (d ∷ ds) t sides = (
  turns_from_off (C d) (All-head (λ d. C d ≢ pos 0) d ds sides.off),
  apart_from_opposite (C d) (C e) (grind arith),
  turns_from_sides C d ds t (record {
    off = All-tail (λ d. C d ≢ pos 0) d ds sides.off;
    in_turn = sides.in_turn.1;
    last = sides.last;
  }),
)

-- the facts of the definition, where no drop comes before
abbrev pub SidesOf : (ℕ → ℤ) → List ℕ → ℕ → Type 0
SidesOf C ds t = All (λ d. C d ≢ pos 0) ds × Alternates (map C ds) × (C t ≢ pos 0 → IfSome (last_or None ds) (λ d. AreOpposite (C t) (C d)))

pub sides_iff_turns : (C : ℕ → ℤ) (ds : List ℕ) (t : ℕ) → SidesOf C ds t ↔ TurnsFrom C Equal ds t
sides_iff_turns C [] t = grind arith
sides_iff_turns C (d ∷ ds) t = (
  λ sides.
      let off = turns_from_off (C d) (All-head (λ d. C d ≢ pos 0) d ds sides.0) in (
        off,
        off,
        turns_from_sides C d ds t (record {
          off = All-tail (λ d. C d ≢ pos 0) d ds sides.0;
          in_turn = sides.1;
          last = sides.2;
        }),
      ),
  λ turns.
      let off = off_from_turns (C d) turns.0 in
      let rest = sides_from_turns C d ds t off turns.2 in
      (All-cons (λ d. C d ≢ pos 0) d ds off rest.off, rest.in_turn, rest.last),
)

-- one more drop that turns
pub turns_more : {P : Type 0} (C : ℕ → ℤ) (o o' : Ordering) (ds : List ℕ) (t i : ℕ) → i < length ds → (P ↔ TurnsFrom C o (drop i ds) t) → o' ≡ int_cmp (C (get_or ds i 0)) (pos 0) → o' ≢ Equal → o' ≢ o → P ↔ TurnsFrom C o' (drop (i + 1) ds) t
turns_more {P} C o o' ds t i inside whole is off apart = grind (arith, add-one, drop-cons ds i 0)

-- a drop that doesn't turn
pub turns_not : {P : Type 0} (C : ℕ → ℤ) (o o' : Ordering) (ds : List ℕ) (t i : ℕ) → i < length ds → (P ↔ TurnsFrom C o (drop i ds) t) → o' ≡ int_cmp (C (get_or ds i 0)) (pos 0) → (o' ≡ Equal) ⊎ (o' ≡ o) → ¬ P
turns_not {P} C o o' ds t i inside whole is stays p = grind (arith, add-one, drop-cons ds i 0)

-- ---- the side

pub turns_from_between : (d c : ℤ) → IsBetweenZeroAnd d c → (int_cmp c (pos 0) ≢ Equal) × (int_cmp d c ≡ int_cmp c (pos 0))
turns_from_between d c h = grind arith
