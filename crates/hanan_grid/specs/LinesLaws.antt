-- Laws of the lines of a grid.
use Rattle.std.specs.Prelude.{ℕ, suc, ◌+◌, ◌≡◌, ◌≤◌, ◌<◌, true, false, ℤ, pos, ◌+ℤ◌, ◌<ℤ◌, ◌≤ℤ◌, List, [], ◌∷◌}
use Rattle.std.specs.Prelude.{length, Contains, int_lt, refl, ◌⊎◌}
use Rattle.std.specs.List.{AllByRecursion}
use Rattle.std.proofs.Common.{arith, ap, subst, inl, inr, ◌∙◌, sym, zero}
use Rattle.std.proofs.lemmas.Int.{ints, by_lt_z}
use Rattle.std.proofs.lemmas.List.Elements.{Contains-get_or}
use Rattle.hanan_grid.specs.ContainsLaws.{Contains-first, Contains-rest, Contains-cases, Contains-none}
use Rattle.hanan_grid.specs.Lines.{with_value, ascending, line_at, gap_after, place_of}

-- each line is below those after it
abbrev pub IsRising : List ℤ → Type 0
IsRising [] = Unit {0}
IsRising (z ∷ zs) = AllByRecursion (λ y. z <ℤ y) zs × IsRising zs

-- how two values stand to each other
data Order (z y : ℤ) : Type 0 where
  is_below : z <ℤ y → Order z y
  is_same : z ≡ y → Order z y
  is_above : y <ℤ z → Order z y

-- any two values stand in an order
order_of : (z y : ℤ) → Order z y
order_of z y = by_lt_z z y is_below (λ not_below. by_lt_z y z is_above (λ not_above. is_same (omega (arith, ints))))

-- the test of a lower value
int_lt-below : (z y : ℤ) → z <ℤ y → int_lt z y ≡ true
int_lt-below z y lower = grind (arith, ints)

-- the test of a value that is no lower
int_lt-not_below : (z y : ℤ) → y ≤ℤ z → int_lt z y ≡ false
int_lt-not_below z y higher = grind (arith, ints)

-- a value below the first line goes before it
with_value-below : (z y : ℤ) (ys : List ℤ) → z <ℤ y → with_value z (y ∷ ys) ≡ z ∷ y ∷ ys
with_value-below z y ys lower = rw (int_lt-below z y lower) refl

-- the value of the first line is there already
with_value-same : (z y : ℤ) (ys : List ℤ) → z ≡ y → with_value z (y ∷ ys) ≡ y ∷ ys
with_value-same z y ys same =
    rw (int_lt-not_below z y (omega (arith, ints)), int_lt-not_below y z (omega (arith, ints))) refl

-- a value above the first line goes behind it
with_value-above : (z y : ℤ) (ys : List ℤ) → y <ℤ z → with_value z (y ∷ ys) ≡ y ∷ with_value z ys
with_value-above z y ys higher = rw (int_lt-not_below z y (omega (arith, ints)), int_lt-below y z higher) refl

-- what is below the first of rising lines is below all of them
below_all : (x y : ℤ) (ys : List ℤ) → x <ℤ y → AllByRecursion (λ z. y <ℤ z) ys → AllByRecursion (λ z. x <ℤ z) ys
below_all x y [] first rest = tt
below_all x y (z ∷ zs) first rest = (omega (arith, ints, rest.0), below_all x y zs first rest.1)

-- what is below a value and all lines is below the lines with that value
below_with_value : (x z : ℤ) (ys : List ℤ) → x <ℤ z → AllByRecursion (λ y. x <ℤ y) ys
    → AllByRecursion (λ y. x <ℤ y) (with_value z ys)
below_with_value x z [] first rest = (first, tt)
below_with_value x z (y ∷ ys) first rest =
    grind (
      arith,
      order_of z y,
      with_value-below,
      with_value-same,
      with_value-above,
      below_with_value x z ys first rest.1,
    )

-- rising lines rise with one more value
IsRising-with_value : (z : ℤ) (ys : List ℤ) → IsRising ys → IsRising (with_value z ys)
IsRising-with_value z [] rising = (tt, tt)
IsRising-with_value z (y ∷ ys) rising =
    grind (
      arith,
      order_of z y,
      with_value-below,
      below_all,
      with_value-same,
      with_value-above,
      below_with_value,
      IsRising-with_value z ys rising.1,
    )

-- ascending values rise
pub IsRising-ascending : (zs : List ℤ) → IsRising (ascending zs)
IsRising-ascending [] = tt
IsRising-ascending (z ∷ zs) = IsRising-with_value z (ascending zs) (IsRising-ascending zs)

-- ---- members

-- a member of a list that is above a value, which all are
member_above : (x z : ℤ) (ys : List ℤ) → AllByRecursion (λ y. x <ℤ y) ys → Contains ys z → x <ℤ z
member_above x z [] above member = Contains-none z member
member_above x z (y ∷ ys) above member = elim (Contains-cases y z ys member) [
  | inl is ↦ subst (λ w. x <ℤ w) is above.0
  | inr later ↦ member_above x z ys above.1 later
]

-- a value is among the lines with it
Contains-with_value : (z : ℤ) (ys : List ℤ) → Contains (with_value z ys) z
Contains-with_value z [] = Contains-first z []
Contains-with_value z (y ∷ ys) =
    grind (
      arith,
      order_of z y,
      with_value-below,
      Contains-first z (y ∷ ys),
      with_value-same,
      Contains-first y ys,
      with_value-above,
      Contains-rest y z (with_value z ys) (Contains-with_value z ys),
    )

-- what was a line is one
Contains-with_value_more : (z x : ℤ) (ys : List ℤ) → Contains ys x → Contains (with_value z ys) x
Contains-with_value_more z x [] member = Contains-none x member
Contains-with_value_more z x (y ∷ ys) member = elim (order_of z y) [
  | is_below b ↦ rw (with_value-below z y ys b) (Contains-rest z x (y ∷ ys) member)
  | is_same s ↦ rw (with_value-same z y ys s) member
  | is_above a ↦ rw (with_value-above z y ys a) (elim (Contains-cases y x ys member) [
    | inl is ↦ subst (λ w. Contains (y ∷ with_value z ys) w) is (Contains-first y (with_value z ys))
    | inr later ↦ Contains-rest y x (with_value z ys) (Contains-with_value_more z x ys later)
  ])
]

-- a line is the value or was one
with_value-cases : (z x : ℤ) (ys : List ℤ) → Contains (with_value z ys) x → (z ≡ x) ⊎ Contains ys x
with_value-cases z x [] member = Contains-cases z x [] member
with_value-cases z x (y ∷ ys) member = elim (order_of z y) [
  | is_below b ↦ Contains-cases z x (y ∷ ys) (subst (λ ws. Contains ws x) (with_value-below z y ys b) member)
  | is_same s ↦ inr (subst (λ ws. Contains ws x) (with_value-same z y ys s) member)
  | is_above a ↦
      elim (Contains-cases y x (with_value z ys) (subst (λ ws. Contains ws x) (with_value-above z y ys a) member)) [
        | inl is ↦ inr (subst (λ w. Contains (y ∷ ys) w) is (Contains-first y ys))
        | inr later ↦ elim (with_value-cases z x ys later) [
          | inl is ↦ inl is
          | inr old ↦ inr (Contains-rest y x ys old)
        ]
      ]
]

-- each value of a list is one of its ascending values
pub Contains-ascending : (zs : List ℤ) (x : ℤ) → Contains zs x → Contains (ascending zs) x
Contains-ascending [] x member = member
Contains-ascending (z ∷ zs) x member = elim (Contains-cases z x zs member) [
  | inl is ↦ subst (λ w. Contains (with_value z (ascending zs)) w) is (Contains-with_value z (ascending zs))
  | inr later ↦ Contains-with_value_more z x (ascending zs) (Contains-ascending zs x later)
]

-- each ascending value of a list is one of its values
pub Contains-from_ascending : (zs : List ℤ) (x : ℤ) → Contains (ascending zs) x → Contains zs x
Contains-from_ascending [] x member = member
Contains-from_ascending (z ∷ zs) x member = elim (with_value-cases z x (ascending zs) member) [
  | inl is ↦ subst (λ w. Contains (z ∷ zs) w) is (Contains-first z zs)
  | inr later ↦ Contains-rest z x zs (Contains-from_ascending zs x later)
]

-- the first lines of two rising lists with the same members are one
same_first : (x y : ℤ) (xs ys : List ℤ) → IsRising (x ∷ xs) → IsRising (y ∷ ys) → Contains (y ∷ ys) x
    → Contains (x ∷ xs) y → x ≡ y
same_first x y xs ys rises rises' x_in y_in = elim (Contains-cases y x ys x_in) [
  | inl is ↦ sym is
  | inr later ↦ elim (Contains-cases x y xs y_in) [
    | inl is ↦ is
    | inr later' ↦ absurd (omega (arith, ints, member_above y x ys rises'.0 later, member_above x y xs rises.0 later'))
  ]
]

-- a member of the rest of rising lines is a member of the rest of others that have the same first line
same_rest : (x y z : ℤ) (xs ys : List ℤ) → x ≡ y → IsRising (x ∷ xs)
    → ((w : ℤ) → Contains (x ∷ xs) w → Contains (y ∷ ys) w) → Contains xs z → Contains ys z
same_rest x y z xs ys same rises into member =
    grind (
      arith,
      Contains-cases y z ys (into z (Contains-rest x z xs member)),
      ints,
      member_above x z xs rises.0 member,
    )

-- two rising lists with the same members are one
pub same_from_members : (xs ys : List ℤ) → IsRising xs → IsRising ys → ((z : ℤ) → Contains xs z → Contains ys z)
    → ((z : ℤ) → Contains ys z → Contains xs z) → xs ≡ ys
same_from_members [] [] rises rises' into back = refl
same_from_members [] (y ∷ ys) rises rises' into back = Contains-none y (back y (Contains-first y ys))
same_from_members (x ∷ xs) [] rises rises' into back = Contains-none x (into x (Contains-first x xs))
same_from_members (x ∷ xs) (y ∷ ys) rises rises' into back =
    let first = same_first x y xs ys rises rises' (into x (Contains-first x xs)) (back y (Contains-first y ys)) in
    let rest = same_from_members xs ys rises.1 rises'.1 (λ z. same_rest x y z xs ys first rises into)
    (λ z. same_rest y x z ys xs (sym first) rises' back) in
    cc

-- ---- places

-- the place of a member is a place
pub place_of-below : (z : ℤ) (lines : List ℤ) → Contains lines z → IsRising lines → place_of z lines < length lines
place_of-below z [] member rises = Contains-none z member
place_of-below z (y ∷ ys) member rises = elim (order_of z y) [
  | is_below b ↦ rw (int_lt-not_below y z (omega (arith, ints))) (omega arith)
  | is_same s ↦ rw (int_lt-not_below y z (omega (arith, ints))) (omega arith)
  | is_above a ↦ rw (int_lt-below y z a) (elim (Contains-cases y z ys member) [
    | inl is ↦ absurd (omega (arith, ints))
    | inr later ↦ omega (arith, place_of-below z ys later rises.1)
  ])
]

-- at the place of a member stands that member
pub line_at-place_of : (z : ℤ) (lines : List ℤ) → Contains lines z → IsRising lines
    → line_at lines (place_of z lines) ≡ z
line_at-place_of z [] member rises = Contains-none z member
line_at-place_of z (y ∷ ys) member rises = elim (order_of z y) [
  | is_below b ↦ elim (Contains-cases y z ys member) [
    | inl is ↦ absurd (omega (arith, ints))
    | inr later ↦ absurd (omega (arith, ints, member_above y z ys rises.0 later))
  ]
  | is_same s ↦ rw (int_lt-not_below y z (omega (arith, ints))) (sym s)
  | is_above a ↦ rw (int_lt-below y z a) (elim (Contains-cases y z ys member) [
    | inl is ↦ absurd (omega (arith, ints))
    | inr later ↦ line_at-place_of z ys later rises.1
  ])
]

-- what stands at a place is a member
pub Contains-line_at : (lines : List ℤ) (i : ℕ) → i < length lines → Contains lines (line_at lines i)
Contains-line_at lines i inside = Contains-get_or lines i (pos 0) inside

-- the place of what stands at a place is that place
pub place_of-line_at : (lines : List ℤ) (i : ℕ) → i < length lines → IsRising lines
    → place_of (line_at lines i) lines ≡ i
place_of-line_at [] i inside rises = absurd (omega arith)
place_of-line_at (y ∷ ys) zero inside rises = rw (int_lt-not_below y y (omega (arith, ints))) refl
place_of-line_at (y ∷ ys) (suc i) inside rises =
    let higher = member_above y (line_at ys i) ys rises.0 (Contains-line_at ys i (omega arith)) in
    rw (int_lt-below y (line_at ys i) higher) (ap suc (place_of-line_at ys i (omega arith) rises.1))

-- an earlier line is below a later one
pub line_at-rises : (lines : List ℤ) (i j : ℕ) → i < j → j < length lines → IsRising lines
    → line_at lines i <ℤ line_at lines j
line_at-rises [] i j earlier inside rises = absurd (omega arith)
line_at-rises (y ∷ ys) i zero earlier inside rises = absurd (omega arith)
line_at-rises (y ∷ ys) zero (suc j) earlier inside rises =
    member_above y (line_at ys j) ys rises.0 (Contains-line_at ys j (omega arith))
line_at-rises (y ∷ ys) (suc i) (suc j) earlier inside rises = line_at-rises ys i j (omega arith) (omega arith) rises.1

-- two lines are one only at one place
pub same_place : (lines : List ℤ) (i j : ℕ) → i < length lines → j < length lines → IsRising lines
    → line_at lines i ≡ line_at lines j → i ≡ j
same_place lines i j inside inside' rises same = sym (place_of-line_at lines i inside rises)
    ∙ (ap (λ z. place_of z lines) same ∙ place_of-line_at lines j inside' rises)

-- ---- gaps

-- a line and the gap after it make the next line
pub gap_after-is : (lines : List ℤ) (i : ℕ) → i + 1 < length lines → IsRising lines
    → line_at lines i +ℤ pos (gap_after lines i) ≡ line_at lines (i + 1)
gap_after-is lines i inside rises =
    let rise = line_at-rises lines i (i + 1) (omega arith) inside rises in omega (arith, ints)

-- a gap is positive
pub gap_after-positive : (lines : List ℤ) (i : ℕ) → i + 1 < length lines → IsRising lines → 0 < gap_after lines i
gap_after-positive lines i inside rises =
    let rise = line_at-rises lines i (i + 1) (omega arith) inside rises in omega (arith, ints)

-- ---- lengths

-- one value more makes at most one line more
length-with_value-le : (z : ℤ) (ys : List ℤ) → length (with_value z ys) ≤ length ys + 1
length-with_value-le z [] = omega arith
length-with_value-le z (y ∷ ys) =
    grind (arith, order_of z y, with_value-below, with_value-same, with_value-above, length-with_value-le z ys)

-- there are at most as many lines as values
pub length-ascending-le : (zs : List ℤ) → length (ascending zs) ≤ length zs
length-ascending-le [] = omega arith
length-ascending-le (z ∷ zs) = omega (arith, length-with_value-le z (ascending zs), length-ascending-le zs)

-- where there is a value there is a line
pub length-ascending-positive : (zs : List ℤ) → 0 < length zs → 0 < length (ascending zs)
length-ascending-positive [] some = some
length-ascending-positive (z ∷ zs) some = let member = Contains-with_value z (ascending zs) in omega arith
