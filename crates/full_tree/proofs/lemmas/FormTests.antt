-- What the tests of a form tell.
use Rattle.std.proofs.Common.{ℕ, suc, ◌+◌, ◌≡◌, ◌≢◌, ◌<◌, ◌≤◌, ℤ, pos, ◌<ℤ◌, List, [], ◌∷◌, ◌++◌, length, get_or, take, drop, map, sym, ◌∙◌, ap, ◌⊎◌, inl, inr, ◌↔◌, arith, Bool, true, false, not, IsTrue, Equal}
use Rattle.std.specs.Prelude.{All, AllPairs, Contains, ◌==◌, Option, None, Some, option_to_list, IfSome}
use Rattle.std.specs.Bool.{Decides}
use Rattle.std.specs.declared.cmp.Ordering.{Ordering}
use Rattle.std.specs.Ordering.{int_cmp, is_lt, is_eq, is_ne, is_ge, ordering_index}
use Rattle.std.proofs.lemmas.Bool.{true≢false, false≢true, cases_lt}
use Rattle.std.proofs.lemmas.List.{get_or-take, length-take, drop_all, get_or_default}
use Rattle.std.proofs.lemmas.List.Elements.{All-contains, Contains-get_or, Contains-append_left, Contains-push}
use Rattle.full_tree.specs.GeometryLaws.{across-itself}
use Rattle.points_in.specs.declared.point.Point.{Point}
use Rattle.full_tree.specs.declared.way.Way.{Way}
use Rattle.full_tree.specs.Geometry.{across, RisesFrom}
use Rattle.full_tree.specs.declared.code.TreeCode.TheVariants.{Long}
use Rattle.full_tree.specs.Code.{named_places}
use Rattle.full_tree.specs.Form.{along_of, across_of, LieInTurn, IsOnShortLeg}
use Rattle.full_tree.proofs.lemmas.Signs.{TurnsFrom, sides_iff_turns, turns_from_between}

-- a test that answers no decides what doesn't hold
pub no : {P : Type 0} → ¬ P → IsTrue false ↔ P
no {P} never = (λ h. absurd (false≢true h), λ p. absurd (never p))

-- ---- orderings

-- the test of equal answers
pub orderings_decide : (o p : Ordering) → Decides (ordering_index o == ordering_index p) (o ≡ p)
orderings_decide o p = grind arith

-- an answer of greater or equal means that it isn't lower
pub not_lower : (z y : ℤ) (o : Ordering) → o ≡ int_cmp z y → is_ge o ≡ true → ¬ (z <ℤ y)
not_lower z y o is ge lower = grind arith

pub lower_decides : (z y : ℤ) (b : Bool) (o : Ordering) → o ≡ int_cmp z y → b ≡ is_lt o → IsTrue b ↔ (z <ℤ y)
lower_decides z y b o is test = grind arith

-- ---- the ends of the loops

pub rises_end : {P : Type 0} (A : ℕ → ℤ) (z : ℤ) (ds : List ℕ) (t i : ℕ) (b : Bool) → length ds ≤ i → (P ↔ RisesFrom z (map A (drop i ds ++ t ∷ []))) → IsTrue b ↔ (z <ℤ A t) → IsTrue b ↔ P
rises_end {P} A z ds t i b done whole decides = grind (arith, drop_all)

pub turns_end : {P : Type 0} (C : ℕ → ℤ) (o : Ordering) (ds : List ℕ) (t i : ℕ) (b : Bool) → length ds ≤ i → (P ↔ TurnsFrom C o (drop i ds) t) → IsTrue b ↔ ((int_cmp (C t) (pos 0) ≡ Equal) ⊎ (int_cmp (C t) (pos 0) ≢ o)) → IsTrue b ↔ P
turns_end {P} C o ds t i b done whole decides = grind (arith, drop_all)

-- ---- sides

-- the definition against the test, before the first drop
pub in_turn_iff_turns : (ps : List Point) (root : ℕ) (toward : Way) (drops : List ℕ) (tip : ℕ) → LieInTurn ps root toward drops tip ↔ TurnsFrom (across_of ps root toward) Equal drops tip
in_turn_iff_turns ps root toward drops tip = grind (arith, sides_iff_turns (across_of ps root toward) drops tip)

-- ---- distinct places

-- a place that isn't among those before it
pub distinct_more : (ps : List ℕ) (n : ℕ) → n < length ps → AllPairs (λ p q. p ≢ q) (take n ps) → ¬ Contains (take n ps) (get_or ps n 0) → AllPairs (λ p q. p ≢ q) (take (n + 1) ps)
distinct_more ps n inside distinct new i j d before within =
    let count : length (take n ps) ≡ n = omega (arith, length-take n ps) in
    let low : i < n + 1 = omega (arith, length-take (n + 1) ps) in
    let high : j < n + 1 = omega (arith, length-take (n + 1) ps) in
    let x = get_or ps n 0 in
    let first = get_or-take (n + 1) ps i d low in
    let second = get_or-take (n + 1) ps j d high in
    elim (cases_lt j n) [
      | inl earlier ↦ λ same. distinct i j d before (omega arith)
          (get_or-take n ps i d (omega arith) ∙ sym first ∙ same ∙ second ∙ sym (get_or-take n ps j d earlier))
      | inr last ↦ λ same.
          let here : j ≡ n = omega arith in
          new (i, omega arith, get_or-take n ps i x (omega arith) ∙ get_or_default ps i x d (omega arith) ∙ sym first ∙ same ∙ second ∙ ap (λ k. get_or ps k d) here ∙ get_or_default ps n d 0 inside)
    ]

-- a place that is among those before it
pub not_distinct : (ps : List ℕ) (n : ℕ) → n < length ps → Contains (take n ps) (get_or ps n 0) → ¬ AllPairs (λ p q. p ≢ q) ps
not_distinct ps n inside (k, before, is) distinct =
    grind (arith, length-take n ps, get_or-take, get_or_default ps n 0 (get_or ps n 0) inside)

-- ---- members of long codes

-- what holds of all places that a long code names holds of its drops
pub All-drops : (P : ℕ → Type 0) (root : ℕ) (toward : Way) (drops : List ℕ) (side : Option ℕ) (tip : ℕ) → All P (named_places (Long root toward drops side tip)) → All P drops
All-drops P root toward drops side tip all k d inside =
    let member = Contains-get_or drops k d inside in
    All-contains P (root ∷ drops ++ option_to_list side ++ tip ∷ []) (get_or drops k d) all
    (Contains-append_left (root ∷ drops ++ option_to_list side) (tip ∷ []) (get_or drops k d)
    (Contains-append_left (root ∷ drops) (option_to_list side) (get_or drops k d)
    (suc member.0, omega arith, member.2)))

-- and of its side
pub IfSome-side : (P : ℕ → Type 0) (root : ℕ) (toward : Way) (drops : List ℕ) (side : Option ℕ) (tip : ℕ) → All P (named_places (Long root toward drops side tip)) → IfSome side P
IfSome-side P root toward drops None tip all = tt
IfSome-side P root toward drops (Some q) tip all =
    grind (arith, All-contains P (root ∷ drops ++ q ∷ [] ++ tip ∷ []) q all (Contains-append_left (root ∷ drops ++ q ∷ []) (tip ∷ []) q (Contains-push (root ∷ drops) q)))

-- ---- the turn of a drop

-- which side a point lies on, seen from the root
pub turn_of : (r p : Point) (toward : Way) (o : Ordering) → o ≡ int_cmp (across r toward p) (across r toward r) → o ≡ int_cmp (across r toward p) (pos 0)
turn_of r p toward o is = is ∙ ap (λ z. int_cmp (across r toward p) z) (across-itself r toward)

-- the tests of an equal answer
pub equal_from_test : (o : Ordering) → is_eq o ≡ true → o ≡ Equal
equal_from_test o h = grind arith

pub unequal_from_test : (o : Ordering) → is_eq o ≡ false → o ≢ Equal
unequal_from_test o h same = true≢false (sym (ap is_eq same) ∙ h)

-- the test of another side than the last drop's
pub turn_differs : (C : ℕ → ℤ) (t : ℕ) (o turn : Ordering) (b : Bool) → turn ≡ int_cmp (C t) (pos 0) → turn ≢ Equal → b ≡ not (ordering_index turn == ordering_index o) → IsTrue b ↔ ((int_cmp (C t) (pos 0) ≡ Equal) ⊎ (int_cmp (C t) (pos 0) ≢ o))
turn_differs C t o turn b is off test = grind arith

pub tied_from_test : (o : Ordering) → is_ne o ≡ false → o ≡ Equal
tied_from_test o h = grind arith

pub untied_from_test : (o : Ordering) → is_ne o ≡ true → o ≢ Equal
untied_from_test o h same = true≢false (sym h ∙ ap is_ne same)

-- what doesn't compare as equal differs
pub differ : (z y : ℤ) (o : Ordering) → o ≡ int_cmp z y → o ≢ Equal → z ≢ y
differ z y o is off same = grind arith

-- the sides of a tip and of a side
pub on_short_leg : (ps : List Point) (root : ℕ) (toward : Way) (tip q : ℕ) (b : Bool) (ahead turn reach : Ordering) → ahead ≡ int_cmp (along_of ps root toward q) (along_of ps root toward tip) → ahead ≢ Equal → turn ≡ int_cmp (across_of ps root toward q) (pos 0) → turn ≢ Equal → reach ≡ int_cmp (across_of ps root toward tip) (across_of ps root toward q) → b ≡ (ordering_index reach == ordering_index turn) → IsTrue b ↔ IsOnShortLeg ps root toward tip q
on_short_leg ps root toward tip q b ahead turn reach ahead_is off turn_is turns reach_is test =
    grind (arith, orderings_decide reach turn, differ (along_of ps root toward q) (along_of ps root toward tip) ahead ahead_is off, turns_from_between)

-- a side that lies on the long leg's line hangs on no short leg
pub off_short_leg : (ps : List Point) (root : ℕ) (toward : Way) (tip q : ℕ) (turn : Ordering) → turn ≡ int_cmp (across_of ps root toward q) (pos 0) → turn ≡ Equal → ¬ IsOnShortLeg ps root toward tip q
off_short_leg ps root toward tip q turn turn_is tied leg = grind arith
