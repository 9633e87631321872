-- A text has one fault, or lists one list of points.
use Rattle.std.specs.Prelude.{ℕ, ◌≤◌, ◌≡◌, ◌⊎◌, List, [], ◌∷◌, ◌++◌, length}
use Rattle.std.proofs.Common.{arith, refl, sym, ap, subst, ◌∙◌, inl, inr}
use Rattle.std.proofs.lemmas.List.{append_assoc, append-nil, length-append}
use Rattle.points_in.specs.declared.point.Point.{Point}
use Rattle.points_in.specs.declared.fault.PointFault.{PointFault}
use Rattle.points_in.specs.declared.fault.PointFault.TheVariants.{BadNumber, NumberTooLarge, TooManyPoints, OddCount}
use Rattle.points_in.specs.declared.fault.PointFault.TheVariants.{NoPoints, Memory}
use Rattle.points_in.specs.Number.{IsNumber}
use Rattle.points_in.specs.Terminals.{terminals_of}
use Rattle.points_in.specs.TerminalLaws.{length-terminals_of-push}
use Rattle.points_in.specs.Text.{AreNumbers, points_of, IsPointText, AreSound, FailsAt, FirstFailure}
use Rattle.points_in.specs.Text.{EndsWithoutY, PointFaultOf}
use Rattle.points_in.specs.Words.{Word, words_of}

-- more points have no fewer terminals
pub length-terminals_of-append : (ps qs : List Point) → length (terminals_of ps) ≤ length (terminals_of (ps ++ qs))
length-terminals_of-append ps [] = omega (arith, ap (λ rs. length (terminals_of rs)) (append-nil ps))
length-terminals_of-append ps (q ∷ qs) =
    grind (
      arith,
      length-terminals_of-push ps q,
      length-terminals_of-append (ps ++ q ∷ []) qs,
      append_assoc ps (q ∷ []) qs,
    )

-- more words list the same points and more
pub points_of-append : (xs ys : List Word) → (more : List Point) × (points_of (xs ++ ys) ≡ points_of xs ++ more)
points_of-append [] ys = (points_of ys, refl)
points_of-append (x ∷ []) ys = (points_of (x ∷ ys), refl)
points_of-append (x ∷ y ∷ xs) ys = grind (arith, points_of-append xs ys)

-- the front of numbers
numbers_front : (xs ys : List Word) → AreNumbers (xs ++ ys) → AreNumbers xs
numbers_front [] ys numbers = tt
numbers_front (x ∷ xs) ys numbers = (numbers.0, numbers_front xs ys numbers.1)

-- one among them
number_among : (xs : List Word) (y : Word) (ys : List Word) → AreNumbers (xs ++ y ∷ ys) → IsNumber y.bytes
number_among [] y ys numbers = numbers.0
number_among (x ∷ xs) y ys numbers = number_among xs y ys numbers.1

-- the front of words that raise no fault raises none
pub sound_front : (xs ys : List Word) → AreSound (xs ++ ys) → AreSound xs
sound_front xs ys sound =
    grind (
      arith,
      points_of-append xs ys,
      numbers_front xs ys sound.numbers,
      length-terminals_of-append (points_of xs) (points_of-append xs ys).0,
    )

-- a word that fails raises one
pub fails_not_sound : (before : List Word) (word : Word) (after : List Word) (fault : PointFault)
    → FailsAt before word fault
    → AreSound (before ++ word ∷ after) → ⊥
fails_not_sound before word after (BadNumber at) fails sound =
    fails.1 (number_among before word after sound.numbers).spelled
fails_not_sound before word after (NumberTooLarge at) fails sound =
    fails.2 (number_among before word after sound.numbers).fits
fails_not_sound before word after (TooManyPoints at) fails sound =
    grind (
      arith,
      sound_front (before ++ word ∷ []) after (subst AreSound (sym (append_assoc before (word ∷ []) after)) sound),
    )
fails_not_sound before word after OddCount fails sound = fails
fails_not_sound before word after NoPoints fails sound = fails
fails_not_sound before word after (Memory e) fails sound = fails

-- Two places of one list: the same one, or one before the other.
pub record IsLater (xs : List Word) (x : Word) (ys : List Word) : Type 0 where
  pub between : List Word
  pub is : ys ≡ xs ++ x ∷ between

two_places : (xs ys : List Word) (x y : Word) (us vs : List Word) → xs ++ x ∷ us ≡ ys ++ y ∷ vs
    → ((xs ≡ ys) × (x ≡ y)) ⊎ (IsLater xs x ys ⊎ IsLater ys y xs)
two_places [] [] x y us vs e = inl (refl, cc)
two_places [] (z ∷ ys) x y us vs e = let same : x ≡ z = cc in
    inr (inl (record { between = ys; is = ap (λ w. w ∷ ys) (sym same) }))
two_places (z ∷ xs) [] x y us vs e = let same : z ≡ y = cc in
    inr (inr (record { between = xs; is = ap (λ w. w ∷ xs) same }))
two_places (a ∷ xs) (b ∷ ys) x y us vs e =
    let head : a ≡ b = cc in
    let tail : xs ++ x ∷ us ≡ ys ++ y ∷ vs = cc in
    elim (two_places xs ys x y us vs tail) [
      | inl same ↦ inl (cc (head, same.0), same.1)
      | inr (inl later) ↦ inr (inl (record { between = later.between; is = cc (head, later.is) }))
      | inr (inr later) ↦ inr (inr (record { between = later.between; is = cc (head, later.is) }))
    ]

-- the last word of a list is one
last_same : (xs ys : List Word) (x y : Word) → xs ++ x ∷ [] ≡ ys ++ y ∷ [] → x ≡ y
last_same [] [] x y e = cc
last_same [] (b ∷ ys) x y e = absurd (omega (arith, ap length e, length-append ys (y ∷ [])))
last_same (a ∷ xs) [] x y e = absurd (omega (arith, ap length e, length-append xs (x ∷ [])))
last_same (a ∷ xs) (b ∷ ys) x y e = last_same xs ys x y (cc)

-- a word fails in one way
one_way : (before : List Word) (word : Word) (f g : PointFault) → FailsAt before word f → FailsAt before word g → f ≡ g
one_way before word (BadNumber a) (BadNumber b) p q = ap BadNumber (p.0 ∙ sym q.0)
one_way before word (BadNumber a) (NumberTooLarge b) p q = absurd (p.1 q.1)
one_way before word (BadNumber a) (TooManyPoints b) p q = absurd (p.1 q.number.spelled)
one_way before word (NumberTooLarge a) (BadNumber b) p q = absurd (q.1 p.1)
one_way before word (NumberTooLarge a) (NumberTooLarge b) p q = ap NumberTooLarge (p.0 ∙ sym q.0)
one_way before word (NumberTooLarge a) (TooManyPoints b) p q = absurd (p.2 q.number.fits)
one_way before word (TooManyPoints a) (BadNumber b) p q = absurd (q.1 p.number.spelled)
one_way before word (TooManyPoints a) (NumberTooLarge b) p q = absurd (q.2 p.number.fits)
one_way before word (TooManyPoints a) (TooManyPoints b) p q =
    ap TooManyPoints (p.here ∙ ap (λ w. w.at) (last_same p.front q.front p.x q.x (sym p.last ∙ q.last)) ∙ sym q.here)
one_way before word f OddCount p q = absurd q
one_way before word f NoPoints p q = absurd q
one_way before word f (Memory e) p q = absurd q
one_way before word OddCount g p q = absurd p
one_way before word NoPoints g p q = absurd p
one_way before word (Memory e) g p q = absurd p

-- there is one first word that fails
one_first : (words : List Word) (f g : PointFault) → FirstFailure words f → FirstFailure words g → f ≡ g
one_first words f g p q = elim (two_places p.before q.before p.word q.word p.after q.after (sym p.parts ∙ q.parts)) [
  | inl same ↦ one_way q.before q.word f g
      (subst (λ w. FailsAt q.before w f) same.1 (subst (λ ws. FailsAt ws p.word f) same.0 p.fails)) q.fails
  | inr (inl later) ↦ absurd (fails_not_sound p.before p.word later.between f p.fails (subst AreSound later.is q.sound))
  | inr (inr later) ↦ absurd (fails_not_sound q.before q.word later.between g q.fails (subst AreSound later.is p.sound))
]

-- The kinds of a fault.
pub data IsKind (words : List Word) : PointFault → Type 0 where
  at_word : {fault : PointFault} → FirstFailure words fault → IsKind words fault
  at_end : EndsWithoutY words → IsKind words OddCount
  at_nothing : words ≡ [] → IsKind words NoPoints

kind_of : (bytes : List ℕ) (fault : PointFault) → PointFaultOf bytes fault → IsKind (words_of bytes) fault
kind_of bytes (BadNumber at) fails = at_word fails
kind_of bytes (NumberTooLarge at) fails = at_word fails
kind_of bytes (TooManyPoints at) fails = at_word fails
kind_of bytes OddCount fails = at_end fails
kind_of bytes NoPoints fails = at_nothing fails
kind_of bytes (Memory e) fails = absurd fails

-- words that raise no fault have no first that fails
first_not_sound : (words : List Word) (fault : PointFault) → FirstFailure words fault → AreSound words → ⊥
first_not_sound words fault p sound =
    fails_not_sound p.before p.word p.after fault p.fails (subst AreSound p.parts sound)

no_words_no_first : (words : List Word) (fault : PointFault) → FirstFailure words fault → words ≡ [] → ⊥
no_words_no_first words fault p none =
    omega (arith, ap length none, ap length p.parts, length-append p.before (p.word ∷ p.after))

no_words_not_odd : (words : List Word) → EndsWithoutY words → words ≡ [] → ⊥
no_words_not_odd words odd none = omega (arith, ap length none, odd.odd)

one_kind : (words : List Word) (f g : PointFault) → IsKind words f → IsKind words g → f ≡ g
one_kind words f g (at_word p) (at_word q) = one_first words f g p q
one_kind words f g (at_word p) (at_end q) = absurd (first_not_sound words f p q.sound)
one_kind words f g (at_word p) (at_nothing q) = absurd (no_words_no_first words f p q)
one_kind words f g (at_end p) (at_word q) = absurd (first_not_sound words g q p.sound)
one_kind words f g (at_end p) (at_end q) = refl
one_kind words f g (at_end p) (at_nothing q) = absurd (no_words_not_odd words p q)
one_kind words f g (at_nothing p) (at_word q) = absurd (no_words_no_first words g q p)
one_kind words f g (at_nothing p) (at_end q) = absurd (no_words_not_odd words q p)
one_kind words f g (at_nothing p) (at_nothing q) = refl

-- a text has one fault at most
pub one_fault : (bytes : List ℕ) (f g : PointFault) → PointFaultOf bytes f → PointFaultOf bytes g → f ≡ g
one_fault bytes f g p q = one_kind (words_of bytes) f g (kind_of bytes f p) (kind_of bytes g q)

listed_no_kind : (bytes : List ℕ) (ps : List Point) (fault : PointFault) → IsPointText bytes ps
    → IsKind (words_of bytes) fault → ⊥
listed_no_kind bytes ps fault lists (at_word p) =
    first_not_sound (words_of bytes) fault p (record {
      numbers = lists.numbers;
      few = subst (λ qs. length (terminals_of qs) ≤ 50) lists.points lists.few;
    })
listed_no_kind bytes ps fault lists (at_end p) = omega (arith, p.odd, lists.even, ap length lists.points)
listed_no_kind bytes ps fault lists (at_nothing p) = omega (arith, ap length p, lists.even, lists.some)

-- and none where it lists points
pub listed_no_fault : (bytes : List ℕ) (ps : List Point) (fault : PointFault) → IsPointText bytes ps
    → PointFaultOf bytes fault → ⊥
listed_no_fault bytes ps fault lists p = listed_no_kind bytes ps fault lists (kind_of bytes fault p)

-- it lists one list of points
pub one_list : (bytes : List ℕ) (ps qs : List Point) → IsPointText bytes ps → IsPointText bytes qs → ps ≡ qs
one_list bytes ps qs p q = p.points ∙ sym q.points
