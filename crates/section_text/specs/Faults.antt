-- Why a line is wrong behind what the lines before it told. Of the faults of one line the first in the stated order
-- counts.
use Rattle.std.specs.Prelude.{ℕ, suc, zero, ◌≡◌, ◌≢◌, ◌<◌, ◌≤◌, ◌^◌, ◌⊎◌, List, [], ◌∷◌, ◌++◌, codes, Contains}
use Rattle.points_in.specs.declared.point.Point.{Point}
use Rattle.points_in.specs.Text.{IsPoint}
use Rattle.section_text.specs.declared.fault.LineFault.TheVariants.{BadLine, TooManyPoints, RepeatedPoint, TooManyItems}
use Rattle.section_text.specs.Format.{Format}
use Rattle.section_text.specs.Words.{count_words, point_words, end_words}

-- What the lines so far told: nothing, the title, some of the points of which others are due, all points and some of
-- the items of which others are due, or all.
pub data Told (X : Type 0) : Type 0 where
  nothing : Told X
  title : Told X
  points : (due : ℕ) (ps : List Point) → Told X
  items : (ps : List Point) (due : ℕ) (xs : List X) → Told X
  ended : (ps : List Point) (xs : List X) → Told X

-- the words spell a point, or none
pub record SpellsPoint (words : List (List ℕ)) (p : Point) : Type 0 where
  pub fits : IsPoint p
  pub words_are : words ≡ point_words p

abbrev pub SpellsNoPoint : List (List ℕ) → Type 0
SpellsNoPoint words = (p : Point) → SpellsPoint words p → ⊥

-- the words spell an item, right or not, or none
pub record SpellsItem {X F V : Type 0} (fm : Format X F V) (words : List (List ℕ)) (x : X) : Type 0 where
  pub fits : fm.IsSpelled x
  pub words_are : words ≡ fm.item_words x

abbrev pub SpellsNoItem : {X F V : Type 0} → Format X F V → List (List ℕ) → Type 0
SpellsNoItem {X = X} fm words = (x : X) → SpellsItem fm words x → ⊥

-- the words spell a count of 32 bits behind such a word, or none
pub record SpellsCount (kind : List ℕ) (words : List (List ℕ)) (count : ℕ) : Type 0 where
  pub fits : count < 2 ^ 32
  pub words_are : words ≡ count_words kind count

abbrev pub SpellsNoCount : List ℕ → List (List ℕ) → Type 0
SpellsNoCount kind words = (count : ℕ) → SpellsCount kind words count → ⊥

-- the next line is right behind what was told, and this is told with it; the points are judged with the last one
abbrev pub Passes : {X F V : Type 0} → Format X F V → Told X → List (List ℕ) → Told X → Type 0
Passes fm nothing words t' = (words ≡ fm.title) × (t' ≡ title)
Passes fm title words t' =
    (count : ℕ) × SpellsCount (codes "points") words count × (0 < count) × (count ≤ 50) × (t' ≡ points count [])
Passes fm (points zero ps) words t' =
    (count : ℕ) × SpellsCount fm.kind words count × (count ≤ fm.most) × (t' ≡ items ps count [])
Passes fm (points (suc due) ps) words t' =
    (p : Point) × SpellsPoint words p × ¬ Contains ps p × (due ≡ 0 → fm.PointsFit (ps ++ p ∷ []))
    × (t' ≡ points due (ps ++ p ∷ []))
Passes fm (items ps zero xs) words t' = (words ≡ end_words) × (t' ≡ ended ps xs)
Passes {X = X} fm (items ps (suc due) xs) words t' =
    (x : X) × SpellsItem fm words x × fm.Follows ps xs x × (t' ≡ items ps due (xs ++ x ∷ []))
Passes fm (ended ps xs) words t' = ⊥

-- a line that counts what follows, and spells no such count
abbrev pub FailsCount : {X F V : Type 0} → Format X F V → List ℕ → ℕ → List (List ℕ) → F → Type 0
FailsCount fm kind n words f = SpellsNoCount kind words × (f ≡ fm.fault_of (BadLine n))

-- the line of an item, of number n, is wrong behind these
abbrev pub FailsItem : {X F V : Type 0} → Format X F V → List Point → List X → ℕ → List (List ℕ) → F → Type 0
FailsItem {X = X} fm ps xs n words f =
    (SpellsNoItem fm words × (f ≡ fm.fault_of (BadLine n)))
    ⊎ ((x : X) × SpellsItem fm words x × fm.IsItemFault ps xs n x f)

-- the next line, of number n, is wrong behind what was told
abbrev pub Fails : {X F V : Type 0} → Format X F V → Told X → ℕ → List (List ℕ) → F → Type 0
Fails fm nothing n words f = (words ≢ fm.title) × (f ≡ fm.fault_of (BadLine n))
Fails fm title n words f =
    FailsCount fm (codes "points") n words f
    ⊎ ((count : ℕ) × SpellsCount (codes "points") words count × (count ≡ 0) × (f ≡ fm.fault_of (BadLine n)))
    ⊎ ((count : ℕ) × SpellsCount (codes "points") words count × (50 < count) × (f ≡ fm.fault_of (TooManyPoints n)))
Fails fm (points zero ps) n words f =
    FailsCount fm fm.kind n words f
    ⊎ ((count : ℕ) × SpellsCount fm.kind words count × (fm.most < count) × (f ≡ fm.fault_of (TooManyItems n)))
Fails fm (points (suc due) ps) n words f =
    (SpellsNoPoint words × (f ≡ fm.fault_of (BadLine n)))
    ⊎ ((p : Point) × SpellsPoint words p × Contains ps p × (f ≡ fm.fault_of (RepeatedPoint n)))
    ⊎ ((p : Point) × SpellsPoint words p × ¬ Contains ps p × (due ≡ 0) × fm.IsPointsFault (ps ++ p ∷ []) f)
Fails fm (items ps zero xs) n words f = (words ≢ end_words) × (f ≡ fm.fault_of (BadLine n))
Fails fm (items ps (suc due) xs) n words f = FailsItem fm ps xs n words f
Fails fm (ended ps xs) n words f = f ≡ fm.fault_of (BadLine n)
