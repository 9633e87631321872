-- What a text of points lists, its first fault, and the text that is written for points.
use Rattle.std.specs.Prelude.{ℕ, ◌≡◌, ◌<◌, ◌≤◌, ◌+◌, List, [], ◌∷◌, ◌++◌, length, flat_map, FitsSigned}
use Rattle.std.specs.Int.{w64}
use Rattle.std.specs.Fmt.{signed_decimal}
use Rattle.std.specs.List.{AllByRecursion}
use Rattle.points_in.specs.declared.point.Point.{Point}
use Rattle.points_in.specs.declared.fault.PointFault.{PointFault}
use Rattle.points_in.specs.declared.fault.PointFault.TheVariants.{BadNumber, NumberTooLarge, TooManyPoints, OddCount}
use Rattle.points_in.specs.declared.fault.PointFault.TheVariants.{NoPoints, Memory}
use Rattle.points_in.specs.Number.{IsNumberWord, IsNumber, number_of}
use Rattle.points_in.specs.Terminals.{terminals_of}
use Rattle.points_in.specs.Words.{Word, words_of}

-- Both coordinates are 64-bit numbers.
pub record IsPoint (p : Point) : Type 0 where
  pub x : FitsSigned w64 p.x
  pub y : FitsSigned w64 p.y

-- each of the words is a number of 64 bits
abbrev pub AreNumbers : List Word → Type 0
AreNumbers words = AllByRecursion (λ word. IsNumber word.bytes) words

-- the point of two words
abbrev pub point_of : Word → Word → Point
point_of x y = record { x = number_of x.bytes; y = number_of y.bytes }

-- The words are x and y in turn. A last x without its y gives no point.
abbrev pub points_of : List Word → List Point
points_of [] = []
points_of (x ∷ []) = []
points_of (x ∷ y ∷ words) = point_of x y ∷ points_of words

-- The text has no fault, and these are its points in order, repeats among them.
pub record IsPointText (bytes : List ℕ) (ps : List Point) : Type 0 where
  pub numbers : AreNumbers (words_of bytes)
  pub points : ps ≡ points_of (words_of bytes)
  pub even : length (words_of bytes) ≡ length ps + length ps
  pub some : 0 < length ps
  pub few : length (terminals_of ps) ≤ 50

-- Words that raise no fault as they are read from the left.
pub record AreSound (words : List Word) : Type 0 where
  pub numbers : AreNumbers words
  pub few : length (terminals_of (points_of words)) ≤ 50

-- The point that the word ends is the 51st distinct one, and its x begins at this byte.
pub record EndsPoint51 (before : List Word) (word : Word) (at : ℕ) : Type 0 where
  pub number : IsNumber word.bytes
  pub front : List Word
  pub x : Word
  pub last : before ≡ front ++ x ∷ []
  pub here : at ≡ x.at
  pub many : 50 < length (terminals_of (points_of (before ++ word ∷ [])))

-- Why a word fails after the words before it. The other faults aren't of a word.
abbrev pub FailsAt : List Word → Word → PointFault → Type 0
FailsAt before word (BadNumber at) = (at ≡ word.at) × ¬ IsNumberWord word.bytes
FailsAt before word (NumberTooLarge at) =
    (at ≡ word.at) × IsNumberWord word.bytes × ¬ FitsSigned w64 (number_of word.bytes)
FailsAt before word (TooManyPoints at) = EndsPoint51 before word at
FailsAt before word OddCount = ⊥
FailsAt before word NoPoints = ⊥
FailsAt before word (Memory e) = ⊥

-- The first word that fails, those before it and those after it.
pub record FirstFailure (words : List Word) (fault : PointFault) : Type 0 where
  pub before : List Word
  pub word : Word
  pub after : List Word
  pub parts : words ≡ before ++ word ∷ after
  pub sound : AreSound before
  pub fails : FailsAt before word fault

-- The words raise no fault, and the last x has no y.
pub record EndsWithoutY (words : List Word) : Type 0 where
  pub sound : AreSound words
  pub odd : length words ≡ length (points_of words) + length (points_of words) + 1

-- The text's one fault: of the first word that fails or, where none does, of its end. Want of memory is no fault of
-- a text.
abbrev pub PointFaultOf : List ℕ → PointFault → Type 0
PointFaultOf bytes (BadNumber at) = FirstFailure (words_of bytes) (BadNumber at)
PointFaultOf bytes (NumberTooLarge at) = FirstFailure (words_of bytes) (NumberTooLarge at)
PointFaultOf bytes (TooManyPoints at) = FirstFailure (words_of bytes) (TooManyPoints at)
PointFaultOf bytes OddCount = EndsWithoutY (words_of bytes)
PointFaultOf bytes NoPoints = words_of bytes ≡ []
PointFaultOf bytes (Memory e) = ⊥

-- there was no memory
abbrev pub IsMemory : PointFault → Type 0
IsMemory (BadNumber at) = ⊥
IsMemory (NumberTooLarge at) = ⊥
IsMemory (TooManyPoints at) = ⊥
IsMemory OddCount = ⊥
IsMemory NoPoints = ⊥
IsMemory (Memory e) = Unit {0}

-- Why bytes give no points. Want of memory has no cause that a contract could name.
abbrev pub HasPointCause : PointFault → List ℕ → Type 0
HasPointCause (BadNumber at) bytes = PointFaultOf bytes (BadNumber at)
HasPointCause (NumberTooLarge at) bytes = PointFaultOf bytes (NumberTooLarge at)
HasPointCause (TooManyPoints at) bytes = PointFaultOf bytes (TooManyPoints at)
HasPointCause OddCount bytes = PointFaultOf bytes OddCount
HasPointCause NoPoints bytes = PointFaultOf bytes NoPoints
HasPointCause (Memory e) bytes = Unit {0}

-- x, a blank, y and a line feed
abbrev pub point_line : Point → List ℕ
point_line p = signed_decimal p.x ++ 32 ∷ signed_decimal p.y ++ 10 ∷ []

-- the written text: one line a point
abbrev pub points_text : List Point → List ℕ
points_text ps = flat_map point_line ps
