-- What a step of the reader takes from the words that are left.
use Rattle.std.specs.Prelude.{ℕ, ◌≡◌, ◌<◌, ◌≤◌, List, [], ◌∷◌, ◌++◌, length, drop, Option, None, Some, Result, Ok, Err}
use Rattle.points_in.specs.declared.fault.PointFault.{PointFault}
use Rattle.points_in.specs.declared.fault.PointFault.TheVariants.{BadNumber, NumberTooLarge, TooManyPoints, OddCount}
use Rattle.points_in.specs.declared.fault.PointFault.TheVariants.{NoPoints, Memory}
use Rattle.points_in.specs.declared.point.Point.{Point}
use Rattle.points_in.specs.declared.read.NextNumber.{NextNumber}
use Rattle.points_in.specs.declared.read.NextPoint.{NextPoint}
use Rattle.points_in.specs.Number.{IsNumber, number_of}
use Rattle.points_in.specs.Terminals.{terminals_of}
use Rattle.points_in.specs.Text.{AreNumbers, FailsAt, point_of, IsPointText, HasPointCause}
use Rattle.points_in.specs.Words.{Word, words_from}

-- the words of the text from this place on
abbrev pub words_at : List ℕ → ℕ → List Word
words_at bytes at = words_from at (drop at bytes)

-- The first word is the number, and the others come after it.
pub record TakesNumber (bytes : List ℕ) (at : ℕ) (next : NextNumber) : Type 0 where
  pub word : Word
  pub words : words_at bytes at ≡ word ∷ words_at bytes next.end
  pub number : IsNumber word.bytes
  pub here : next.at ≡ word.at
  pub value : next.value ≡ number_of word.bytes
  pub onward : at < next.end
  pub within : next.end ≤ length bytes

-- One number or none, and then a word that is none of 64 bits.
pub record StopsAtNumber (words : List Word) (fault : PointFault) : Type 0 where
  pub before : List Word
  pub word : Word
  pub after : List Word
  pub parts : words ≡ before ++ word ∷ after
  pub numbers : AreNumbers before
  pub short : length before ≤ 1
  pub fails : FailsAt [] word fault

-- the first word isn't a number of 64 bits
pub record StopsAtOnce (words : List Word) (fault : PointFault) : Type 0 where
  pub word : Word
  pub after : List Word
  pub parts : words ≡ word ∷ after
  pub fails : FailsAt [] word fault

-- What comes next is a number, or no word, or a word that fails.
abbrev pub ReadsNumber : List ℕ → ℕ → Result (Option NextNumber) PointFault → Type 0
ReadsNumber bytes at (Ok None) = words_at bytes at ≡ []
ReadsNumber bytes at (Ok (Some next)) = TakesNumber bytes at next
ReadsNumber bytes at (Err fault) = StopsAtOnce (words_at bytes at) fault

-- The first two words are the point, and the others come after it.
pub record TakesPoint (bytes : List ℕ) (at : ℕ) (next : NextPoint) : Type 0 where
  pub x : Word
  pub y : Word
  pub words : words_at bytes at ≡ x ∷ y ∷ words_at bytes next.end
  pub x_number : IsNumber x.bytes
  pub y_number : IsNumber y.bytes
  pub here : next.at ≡ x.at
  pub point : next.point ≡ point_of x y
  pub onward : at < next.end
  pub within : next.end ≤ length bytes

-- the only word is a number
pub record EndsAfterX (words : List Word) : Type 0 where
  pub x : Word
  pub alone : words ≡ x ∷ []
  pub number : IsNumber x.bytes

-- why no point comes next
abbrev pub StopsBeforePoint : List Word → PointFault → Type 0
StopsBeforePoint words (BadNumber at) = StopsAtNumber words (BadNumber at)
StopsBeforePoint words (NumberTooLarge at) = StopsAtNumber words (NumberTooLarge at)
StopsBeforePoint words (TooManyPoints at) = ⊥
StopsBeforePoint words OddCount = EndsAfterX words
StopsBeforePoint words NoPoints = ⊥
StopsBeforePoint words (Memory e) = ⊥

-- What comes next is a point, or no word, or a fault.
abbrev pub ReadsPoint : List ℕ → ℕ → Result (Option NextPoint) PointFault → Type 0
ReadsPoint bytes at (Ok None) = words_at bytes at ≡ []
ReadsPoint bytes at (Ok (Some next)) = TakesPoint bytes at next
ReadsPoint bytes at (Err fault) = StopsBeforePoint (words_at bytes at) fault

-- The terminals of the points that the text lists, or the text's fault; or memory was short.
abbrev pub AnswersPoints : List ℕ → Result (List Point) PointFault → Type 0
AnswersPoints bytes (Ok points) = (ps : List Point) × IsPointText bytes ps × (points ≡ terminals_of ps)
AnswersPoints bytes (Err fault) = HasPointCause fault bytes
