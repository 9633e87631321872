-- What is left of a text, and what it comes to.
use Rattle.std.specs.Prelude.{ℕ, zero, suc, ◌≡◌, ◌+◌, ◌<◌, ◌⊎◌, List, ◌∷◌, length, Result, Err}
use Rattle.points_in.specs.declared.point.Point.{Point}
use Rattle.text_in.specs.Lines.{LinesLeft}
use Rattle.section_text.specs.Format.{Format}
use Rattle.section_text.specs.Faults.{Told, points, ended}
use Rattle.section_text.specs.Judged.{Judges}

-- a whole line was taken, with these words
pub record TakesLine (before : LinesLeft) (words : List (List ℕ)) (after : LinesLeft) : Type 0 where
  pub lines : before.lines ≡ words ∷ after.lines
  pub more : 0 < length after.lines
  pub number : after.number ≡ before.number + 1

-- not all was told
abbrev pub IsOpen : {X : Type 0} → Told X → Type 0
IsOpen (ended ps xs) = ⊥
IsOpen _ = Unit {0}

-- what the text that is left comes to
abbrev pub JudgesLeft : {X F V : Type 0} → Format X F V → Told X → LinesLeft → Result V F → Type 0
JudgesLeft fm told left o = Judges fm told left.number left.lines o

-- its first fault, where it has one; want of memory has no cause in it
abbrev pub IsFaultLeft : {X F V : Type 0} → Format X F V → Told X → LinesLeft → F → Type 0
IsFaultLeft fm told left f = (fm.IsMemory f → ⊥) → JudgesLeft fm told left (Err f)

-- it comes to what the text that is left later comes to
abbrev pub LeadsTo : {X F V : Type 0} → Format X F V → Told X → LinesLeft → Told X → LinesLeft → Type 0
LeadsTo {F = F} {V = V} fm told before told' after =
    (o : Result V F) → JudgesLeft fm told' after o → JudgesLeft fm told before o

-- Behind a point line: where all points were told, they are judged first.
abbrev pub JudgesPoints : {X F V : Type 0} → Format X F V → ℕ → List Point → LinesLeft → Result V F → Type 0
JudgesPoints {F = F} fm zero ps left o =
    (fm.PointsFit ps × JudgesLeft fm (points zero ps) left o)
    ⊎ ((f : F) × fm.IsPointsFault ps f × (o ≡ Err f))
JudgesPoints fm (suc due) ps left o = JudgesLeft fm (points (suc due) ps) left o
