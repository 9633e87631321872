-- What a text comes to, line by line: a value, or its first fault.
use Rattle.std.specs.Prelude.{ℕ, ◌≡◌, ◌≢◌, ◌+◌, ◌⊎◌, List, [], ◌∷◌, Result, Ok, Err}
use Rattle.points_in.specs.declared.point.Point.{Point}
use Rattle.text_in.specs.Lines.{lines_of, empty_line}
use Rattle.section_text.specs.declared.fault.LineFault.TheVariants.{BadLine}
use Rattle.section_text.specs.Format.{Format}
use Rattle.section_text.specs.Faults.{Told, nothing, ended, Passes, Fails}

-- The whole text was read: it is the value of its points and items, unless something is wrong with the whole.
abbrev pub JudgesWhole : {X F V : Type 0} → Format X F V → List Point → List X → Result V F → Type 0
JudgesWhole {F = F} fm ps xs o =
    (fm.IsWhole ps xs × (o ≡ Ok (fm.value_of ps xs))) ⊎ ((f : F) × fm.IsWholeFault ps xs f × (o ≡ Err f))

-- Behind the last line feed stands nothing where all was told. Else the text ends too soon, or goes on after its end.
abbrev pub Ends : {X F V : Type 0} → Format X F V → Told X → ℕ → List (List ℕ) → Result V F → Type 0
Ends fm (ended ps xs) n last o =
    ((last ≡ empty_line) × JudgesWhole fm ps xs o) ⊎ ((last ≢ empty_line) × (o ≡ Err (fm.fault_of (BadLine n))))
Ends fm _ n last o = o ≡ Err (fm.fault_of (BadLine n))

-- What lines come to behind what was told, where n is the number of the first of them: the first wrong one decides, or
-- else the end. The last of them is no whole line.
abbrev pub Judges : {X F V : Type 0} → Format X F V → Told X → ℕ → List (List (List ℕ)) → Result V F → Type 0
Judges fm told n [] o = ⊥
Judges fm told n (last ∷ []) o = Ends fm told n last o
Judges {X = X} {F = F} fm told n (words ∷ next ∷ more) o =
    ((f : F) × Fails fm told n words f × (o ≡ Err f))
    ⊎ ((told' : Told X) × Passes fm told words told' × Judges fm told' (n + 1) (next ∷ more) o)

-- what bytes come to
abbrev pub IsOutcome : {X F V : Type 0} → Format X F V → List ℕ → Result V F → Type 0
IsOutcome fm bytes o = Judges fm nothing 1 (lines_of bytes) o

-- the first fault of bytes, where they have one; want of memory has no cause in them
abbrev pub IsFirstFault : {X F V : Type 0} → Format X F V → List ℕ → F → Type 0
IsFirstFault fm bytes f = (fm.IsMemory f → ⊥) → IsOutcome fm bytes (Err f)

-- what a reader answered is this outcome, unless memory ran out
abbrev pub Answers : {X F V : Type 0} → Format X F V → Result V F → Result V F → Type 0
Answers fm (Ok v) o = Ok v ≡ o
Answers fm (Err f) o = (fm.IsMemory f → ⊥) → Err f ≡ o
