-- One line of a text: it is right and leads on, or it is wrong and decides.
use Rattle.std.specs.Prelude.{ℕ, zero, suc, ◌≡◌, ◌+◌, ◌<◌, List, [], ◌∷◌, ◌++◌, length, Contains, Result, Err}
use Rattle.std.proofs.Common.{arith, refl, sym, ap, subst, inl, inr}
use Rattle.points_in.specs.declared.point.Point.{Point}
use Rattle.text_in.specs.Lines.{LinesLeft}
use Rattle.section_text.specs.declared.fault.LineFault.TheVariants.{BadLine}
use Rattle.section_text.specs.Format.{Format}
use Rattle.section_text.specs.Faults.{Told, nothing, title, points, items, ended, Passes, Fails, SpellsPoint}
use Rattle.section_text.specs.Judged.{Judges}
use Rattle.section_text.specs.Left.{TakesLine, IsOpen, JudgesLeft, LeadsTo, JudgesPoints}

module _ {X F V : Type 0} (fm : Format X F V) where
  -- a line that passes, behind which another one stands
  pub judges_pass : (t t' : Told X) (n : ℕ) (words : List (List ℕ)) (ls : List (List (List ℕ))) (o : Result V F) → 0 < length ls
      → Passes fm t words t' → Judges fm t' (n + 1) ls o → Judges fm t n (words ∷ ls) o
  judges_pass t t' n words [] o more passes judged = absurd (omega arith)
  judges_pass t t' n words (l ∷ ls) o more passes judged = inr (t', passes, judged)

  -- a line that fails
  judges_fail : (t : Told X) (n : ℕ) (words : List (List ℕ)) (ls : List (List (List ℕ))) (f : F) → 0 < length ls
      → Fails fm t n words f → Judges fm t n (words ∷ ls) (Err f)
  judges_fail t n words [] f more fails = absurd (omega arith)
  judges_fail t n words (l ∷ ls) f more fails = inl (f, fails, refl)

  -- the same of a line that was taken
  pub line_passes : (before after : LinesLeft) (words : List (List ℕ)) (t t' : Told X) → TakesLine before words after → Passes fm t words t'
      → LeadsTo fm t before t' after
  line_passes before after words t t' taken passes = grind (arith, judges_pass)

  pub line_fails : (before after : LinesLeft) (words : List (List ℕ)) (t : Told X) (f : F) → TakesLine before words after
      → Fails fm t before.number words f → JudgesLeft fm t before (Err f)
  line_fails before after words t f taken fails =
      subst (λ ls. Judges fm t before.number ls (Err f)) (sym taken.lines) (judges_fail t before.number words after.lines f taken.more fails)

  -- no whole line is left, and not all was told
  ends_open : (t : Told X) (n : ℕ) (last : List (List ℕ)) → IsOpen t → Judges fm t n (last ∷ []) (Err (fm.fault_of (BadLine n)))
  ends_open nothing n last is = refl
  ends_open title n last is = refl
  ends_open (points due ps) n last is = refl
  ends_open (items ps due xs) n last is = refl
  ends_open (ended ps xs) n last is = absurd is

  pub ends_short : (ls : List (List (List ℕ))) (n : ℕ) → length ls ≡ 1 → (t : Told X) → IsOpen t → Judges fm t n ls (Err (fm.fault_of (BadLine n)))
  ends_short [] n one t is = absurd (omega arith)
  ends_short (last ∷ []) n one t is = ends_open t n last is
  ends_short (l ∷ m ∷ ls) n one t is = absurd (omega arith)

  -- one more point
  pub point_leads : (before after : LinesLeft) (words : List (List ℕ)) (p : Point) (ps qs : List Point) → TakesLine before words after
      → SpellsPoint words p → ¬ Contains ps p → qs ≡ ps ++ p ∷ [] → (due : ℕ) (o : Result V F) → JudgesPoints fm due qs after o
      → JudgesLeft fm (points (suc due) ps) before o
  point_leads before after words p ps qs taken spells new is zero o (inl judged) =
      line_passes before after words (points (suc zero) ps) (points zero qs) taken (p, spells, new, λ last. rw (sym is) judged.0, ap (points zero) is) o judged.1
  point_leads before after words p ps qs taken spells new is zero o (inr (f, wrong, told)) = grind (arith, line_fails)
  point_leads before after words p ps qs taken spells new is (suc due) o judged =
      grind (arith, line_passes, suc (suc due), suc due)
