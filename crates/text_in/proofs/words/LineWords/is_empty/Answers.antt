-- What stands behind a blank has a word.
use Rattle.std.specs.Prelude.{ℕ, ◌≡◌, ◌↔◌, List, [], length, Bool, true, false, not, Option, Some, None, is_some, IsTrue}
use Rattle.std.specs.Borrow.{Bor}
use Rattle.std.proofs.Common.{arith, ap, sym}
use Rattle.text_in.specs.LineLaws.{words_some}
use Rattle.text_in.specs.Left.{words_left}
use Rattle.text_in.proofs.words.LineWords.is_empty.Goals as goal

left_none : (left : Option (Bor (List ℕ))) (none : Bool) → is_some left ≡ not none → IsTrue none ↔ (words_left left ≡ [])
left_none None true e = (λ h. cc, λ h. cc)
left_none None false e = cc
left_none (Some bytes) true e = cc
left_none (Some bytes) false e =
    (λ h. cc, λ h. absurd (omega (arith, words_some bytes.now, ap (length {A = List ℕ}) h)))

pub returns : goal.returns
returns c = rw (sym c.self.view_is) (left_none c.self.inside.left c.is_none.result c.is_none.ensures)
