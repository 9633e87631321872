-- What is kept of an answer that is read is a fact with one proof at most.
use Rattle.std.specs.Prelude.{ℕ, Option, Some, None, IfNone}
use Rattle.std.specs.Coded.{le_prop, Unit-prop}
use Rattle.std.proofs.Math.Logic.{∥∥₁_prop}
use Rattle.answer_text.specs.declared.reader.EventReader.{EventReader}
use Rattle.tree_judge.specs.declared.cause.Cause.{Cause}
use Rattle.tree_judge.specs.declared.judge.Judge.{Judge}
use Rattle.tree_judge.specs.StandingLaws.{IsJudgeOn-prop}
use Rattle.cert_check.specs.declared.subject.Subject.{Subject}
use Rattle.cert_check.specs.Underway.{IsUnderway}

IfNone-prop : {X P : Type 0} (x : Option X) → IsProp P → IsProp (IfNone x P)
IfNone-prop None is = is
IfNone-prop (Some x) is = Unit-prop

pub IsUnderway-prop : (subject : Subject) (reader : EventReader) (judge : Judge) (fault : Option Cause) (count : ℕ) →
    IsProp (IsUnderway subject reader judge fault count)
IsUnderway-prop subject reader judge fault count = hlevel (le_prop, IsJudgeOn-prop, IfNone-prop, ∥∥₁_prop)
