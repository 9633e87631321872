-- What is wrong with all points is a fault of the text.
use Rattle.std.specs.Prelude.{ℕ, [], List, Result, Ok, Err, IfErr}
use Rattle.std.proofs.Common.{refl, inr, arith}
use Rattle.points_in.specs.declared.point.Point.{Point}
use Rattle.text_in.specs.Lines.{LinesLeft}
use Rattle.section_text.specs.Format.{Format}
use Rattle.section_text.specs.Faults.{points}
use Rattle.section_text.specs.Left.{JudgesLeft, JudgesPoints, IsFaultLeft}
use Rattle.section_text.proofs.points.read_basis.Goals as goal

points_wrong : {X F V G : Type 0} (fm : Format X F V) (ps : List Point) (before after : LinesLeft) (count : ℕ) (r : Result G F)
    → ((o : Result V F) → JudgesPoints fm 0 ps after o → JudgesLeft fm (points count []) before o)
    → IfErr r (λ f. (fm.IsMemory f → ⊥) → fm.IsPointsFault ps f) → IfErr r (IsFaultLeft fm (points count []) before)
points_wrong fm ps before after count (Ok x) leads wrong = tt
points_wrong fm ps before after count (Err f) leads wrong = λ other. leads (Err f) (inr (f, wrong other, refl))

pub returns-clause-err : goal.returns-clause-err
returns-clause-err g c =
    grind (arith, points_wrong g.S.SectionFormat.format c.in_ok-points.points c.args.text.now c.read_points.new.text c.args.count c.basis.result c.in_ok-points.ensures.ok c.basis.ensures.err)
