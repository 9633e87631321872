-- The point was added, or was there already, or there were 50 others.
use Rattle.std.specs.Prelude.{ℕ, ◌≡◌, ◌++◌, List, [], ◌∷◌, length, Contains, Result, Ok, Err}
use Rattle.std.proofs.Common.{refl, sym, ap, ◌∙◌, arith}
use Rattle.points_in.specs.declared.point.Point.{Point}
use Rattle.points_in.specs.declared.points.Added.{Added}
use Rattle.points_in.specs.declared.points.Added.TheVariants.{New, Repeat}
use Rattle.points_in.specs.declared.points.AddFault.{AddFault}
use Rattle.points_in.specs.declared.points.AddFault.TheVariants as add
use Rattle.stp_format.specs.Located.{with_point}
use Rattle.stp_format.proofs.lemmas.Located.{with_repeat, with_too_many, with_new}
use Rattle.stp_format.proofs.points.add_point.Goals as goal

abbrev done : Added → Result Added AddFault
done a = Ok a

-- whichever became of the point
added : (node : ℕ) (ps new : List Point) (p : Point) (a : Added)
    → (done a ≡ Ok New → new ≡ ps ++ p ∷ []) → (done a ≡ Ok New → ¬ Contains ps p) → (done a ≡ Ok Repeat → Contains ps p)
    → (done a ≡ Ok Repeat → new ≡ ps) → (length ps ≡ 50 → ¬ Contains ps p → done a ≡ Err add.Full) → with_point node ps p ≡ Ok new
added node ps new p New is absent found kept room =
    with_new node ps p (absent refl) (λ full. let refused = room full (absent refl) in absurd cc) ∙ ap Ok (sym (is refl))
added node ps new p Repeat is absent found kept room = with_repeat node ps p (found refl) ∙ ap Ok (sym (kept refl))

pub returns-in-Ok : goal.returns-in-Ok
returns-in-Ok c =
    let e = c.in-Ok.ensures in
    added c.args.node c.args.points.now c.add.new.self c.args.point c.in-Ok.field-0 e.new e.new_point e.repeat e.repeat_kept e.no_room

pub returns-in-Err-Full : goal.returns-in-Err-Full
returns-in-Err-Full c =
    grind (arith, with_too_many, c.in-Err-Full.ensures.full)
