use Rattle.std.proofs.Common.{◌≡◌, ◌<◌, true, false, sym, refl, ◌∙◌, length, arith}
use Rattle.std.proofs.lemmas.Option.{slice_get_read}
use Rattle.net_graph.specs.Joins.{slice_get-has, has-slice_get}
use Rattle.fst_concat.proofs.lemmas.Parts.{ArePartsUpTo-skip, ArePartsUpTo-join_listed, listed_length}
use Rattle.fst_concat.proofs.parts.join_parts.Goals as goal
use Rattle.fst_concat.proofs.parts.join_parts.Goals.{then-set-place, else-set-place}

true_isnt : true ≡ false → ⊥
true_isnt same = (cc)

pub loop-place-preserved : goal.loop-place-preserved
loop-place-preserved c =
    let below : c.loop-place.place < length c.args.trees.now = omega arith in
    elim c.if-set-place.branch [
      | then-set-place w ↦
          rw (w.labels-is, w.join_members.ensures, w.as_slice.ensures)
          (ArePartsUpTo-join_listed c.args.points c.args.trees.now c.args.listed.now c.args.set.now c.loop-place.place _ _
          c.requires.listed c.loop-place.invariant (slice_get-has c.args.set.now c.loop-place.place w.if-set-place.true)
          (slice_get_read _ (length c.args.listed.now) _ _ refl (omega (arith, listed_length c.args.points c.args.trees.now c.args.listed.now c.requires.listed)) w.index-listed-place.is))
      | else-set-place w ↦
          rw w.labels-is
          (ArePartsUpTo-skip c.args.points c.args.trees.now c.args.set.now c.loop-place.place _ c.loop-place.invariant
          (λ inside. true_isnt (sym (has-slice_get c.args.set.now c.loop-place.place inside) ∙ w.if-set-place.false)))
    ]
