use Rattle.std.proofs.Common.{ℕ, ◌≡◌, ◌≢◌, ◌*◌, ◌/◌, ◌^◌, Some, [], ◌∷◌, slice_index_or, bit_and, ap, ◌∙◌, ⊎_elim, arith}
use Rattle.std.proofs.lemmas.Bool.{cases_eq}
use Rattle.std.proofs.lemmas.List.{length-set}
use Rattle.net_graph.specs.EntryLaws.{slice_get-set_same, slice_get-set_other}
use Rattle.answer_text.proofs.lemmas.SetDigits.{word_digit}
use Rattle.answer_text.proofs.write.digits_of.Goals as goal

pub loop-n-preserved : goal.loop-n-preserved
loop-n-preserved c =
    let (sixteen, so_far) = c.loop-n.invariant in
    let digit : ℕ = slice_index_or {A = ℕ} (48 ∷ 56 ∷ 52 ∷ 99 ∷ 50 ∷ 97 ∷ 54 ∷ 101 ∷ 49 ∷ 57 ∷ 53 ∷ 100 ∷ 51 ∷ 98 ∷ 55 ∷ 102 ∷ []) (bit_and (c.args.flags / 2 ^ (4 * c.loop-n.n)) 15) 0 in (
      length-set c.loop-n.digits c.loop-n.n digit ∙ sixteen,
      λ n below. ⊎_elim
          (λ (here : n ≡ c.loop-n.n). rw here (slice_get-set_same c.loop-n.digits c.loop-n.n digit (omega (arith, sixteen, c.loop-n-test.true))
          ∙ ap Some (word_digit c.args.flags c.loop-n.n)))
          (λ (apart : n ≢ c.loop-n.n). slice_get-set_other c.loop-n.digits c.loop-n.n n digit apart ∙ so_far n (omega arith))
          (cases_eq n c.loop-n.n),
    )
