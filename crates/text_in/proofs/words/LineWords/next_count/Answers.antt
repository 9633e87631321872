-- A number that was read and doesn't fit is no number that fits.
use Rattle.std.specs.Prelude.{ℕ, ◌≡◌, ◌<◌, ◌^◌, List, ◌∷◌, Result, Ok, Err, Option, IfNone}
use Rattle.std.specs.Fmt.{decimal}
use Rattle.std.specs.Result.{OkIff, result_ok}
use Rattle.std.proofs.Common.{arith}
use Rattle.std.proofs.lemmas.Fmt.{decimal_injective}
use Rattle.text_in.proofs.words.LineWords.next_count.Goals as goal

too_large : {E : Type 0} (m : ℕ) (words rest : List (List ℕ)) (fit : Result ℕ E) (r : Option ℕ) → m < 2 ^ 64 → words ≡ decimal m ∷ rest
    → OkIff fit (m < 2 ^ 32) m → r ≡ result_ok fit → IfNone r ((n : ℕ) (others : List (List ℕ)) → n < 2 ^ 32 → words ≡ decimal n ∷ others → ⊥)
too_large m words rest (Ok x) r wide found fits is = rw is tt
too_large m words rest (Err d) r wide found fits is = rw is (λ n others small e.
    let spelled : decimal m ≡ decimal n = cc in
    let same = decimal_injective m n wide (omega arith) spelled in
    fits (omega arith))

pub returns-clause-none : goal.returns-clause-none
returns-clause-none c =
    grind (arith, too_large c.in_ok-number.number c.args.self.now c.next_unsigned.new.self c.try_from.result c.ok.result c.in_ok-number.ensures.fits c.in_ok-number.ensures.found c.try_from.ensures c.ok.ensures.value)
