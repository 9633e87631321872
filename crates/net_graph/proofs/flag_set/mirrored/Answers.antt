use Rattle.std.proofs.Common.{ℕ, zero, suc, ◌≡◌, ◌<◌, [], ◌∷◌, get_or, eqb, refl, arith}
use Rattle.std.specs.Int.{bit_at}
use Rattle.net_graph.specs.Flags.{flag_of_four}
use Rattle.net_graph.proofs.lemmas.FlagFours.{at_number}
use Rattle.net_graph.proofs.flag_set.mirrored.Goals as goal

-- a flag of four, by the table
flag_by_table : (value r : ℕ) → value < 16 → r < 4 →
    eqb (bit_at (get_or {A = ℕ} (0 ∷ 8 ∷ 4 ∷ 12 ∷ 2 ∷ 10 ∷ 6 ∷ 14 ∷ 1 ∷ 9 ∷ 5 ∷ 13 ∷ 3 ∷ 11 ∷ 7 ∷ 15 ∷ []) value 0) r) 1 ≡ flag_of_four value r
flag_by_table value zero below low = at_number (λ v. eqb (bit_at (get_or {A = ℕ} (0 ∷ 8 ∷ 4 ∷ 12 ∷ 2 ∷ 10 ∷ 6 ∷ 14 ∷ 1 ∷ 9 ∷ 5 ∷ 13 ∷ 3 ∷ 11 ∷ 7 ∷ 15 ∷ []) v 0) 0) 1) (λ v. flag_of_four v 0) 16 refl value below
flag_by_table value (suc zero) below low = at_number (λ v. eqb (bit_at (get_or {A = ℕ} (0 ∷ 8 ∷ 4 ∷ 12 ∷ 2 ∷ 10 ∷ 6 ∷ 14 ∷ 1 ∷ 9 ∷ 5 ∷ 13 ∷ 3 ∷ 11 ∷ 7 ∷ 15 ∷ []) v 0) 1) 1) (λ v. flag_of_four v 1) 16 refl value below
flag_by_table value (suc (suc zero)) below low = at_number (λ v. eqb (bit_at (get_or {A = ℕ} (0 ∷ 8 ∷ 4 ∷ 12 ∷ 2 ∷ 10 ∷ 6 ∷ 14 ∷ 1 ∷ 9 ∷ 5 ∷ 13 ∷ 3 ∷ 11 ∷ 7 ∷ 15 ∷ []) v 0) 2) 1) (λ v. flag_of_four v 2) 16 refl value below
flag_by_table value (suc (suc (suc zero))) below low = at_number (λ v. eqb (bit_at (get_or {A = ℕ} (0 ∷ 8 ∷ 4 ∷ 12 ∷ 2 ∷ 10 ∷ 6 ∷ 14 ∷ 1 ∷ 9 ∷ 5 ∷ 13 ∷ 3 ∷ 11 ∷ 7 ∷ 15 ∷ []) v 0) 3) 1) (λ v. flag_of_four v 3) 16 refl value below
flag_by_table value (suc (suc (suc (suc r)))) below low = absurd (omega arith)

pub returns-clause-flags : goal.returns-clause-flags
returns-clause-flags c r low = flag_by_table c.args.value r c.requires low
