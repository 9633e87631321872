-- The numbers of a set of edges to which a number above all others is added.
use Rattle.std.proofs.Common.{ℕ, suc, zero, ◌≡◌, ◌+◌, ◌<◌, Bool, true, false, List, [], ◌∷◌, ◌++◌, length, set}
use Rattle.std.proofs.Common.{replicate}
use Rattle.std.proofs.Common.{refl, sym, ap, ◌∙◌, arith}
use Rattle.net_graph.specs.Flags.{has}
use Rattle.net_graph.specs.Members.{members_from, members_of}

-- a set with no member has no numbers
members_from-none : (n : ℕ) (flags : List Bool) → ((m : ℕ) → has flags m ≡ true → ⊥) → members_from n flags ≡ []
members_from-none n [] none = refl
members_from-none n (true ∷ flags) none = absurd (none 0 refl)
members_from-none n (false ∷ flags) none = members_from-none (n + 1) flags (λ m held. none (suc m) held)

-- as when no flag is set
members_from-replicate : (n count : ℕ) → members_from n (replicate count false) ≡ []
members_from-replicate n zero = refl
members_from-replicate n (suc count) = members_from-replicate (n + 1) count

pub members_of-empty : (count : ℕ) → members_of (replicate count false) ≡ []
members_of-empty count = members_from-replicate 0 count

-- a member above all others is the last number
members_from-above : (n : ℕ) (flags : List Bool) (e : ℕ) → e < length flags → ((m : ℕ) → has flags m ≡ true →
    m < e) → members_from n (set flags e true) ≡ members_from n flags ++ (n + e) ∷ []
members_from-above n [] e within above = absurd (omega arith)
members_from-above n (true ∷ flags) zero within above = absurd (omega (arith, above 0 refl))
members_from-above n (false ∷ flags) zero within above =
    let none : members_from (n + 1) flags ≡ [] = members_from-none (n + 1) flags
    (λ m held. absurd (omega (arith, above (suc m) held))) in
    let here : n ≡ n + 0 = omega arith in
    ap (λ ns. n ∷ ns) none ∙ ap (λ k. k ∷ []) here ∙ sym (ap (λ ns. ns ++ (n + 0) ∷ []) none)
members_from-above n (true ∷ flags) (suc e) within above =
    let later : members_from (n + 1) (set flags e true) ≡ members_from (n + 1) flags ++
    (n + 1 + e) ∷ [] = members_from-above (n + 1) flags e (omega arith)
    (λ m held. omega (arith, above (suc m) held)) in
    let here : n + 1 + e ≡ n + suc e = omega arith in
    ap (λ ns. n ∷ ns) (later ∙ ap (λ k. members_from (n + 1) flags ++ k ∷ []) here)
members_from-above n (false ∷ flags) (suc e) within above =
    let later : members_from (n + 1) (set flags e true) ≡ members_from (n + 1) flags ++
    (n + 1 + e) ∷ [] = members_from-above (n + 1) flags e (omega arith)
    (λ m held. omega (arith, above (suc m) held)) in
    let here : n + 1 + e ≡ n + suc e = omega arith in
    later ∙ ap (λ k. members_from (n + 1) flags ++ k ∷ []) here

pub members_of-above : (flags : List Bool) (e : ℕ) → e < length flags → ((m : ℕ) → has flags m ≡ true → m < e) →
    members_of (set flags e true) ≡ members_of flags ++ e ∷ []
members_of-above flags e within above =
    let here : 0 + e ≡ e = omega arith in
    members_from-above 0 flags e within above ∙ ap (λ k. members_of flags ++ k ∷ []) here
