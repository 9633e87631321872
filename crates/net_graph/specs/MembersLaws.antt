-- Laws of the numbers of a set.
use Rattle.std.specs.Prelude.{ℕ, ◌+◌, ◌<◌, ◌≡◌, Bool, true, false, List, [], ◌∷◌, ◌++◌, length, take, if◌then◌else◌}
use Rattle.std.proofs.Common.{refl, ap, ◌∙◌, get_or, arith, length-take}
use Rattle.std.proofs.lemmas.List.{take_more}
use Rattle.net_graph.specs.Flags.{has}
use Rattle.net_graph.specs.Members.{members_from, members_of}

-- the numbers of two runs of flags, one after another
pub members_from-append : (n : ℕ) (xs ys : List Bool) → members_from n (xs ++ ys) ≡ members_from n xs ++
    members_from (n + length xs) ys
members_from-append n [] ys = ap (λ k. members_from k ys) (omega arith)
members_from-append n (true ∷ xs) ys = ap (λ zs. n ∷ zs) (members_from-append (n + 1) xs ys)
    ∙ ap (λ k. n ∷ members_from (n + 1) xs ++ members_from k ys) (omega arith)
members_from-append n (false ∷ xs) ys = members_from-append (n + 1) xs ys
    ∙ ap (λ k. members_from (n + 1) xs ++ members_from k ys) (omega arith)

-- the number of one more flag
flag_more : (n : ℕ) (flag : Bool) → members_from n (flag ∷ []) ≡ (if flag then n ∷ [] else [])
flag_more n true = refl
flag_more n false = refl

-- the numbers of the first flags and the one after them
pub members_of-more : (set : List Bool) (n : ℕ) → n < length set → members_of (take (n + 1) set) ≡
    members_of (take n set) ++ (if has set n then n ∷ [] else [])
members_of-more set n within =
    grind (
      arith,
      take_more set n false within,
      members_from-append 0 (take n set) (get_or set n false ∷ []),
      length-take n set,
      flag_more n (get_or set n false),
    )
