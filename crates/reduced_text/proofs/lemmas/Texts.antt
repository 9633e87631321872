-- Texts of lists and sets, item after item.
use Rattle.std.specs.Prelude.{ℕ, zero, suc, ◌≡◌, ◌+◌, ◌<◌, ◌≤◌, Bool, true, false, List, [], ◌∷◌, ◌++◌, flat_map, length, take, slice_get, Some, if◌then◌else◌}
use Rattle.std.proofs.Common.{sym, ap, ◌∙◌, append_assoc, arith, length-append}
use Rattle.std.proofs.lemmas.Grind.{flat_map-append}
use Rattle.std.proofs.lemmas.List.{append-nil, take_more}
use Rattle.std.proofs.lemmas.Option.{get_or_from_slice_get, same_Some, slice_get_within}
use Rattle.net_graph.specs.declared.edge.Edge.{Edge}
use Rattle.net_graph.specs.Flags.{has}
use Rattle.net_graph.specs.Members.{members_from, members_of}
use Rattle.net_graph.specs.MembersLaws.{members_of-more}
use Rattle.reduced_text.specs.Text.{left_line, left_lines, number_line}

-- one flag more: the text of a number where it is set
pub members_with : (f : ℕ → List ℕ) (set : List Bool) (n : ℕ) → n < length set → has set n ≡ true →
    flat_map f (members_of (take n set)) ++ f n ≡ flat_map f (members_of (take (n + 1) set))
members_with f set n below is =
    grind (arith, members_of-more set n below, flat_map-append f (members_of (take n set)) (n ∷ []), append-nil (f n), f n)

pub members_without : (set : List Bool) (n : ℕ) → n < length set → has set n ≡ false →
    members_of (take n set) ≡ members_of (take (n + 1) set)
members_without set n below is = sym (members_of-more set n below
    ∙ ap (λ b. members_of (take n set) ++ (if b then n ∷ [] else [])) is ∙ append-nil (members_of (take n set)))

-- one edge more
left_lines-suc : (edges : List Edge) (sets : List (List Bool)) (n : ℕ) (e : Edge) (set : List Bool) →
    slice_get edges n ≡ Some e → slice_get sets n ≡ Some set →
    left_lines (take n edges) (take n sets) ++ left_line e set ≡
    left_lines (take (suc n) edges) (take (suc n) sets)
left_lines-suc [] sets n e set at set_at = absurd cc
left_lines-suc (d ∷ edges) [] n e set at set_at = absurd cc
left_lines-suc (d ∷ edges) (t ∷ sets) zero e set at set_at =
    grind (arith, same_Some d e, same_Some t set set_at, append-nil (left_line d t))
left_lines-suc (d ∷ edges) (t ∷ sets) (suc n) e set at set_at =
    grind (arith, append_assoc (left_line d t) (left_lines (take n edges) (take n sets)) (left_line e set), left_lines-suc edges sets n e set)

pub left_lines-more : (edges : List Edge) (sets : List (List Bool)) (n : ℕ) (e : Edge) (set : List Bool) →
    slice_get edges n ≡ Some e → slice_get sets n ≡ Some set →
    left_lines (take n edges) (take n sets) ++ left_line e set ≡
    left_lines (take (n + 1) edges) (take (n + 1) sets)
left_lines-more edges sets n e set at set_at = left_lines-suc edges sets n e set at set_at
    ∙ ap (λ m. left_lines (take m edges) (take m sets)) (let next : suc n ≡ n + 1 = omega arith in next)

-- .. and how many there are
pub count_with : (set : List Bool) (n : ℕ) → n < length set → has set n ≡ true →
    length (members_of (take n set)) + 1 ≡ length (members_of (take (n + 1) set))
count_with set n below is = grind (arith, members_of-more set n below, length-append (members_of (take n set)) (n ∷ []))

-- .. at most as many as the numbers that were looked at
few_members_from : (n : ℕ) (set : List Bool) (k : ℕ) → length (members_from n (take k set)) ≤ k
few_members_from n [] zero = omega arith
few_members_from n [] (suc k) = omega arith
few_members_from n (true ∷ set) zero = omega arith
few_members_from n (false ∷ set) zero = omega arith
few_members_from n (true ∷ set) (suc k) = omega (arith, few_members_from (n + 1) set k)
few_members_from n (false ∷ set) (suc k) = omega (arith, few_members_from (n + 1) set k)

pub few_members : (set : List Bool) (k : ℕ) → length (members_of (take k set)) ≤ k
few_members set k = few_members_from 0 set k

-- one number more
pub number_more : (ns : List ℕ) (k n : ℕ) → slice_get ns k ≡ Some n →
    flat_map number_line (take k ns) ++ number_line n ≡ flat_map number_line (take (k + 1) ns)
number_more ns k n at =
    grind (arith, take_more ns k n (slice_get_within ns k n at), slice_get_within ns k n, get_or_from_slice_get ns k n n, flat_map-append number_line (take k ns) (n ∷ []), append-nil (number_line n))
