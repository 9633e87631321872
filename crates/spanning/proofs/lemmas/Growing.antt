-- How the part grows, and what it is when nothing leaves it.
use Rattle.std.proofs.Common.{ℕ, ◌≡◌, ◌+◌, ◌<◌, ◌≤◌, Bool, true, false, not, List, length, Some, slice_get, set, replicate, count_by, ◌⊎◌, inl, inr, ⊎_elim, ap, ◌∙◌, sym, subst, arith, All, get_or, refl}
use Rattle.std.proofs.lemmas.Bool.{cases_eq, cases_Bool, both_ways}
use Rattle.std.proofs.lemmas.List.{length-set, length-replicate}
use Rattle.std.proofs.lemmas.List.Sums.{sum_by-set}
use Rattle.std.proofs.lemmas.Option.{slice_get_within, same_Some, get_or_from_slice_get}
use Rattle.net_graph.specs.EntryLaws.{has-none, none_set}
use Rattle.net_graph.specs.Flags.{has}
use Rattle.net_graph.specs.Network.{HasEnds}
use Rattle.net_graph.specs.Search.{Leads}
use Rattle.net_graph.specs.SearchLaws.{Leads-start, Leads-more, Leads-keeps}
use Rattle.spanning.specs.declared.pair.Pair.{Pair}
use Rattle.spanning.specs.Joining.{edge_of, Hop, JoinsBelow, total_of, all_of}
use Rattle.spanning.specs.JoiningLaws.{Leads-hops_more, total_of-within}
use Rattle.spanning.specs.Leaving.{HasNumbersBelow, NoneLeaves, IsShortestLeaving}
use Rattle.spanning.specs.Part.{IsNoWorse, IsPart}
use Rattle.spanning.proofs.lemmas.Flags.{slice_get-set_same, slice_get-set_other, has-set_same, has-set_true, has-set_cases}
use Rattle.spanning.proofs.lemmas.Crossing.{LeavesFrom, leaves-from_ends, second_out, second_in}
use Rattle.spanning.proofs.lemmas.Exchange.{IsNoWorse-more}

-- the part of 0 alone, with nothing chosen
pub IsPart-of_zero : (n : ℕ) (pairs : List Pair) (inside chosen : List Bool) → 0 < n →
    inside ≡ set (replicate n false) 0 true →
    chosen ≡ replicate (length pairs) false → IsPart n pairs inside chosen
IsPart-of_zero n pairs inside chosen some inside_is chosen_is =
    grind (arith, none_set, length-replicate n false, length-set (replicate n false) 0 true, length-replicate (length pairs) false, has-set_same, Leads-start (Hop pairs chosen) 0, both_ways, has-none, has-set_cases)

-- the part with one more pair, the shortest that leaves it
pub IsPart-more : (n : ℕ) (pairs : List Pair) (inside chosen : List Bool) (k : ℕ) →
    IsPart n pairs inside chosen →
    (shortest : IsShortestLeaving pairs inside (length pairs) k) → (from : LeavesFrom inside shortest.pair) →
    from.outer < n →
    IsPart n pairs (set inside from.outer true) (set chosen k true)
IsPart-more n pairs inside chosen k part shortest from below =
    let k_in : k < length chosen = omega (arith, slice_get_within pairs k shortest.pair shortest.here, part.size) in
    let o_in : from.outer < length inside = omega (arith, part.numbers) in
    let Step = Hop pairs (set chosen k true) in
    let kept : (i : ℕ) → Leads (Hop pairs chosen) 0 i → Leads Step 0 i =
    λ i led. Leads-hops_more pairs chosen (set chosen k true) (λ g is. has-set_true chosen k g k_in is) 0 i led in
    let put : slice_get (set chosen k true) k ≡ Some true = slice_get-set_same chosen k true k_in in
    let to_outer : Leads Step 0 from.outer =
    Leads-more Step 0 from.inner from.outer (kept from.inner (part.chains from.inner from.inner_in)) (k, shortest.pair, put, shortest.here, from.ends) in
    let outer_in : has (set inside from.outer true) from.outer ≡ true = has-set_same inside from.outer o_in in
    let inner_in : has (set inside from.outer true) from.inner ≡ true = has-set_true inside from.outer from.inner o_in from.inner_in in
    record {
      numbers = length-set inside from.outer true ∙ part.numbers;
      size = length-set chosen k true ∙ part.size;
      start = has-set_true inside from.outer 0 o_in part.start;
      chains = λ i is. ⊎_elim (λ (same : i ≡ from.outer). subst (λ v. Leads Step 0 v) (sym same) to_outer) (λ held. kept i (part.chains i held)) (has-set_cases inside from.outer i is);
      closed = λ g pair is at. elim (cases_eq g k) [
        | inl same ↦
            let one : shortest.pair ≡ pair = same_Some shortest.pair pair (sym shortest.here ∙ ap (slice_get pairs) (sym same) ∙ at) in
            let ends : HasEnds (edge_of pair) from.inner from.outer = subst (λ p. HasEnds (edge_of p) from.inner from.outer) one from.ends in
            ⊎_elim (λ along. (ap (has (set inside from.outer true)) along.0 ∙ inner_in, ap (has (set inside from.outer true)) along.1 ∙ outer_in))
            (λ against. (ap (has (set inside from.outer true)) against.0 ∙ outer_in, ap (has (set inside from.outer true)) against.1 ∙ inner_in)) ends
        | inr apart ↦
            let both = part.closed g pair (sym (slice_get-set_other chosen k g true apart) ∙ is) at in
            (has-set_true inside from.outer pair.a o_in both.0, has-set_true inside from.outer pair.b o_in both.1)
      ];
      least = λ other joins.
          let before : IsNoWorse n pairs chosen other = part.least other joins in
          let after : IsNoWorse n pairs (set chosen k true) before.set = IsNoWorse-more n pairs inside chosen before.set k part shortest from below before.joins before.includes in
          record { set = after.set; joins = after.joins; includes = after.includes; total = omega (arith, after.total, before.total) };
    }

-- one number fewer is outside
pub outside-less : (inside : List Bool) (i : ℕ) → i < length inside → has inside i ≡ false →
    count_by not (set inside i true) + 1 ≡ count_by not inside
outside-less inside i within out = grind (arith, sum_by-set)

-- where the part has all numbers, its chosen pairs join
pub JoinsBelow-from_part : (n : ℕ) (pairs : List Pair) (inside chosen : List Bool) → IsPart n pairs inside chosen →
    ((i : ℕ) → i < length inside → has inside i ≡ true) → JoinsBelow n pairs chosen
JoinsBelow-from_part n pairs inside chosen part full = grind arith

-- .. and no set that joins is shorter
pub least-from_part : (n : ℕ) (pairs : List Pair) (inside chosen other : List Bool) →
    IsPart n pairs inside chosen → JoinsBelow n pairs other → total_of pairs chosen ≤ total_of pairs other
least-from_part n pairs inside chosen other part joins =
    grind (arith, total_of-within pairs chosen (part.least other joins).set (part.least other joins).includes)

-- a hop from inside stays inside where no pair leaves
hop_stays : (pairs : List Pair) (inside set : List Bool) → NoneLeaves pairs inside (length pairs) →
    (u w : ℕ) → has inside u ≡ true → Hop pairs set u w → has inside w ≡ true
hop_stays pairs inside set none u w u_in (k, pair, is, at, ends) =
    grind (arith, cases_Bool (has inside w), both_ways, none k pair (slice_get_within pairs k pair at), slice_get_within pairs k pair, leaves-from_ends)

-- where nothing leaves a part that lacks a number, nothing joins
pub none-from_part : (n : ℕ) (pairs : List Pair) (inside chosen : List Bool) → IsPart n pairs inside chosen →
    NoneLeaves pairs inside (length pairs) →
    (((i : ℕ) → i < length inside → has inside i ≡ true) → ⊥) → ¬ JoinsBelow n pairs (all_of pairs)
none-from_part n pairs inside chosen part none lacks joins =
    lacks (λ i below. Leads-keeps (Hop pairs (all_of pairs)) (λ v. has inside v ≡ true) 0 i part.start (λ u w u_in hop. hop_stays pairs inside (all_of pairs) none u w u_in hop) (joins.chains i (omega (arith, part.numbers))))

-- the pair at a place that is the shortest to leave is taken in, and with it its number outside
pub taken-in : (n : ℕ) (pairs : List Pair) (inside chosen : List Bool) (k outer : ℕ) (d : Pair) →
    IsPart n pairs inside chosen →
    IsShortestLeaving pairs inside (length pairs) k → All (HasNumbersBelow n) pairs →
    (((has inside (get_or pairs k d).a ≡ true) × (outer ≡ (get_or pairs k d).b)) ⊎ ((has inside (get_or pairs k d).a ≡ false) × (outer ≡ (get_or pairs k d).a))) →
    IsPart n pairs (set inside outer true) (set chosen k true) × (outer < n) × (has inside outer ≡ false)
taken-in n pairs inside chosen k outer d part shortest ends either =
    let one : get_or pairs k d ≡ shortest.pair = get_or_from_slice_get pairs k shortest.pair d shortest.here in
    let both : HasNumbersBelow n shortest.pair = subst (HasNumbersBelow n) one (ends k d (slice_get_within pairs k shortest.pair shortest.here)) in
    let with_outer : (from : LeavesFrom inside shortest.pair) → from.outer < n → outer ≡ from.outer → IsPart n pairs (set inside outer true) (set chosen k true) × (outer < n) × (has inside outer ≡ false) =
    λ from below same. (
      subst (λ o. IsPart n pairs (set inside o true) (set chosen k true)) (sym same) (IsPart-more n pairs inside chosen k part shortest from below),
      subst (λ o. o < n) (sym same) below,
      ap (has inside) same ∙ from.outer_out,
    ) in
    ⊎_elim (λ first.
    let a_in : has inside shortest.pair.a ≡ true = ap (λ (p : Pair). has inside p.a) (sym one) ∙ first.0 in
    with_outer
    record { inner = shortest.pair.a; outer = shortest.pair.b; ends = inl (refl, refl); inner_in = a_in; outer_out = second_out inside shortest.pair shortest.leaving a_in }
    both.b (first.1 ∙ ap (λ (p : Pair). p.b) one))
    (λ second.
    let a_out : has inside shortest.pair.a ≡ false = ap (λ (p : Pair). has inside p.a) (sym one) ∙ second.0 in
    with_outer
    record { inner = shortest.pair.b; outer = shortest.pair.a; ends = inr (refl, refl); inner_in = second_in inside shortest.pair shortest.leaving a_out; outer_out = a_out }
    both.a (second.1 ∙ ap (λ (p : Pair). p.a) one)) either
