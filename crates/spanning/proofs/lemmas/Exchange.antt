-- The exchange of a pair for one that leaves the same part and is no longer.
use Rattle.std.proofs.Common.{ℕ, ◌≡◌, ◌≢◌, ◌<◌, ◌≤◌, Bool, true, false, List, length, Some, slice_get, set, ◌⊎◌, inl, inr, ⊎_elim, ap, ◌∙◌, sym, subst, arith}
use Rattle.std.proofs.lemmas.Bool.{cases_eq, cases_Bool, both_ways}
use Rattle.std.proofs.lemmas.List.{length-set}
use Rattle.std.proofs.lemmas.Option.{slice_get_within, slice_get-get_or, same_Some}
use Rattle.net_graph.specs.Flags.{has, IsSubset}
use Rattle.net_graph.specs.Joins.{slice_get-has, has-slice_get}
use Rattle.net_graph.specs.Network.{HasEnds}
use Rattle.net_graph.specs.Search.{Leads}
use Rattle.net_graph.specs.SearchLaws.{Leads-start, Leads-more, Leads-keeps, Leads-trans, Leads-weaker}
use Rattle.spanning.specs.declared.pair.Pair.{Pair}
use Rattle.spanning.specs.Joining.{edge_of, Hop, JoinsBelow, total_of}
use Rattle.spanning.specs.JoiningLaws.{Leads-hops_back, Leads-hops_more, total_of-add, total_of-remove}
use Rattle.spanning.specs.Leaving.{IsShortestLeaving}
use Rattle.spanning.specs.Part.{IsNoWorse, IsPart}
use Rattle.spanning.proofs.lemmas.Flags.{slice_get-set_same, slice_get-set_other, slice_get-set_true, has-set_same, has-set_cases}
use Rattle.spanning.proofs.lemmas.Crossing.{OutsideStep, LastLeaving, last_leaving, LeavesFrom, leaves-from_ends}

-- the set with one pair in place of another
abbrev pub exchanged : List Bool → ℕ → ℕ → List Bool
exchanged other f k = set (set other f false) k true

-- a pair other than the one that was taken out is still there
exchanged-keeps : (other : List Bool) (f k g : ℕ) → g ≢ f → slice_get other g ≡ Some true →
    slice_get (exchanged other f k) g ≡ Some true
exchanged-keeps other f k g apart is = slice_get-set_true (set other f false) k g (slice_get-set_other other f g false apart ∙ is)

-- what two pairs of numbers have in common where they are the ends of one edge
same_ends : (pair : Pair) (x y i j : ℕ) → HasEnds (edge_of pair) x y → HasEnds (edge_of pair) i j →
    ((x ≡ i) × (y ≡ j)) ⊎ ((x ≡ j) × (y ≡ i))
same_ends pair x y i j first second = grind arith

-- What an exchange rests on: the pair k leaves the part and is not in the other set, and the pair f of the other
-- set is the last to leave the part on the way to the outer number of the pair k.
record Exchanges (n : ℕ) (pairs : List Pair) (inside chosen other : List Bool) (k f : ℕ) : Type 0 where
  part : IsPart n pairs inside chosen
  joins : JoinsBelow n pairs other
  includes : IsSubset chosen other
  pair : Pair
  here : slice_get pairs k ≡ Some pair
  from : LeavesFrom inside pair
  out : Pair
  out_here : slice_get pairs f ≡ Some out
  held : slice_get other f ≡ Some true
  absent : slice_get other k ≡ Some false
  x : ℕ
  y : ℕ
  ends : HasEnds (edge_of out) x y
  x_in : has inside x ≡ true
  y_out : has inside y ≡ false
  rest : Leads (OutsideStep (Hop pairs other) inside) y from.outer

-- a chosen pair stays, since both its numbers are inside
keeps_chosen : (n : ℕ) (pairs : List Pair) (inside chosen other : List Bool) (k f : ℕ) →
    Exchanges n pairs inside chosen other k f → IsSubset chosen (exchanged other f k)
keeps_chosen n pairs inside chosen other k f e g is =
    has-slice_get (exchanged other f k) g (exchanged-keeps other f k g
    (λ same.
    let both = e.part.closed f e.out (ap (slice_get chosen) (sym same) ∙ slice_get-has chosen g is) e.out_here in
    ⊎_elim (λ along. both_ways (has inside e.y) e.y_out (ap (has inside) (sym along.1) ∙ both.1))
    (λ against. both_ways (has inside e.y) e.y_out (ap (has inside) (sym against.0) ∙ both.0)) e.ends)
    (slice_get-has other g (e.includes g is)))

-- a hop outside the part stays, since a number of the pair that was taken out is inside
keeps_outside : (n : ℕ) (pairs : List Pair) (inside chosen other : List Bool) (k f : ℕ) →
    Exchanges n pairs inside chosen other k f →
    (u w : ℕ) → OutsideStep (Hop pairs other) inside u w → Hop pairs (exchanged other f k) u w
keeps_outside n pairs inside chosen other k f e u w ((g, pair, is, at, ends), u_out, w_out) =
    grind (arith, exchanged-keeps, same_Some, both_ways, same_ends)

-- the numbers of the pair that was taken out are linked without it
still_linked : (n : ℕ) (pairs : List Pair) (inside chosen other : List Bool) (k f : ℕ) →
    (e : Exchanges n pairs inside chosen other k f) →
    Leads (Hop pairs (exchanged other f k)) e.x e.y
still_linked n pairs inside chosen other k f e =
    let better = exchanged other f k in
    let Step = Hop pairs better in
    let within : k < length (set other f false) = omega (arith, slice_get_within other k false e.absent, length-set other f false) in
    let put : slice_get better k ≡ Some true = slice_get-set_same (set other f false) k true within in
    let to_x : Leads Step 0 e.x = Leads-hops_more pairs chosen better (keeps_chosen n pairs inside chosen other k f e) 0 e.x (e.part.chains e.x e.x_in) in
    let to_inner : Leads Step 0 e.from.inner = Leads-hops_more pairs chosen better (keeps_chosen n pairs inside chosen other k f e) 0 e.from.inner (e.part.chains e.from.inner e.from.inner_in) in
    let to_outer : Leads Step 0 e.from.outer = Leads-more Step 0 e.from.inner e.from.outer to_inner (k, e.pair, put, e.here, e.from.ends) in
    let beyond : Leads Step e.y e.from.outer = Leads-weaker (OutsideStep (Hop pairs other) inside) Step (keeps_outside n pairs inside chosen other k f e) e.y e.from.outer e.rest in
    Leads-trans Step e.x 0 e.y (Leads-hops_back pairs better 0 e.x to_x) (Leads-trans Step 0 e.from.outer e.y to_outer (Leads-hops_back pairs better e.y e.from.outer beyond))

-- a hop of the other set is a chain after the exchange
hop_linked : (n : ℕ) (pairs : List Pair) (inside chosen other : List Bool) (k f : ℕ) →
    Exchanges n pairs inside chosen other k f →
    (u w : ℕ) → Hop pairs other u w → Leads (Hop pairs (exchanged other f k)) u w
hop_linked n pairs inside chosen other k f e u w (g, pair, is, at, ends) =
    let Step = Hop pairs (exchanged other f k) in
    let linked : Leads Step e.x e.y = still_linked n pairs inside chosen other k f e in
    elim (cases_eq g f) [
      | inl same ↦
          let one : pair ≡ e.out = same_Some pair e.out (sym at ∙ ap (slice_get pairs) same ∙ e.out_here) in
          let ends_too : HasEnds (edge_of e.out) u w = subst (λ p. HasEnds (edge_of p) u w) one ends in
          ⊎_elim (λ along. subst (λ a. Leads Step a w) along.0 (subst (λ b. Leads Step e.x b) along.1 linked))
          (λ against. subst (λ b. Leads Step u b) against.0 (subst (λ a. Leads Step a e.x) against.1 (Leads-hops_back pairs (exchanged other f k) e.x e.y linked)))
          (same_ends e.out e.x e.y u w e.ends ends_too)
      | inr apart ↦ Leads-more Step u u w (Leads-start Step u) (g, pair, exchanged-keeps other f k g apart is, at, ends)
    ]

-- the set still joins
exchanged-joins : (n : ℕ) (pairs : List Pair) (inside chosen other : List Bool) (k f : ℕ) →
    Exchanges n pairs inside chosen other k f →
    JoinsBelow n pairs (exchanged other f k)
exchanged-joins n pairs inside chosen other k f e = record {
  size = length-set (set other f false) k true ∙ length-set other f false ∙ e.joins.size;
  chains = λ i below.
      Leads-keeps (Hop pairs other) (λ v. Leads (Hop pairs (exchanged other f k)) 0 v) 0 i (Leads-start (Hop pairs (exchanged other f k)) 0)
      (λ u w so_far hop. Leads-trans (Hop pairs (exchanged other f k)) 0 u w so_far (hop_linked n pairs inside chosen other k f e u w hop)) (e.joins.chains i below);
}

-- .. and holds all chosen pairs and the one that was put in
exchanged-includes : (n : ℕ) (pairs : List Pair) (inside chosen other : List Bool) (k f : ℕ) →
    Exchanges n pairs inside chosen other k f → IsSubset (set chosen k true) (exchanged other f k)
exchanged-includes n pairs inside chosen other k f e g is =
    let within : k < length (set other f false) = omega (arith, slice_get_within other k false e.absent, length-set other f false) in
    ⊎_elim (λ (same : g ≡ k). ap (has (exchanged other f k)) same ∙ has-set_same (set other f false) k within)
    (λ held. keeps_chosen n pairs inside chosen other k f e g held) (has-set_cases chosen k g is)

-- .. and is no longer, where the pair that was put in is no longer than the one that was taken out
exchanged-total : (n : ℕ) (pairs : List Pair) (inside chosen other : List Bool) (k f : ℕ) →
    (e : Exchanges n pairs inside chosen other k f) →
    e.pair.length ≤ e.out.length → total_of pairs (exchanged other f k) ≤ total_of pairs other
exchanged-total n pairs inside chosen other k f e no_longer =
    grind (arith, slice_get-set_other, total_of-add, total_of-remove pairs other f e.out e.held e.out_here)

-- the pair that is the shortest to leave the part is taken into a set that joins, which gets no longer
pub IsNoWorse-more : (n : ℕ) (pairs : List Pair) (inside chosen other : List Bool) (k : ℕ) →
    IsPart n pairs inside chosen →
    (shortest : IsShortestLeaving pairs inside (length pairs) k) → (from : LeavesFrom inside shortest.pair) →
    from.outer < n →
    JoinsBelow n pairs other → IsSubset chosen other → IsNoWorse n pairs (set chosen k true) other
IsNoWorse-more n pairs inside chosen other k part shortest from below joins includes =
    let k_in : k < length other = omega (arith, slice_get_within pairs k shortest.pair shortest.here, joins.size) in
    elim (cases_Bool (has other k)) [
      | inl held ↦ record {
        set = other;
        joins = joins;
        includes = λ g is.
            ⊎_elim (λ (same : g ≡ k). ap (has other) same ∙ held) (λ before. includes g before) (has-set_cases chosen k g is);
        total = omega arith;
      }
      | inr absent ↦
          let walk : Leads (Hop pairs other) 0 from.outer = joins.chains from.outer below in
          let last : LastLeaving (Hop pairs other) inside from.outer = last_leaving (Hop pairs other) inside 0 part.start walk.0 from.outer walk.1 from.outer_out in
          let f : ℕ = last.step.0 in
          let out : Pair = last.step.1 in
          let e : Exchanges n pairs inside chosen other k f = record {
            part = part;
            joins = joins;
            includes = includes;
            pair = shortest.pair;
            here = shortest.here;
            from = from;
            out = out;
            out_here = last.step.3;
            held = last.step.2;
            absent = slice_get-get_or other k false k_in ∙ ap Some absent;
            x = last.x;
            y = last.y;
            ends = last.step.4;
            x_in = last.x_in;
            y_out = last.y_out;
            rest = last.rest;
          } in
          record {
            set = exchanged other f k;
            joins = exchanged-joins n pairs inside chosen other k f e;
            includes = exchanged-includes n pairs inside chosen other k f e;
            total = exchanged-total n pairs inside chosen other k f e
                (shortest.shortest f out (slice_get_within pairs f out last.step.3) last.step.3 (leaves-from_ends inside out last.x last.y last.step.4 last.x_in last.y_out));
          }
    ]
