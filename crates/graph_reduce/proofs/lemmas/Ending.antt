-- Edges that are left, by their places and by their new numbers; nodes that are left, and their new numbers.
use Rattle.std.specs.Prelude.{ℕ, zero, suc, ◌≡◌, ◌+◌, ◌⊎◌, Bool, true, false, List, [], ◌∷◌, map, slice_get, slice_index_or, Option, Some, None}
use Rattle.std.proofs.Common.{refl, ap, ◌∙◌, inl, inr, ⊎_elim, arith}
use Rattle.std.proofs.lemmas.Option.{same_Some, get_or_from_slice_get}
use Rattle.net_graph.specs.Flags.{has}
use Rattle.net_graph.specs.Members.{members_from, members_of}
use Rattle.net_graph.specs.Network.{length_of_edges}
use Rattle.graph_reduce.specs.State.{Bundle}
use Rattle.graph_reduce.specs.Reduction.{bundles_left, number_among, renumbered, union_of}
use Rattle.graph_reduce.proofs.lemmas.Keeping.{Carries}
use Rattle.graph_reduce.proofs.lemmas.Lengths.{part_none, length_in, length_in-nothing}
use Rattle.graph_reduce.proofs.lemmas.Unions.{union_cases, union_left, union_right}

-- ---- numbers of nodes

-- a number of the set stands where its new number says
pub member_at : (n : ℕ) (flags : List Bool) (v : ℕ) → slice_get flags v ≡ Some true →
    slice_get (members_from n flags) (number_among flags v) ≡ Some (n + v)
member_at n [] v is = absurd cc
member_at n (true ∷ flags) zero is = ap Some (omega arith)
member_at n (true ∷ flags) (suc v) is = member_at (n + 1) flags v is ∙ ap Some (omega arith)
member_at n (false ∷ flags) zero is = absurd cc
member_at n (false ∷ flags) (suc v) is = member_at (n + 1) flags v is ∙ ap Some (omega arith)

-- the node that a vertex of the reduced graph was
abbrev pub node_of : List Bool → ℕ → ℕ
node_of nodes v = slice_index_or (members_of nodes) v 0

pub node_of-number : (nodes : List Bool) (v : ℕ) → slice_get nodes v ≡ Some true →
    node_of nodes (number_among nodes v) ≡ v
node_of-number nodes v is =
    get_or_from_slice_get (members_of nodes) (number_among nodes v) (0 + v) 0 (member_at 0 nodes v is) ∙ omega arith

-- ---- sets of the reduced graph's edges, and choices of places

-- the places of a set
abbrev pub spread : List (Option Bundle) → List Bool → ℕ → Bool
spread [] set n = false
spread (None ∷ xs) set zero = false
spread (None ∷ xs) set (suc n) = spread xs set n
spread (Some x ∷ xs) [] n = false
spread (Some x ∷ xs) (flag ∷ set) zero = flag
spread (Some x ∷ xs) (flag ∷ set) (suc n) = spread xs set n

-- the set of a choice of places
abbrev pub gathered : List (Option Bundle) → (ℕ → Bool) → List Bool
gathered [] F = []
gathered (None ∷ xs) F = gathered xs (λ n. F (suc n))
gathered (Some x ∷ xs) F = F 0 ∷ gathered xs (λ n. F (suc n))

-- an edge of a set stands at a chosen place
pub record IsSpread (xs : List (Option Bundle)) (set : List Bool) (x : Bundle) : Type 0 where
  pub place : ℕ
  pub at : slice_get xs place ≡ Some (Some x)
  pub chosen : spread xs set place ≡ true

pub spread_from : (xs : List (Option Bundle)) (set : List Bool) (k : ℕ) (x : Bundle) →
    slice_get (bundles_left xs) k ≡ Some x → slice_get set k ≡ Some true → IsSpread xs set x
spread_from [] set k x at is = absurd cc
spread_from (None ∷ xs) set k x at is =
    let rest = spread_from xs set k x at is in
    record { place = suc rest.place; at = rest.at; chosen = rest.chosen }
spread_from (Some y ∷ xs) [] k x at is = absurd cc
spread_from (Some y ∷ xs) (flag ∷ set) zero x at is = grind arith
spread_from (Some y ∷ xs) (flag ∷ set) (suc k) x at is =
    let rest = spread_from xs set k x at is in
    record { place = suc rest.place; at = rest.at; chosen = rest.chosen }

-- .. and a chosen place holds an edge of the set
pub record IsGathered (xs : List (Option Bundle)) (set : List Bool) (x : Bundle) : Type 0 where
  pub number : ℕ
  pub at : slice_get (bundles_left xs) number ≡ Some x
  pub inside : slice_get set number ≡ Some true

pub gathered_from : (xs : List (Option Bundle)) (F : ℕ → Bool) (n : ℕ) (x : Bundle) →
    slice_get xs n ≡ Some (Some x) → F n ≡ true → IsGathered xs (gathered xs F) x
gathered_from [] F n x at is = absurd cc
gathered_from (None ∷ xs) F zero x at is = let none = same_Some None (Some x) at in absurd cc
gathered_from (None ∷ xs) F (suc n) x at is = search (gathered_from xs (λ k. F (suc k)) n x at is)
gathered_from (Some y ∷ xs) F zero x at is = grind arith
gathered_from (Some y ∷ xs) F (suc n) x at is =
    let rest = gathered_from xs (λ k. F (suc k)) n x at is in
    record { number = suc rest.number; at = rest.at; inside = rest.inside }

-- both are of one length
pub length_spread : (nodes : List Bool) (xs : List (Option Bundle)) (set : List Bool) →
    length_of_edges (map (λ x. renumbered nodes x.edge) (bundles_left xs)) set ≡ length_in xs (spread xs set)
length_spread nodes [] set = refl
length_spread nodes (None ∷ xs) set = omega (arith, length_spread nodes xs set)
length_spread nodes (Some x ∷ xs) [] = omega (arith, length_in-nothing xs)
length_spread nodes (Some x ∷ xs) (true ∷ set) = omega (arith, length_spread nodes xs set)
length_spread nodes (Some x ∷ xs) (false ∷ set) = omega (arith, length_spread nodes xs set)

pub length_gathered : (nodes : List Bool) (xs : List (Option Bundle)) (F : ℕ → Bool) →
    length_of_edges (map (λ x. renumbered nodes x.edge) (bundles_left xs)) (gathered xs F) ≡ length_in xs F
length_gathered nodes [] F = refl
length_gathered nodes (None ∷ xs) F = omega (arith, part_none, length_gathered nodes xs (λ n. F (suc n)))
length_gathered nodes (Some x ∷ xs) F = grind (arith, length_gathered nodes xs (λ n. F (suc n)))

-- ---- what a set stands for

-- an edge at a later place
carries_later : (y : Option Bundle) (xs : List (Option Bundle)) (F : ℕ → Bool) (e : ℕ) →
    Carries xs (λ n. F (suc n)) e → Carries (y ∷ xs) F e
carries_later y xs F e c = search

-- a number of the union is in one of the sets, or in the one more
pub union_of_cases : (xs : List (Option Bundle)) (set more : List Bool) (e : ℕ) →
    has (union_of (map (λ x. x.originals) (bundles_left xs)) set more) e ≡ true →
    (has more e ≡ true) ⊎ Carries xs (spread xs set) e
union_of_cases [] set more e is = inl is
union_of_cases (None ∷ xs) set more e is = grind (arith, carries_later, union_of_cases xs set more e is)
union_of_cases (Some x ∷ xs) [] more e is = inl is
union_of_cases (Some x ∷ xs) (false ∷ set) more e is = grind (arith, carries_later, union_of_cases xs set more e is)
union_of_cases (Some x ∷ xs) (true ∷ set) more e is = ⊎_elim
    (λ (here : has x.originals e ≡ true). inr (record {
      place = zero;
      x = x;
      chosen = refl;
      at = refl;
      original = here;
    }))
    (λ (later : has (union_of (map (λ y. y.originals) (bundles_left xs)) set more) e ≡ true).
    ⊎_elim (λ (m : has more e ≡ true). inl m)
    (λ (c : Carries xs (spread xs set) e). inr (carries_later (Some x) xs (spread (Some x ∷ xs) (true ∷ set)) e c))
    (union_of_cases xs set more e later))
    (union_cases x.originals (union_of (map (λ y. y.originals) (bundles_left xs)) set more) e is)

-- .. and back
pub union_of_more : (xs : List (Option Bundle)) (set more : List Bool) (e : ℕ) → has more e ≡ true →
    has (union_of (map (λ x. x.originals) (bundles_left xs)) set more) e ≡ true
union_of_more [] set more e is = is
union_of_more (None ∷ xs) set more e is = union_of_more xs set more e is
union_of_more (Some x ∷ xs) [] more e is = is
union_of_more (Some x ∷ xs) (false ∷ set) more e is = union_of_more xs set more e is
union_of_more (Some x ∷ xs) (true ∷ set) more e is = search (union_right, union_of_more xs set more e is)

pub union_of_carried : (xs : List (Option Bundle)) (set more : List Bool) (e n : ℕ) (y : Bundle) →
    slice_get xs n ≡ Some (Some y) → spread xs set n ≡ true → has y.originals e ≡ true →
    has (union_of (map (λ x. x.originals) (bundles_left xs)) set more) e ≡ true
union_of_carried [] set more e n y at chosen is = cc
union_of_carried (None ∷ xs) set more e zero y at chosen is = cc
union_of_carried (None ∷ xs) set more e (suc n) y at chosen is = union_of_carried xs set more e n y at chosen is
union_of_carried (Some x ∷ xs) [] more e n y at chosen is = cc
union_of_carried (Some x ∷ xs) (false ∷ set) more e zero y at chosen is = cc
union_of_carried (Some x ∷ xs) (true ∷ set) more e zero y at chosen is = grind (arith, union_left)
union_of_carried (Some x ∷ xs) (false ∷ set) more e (suc n) y at chosen is =
    union_of_carried xs set more e n y at chosen is
union_of_carried (Some x ∷ xs) (true ∷ set) more e (suc n) y at chosen is =
    search (union_right, union_of_carried xs set more e n y at chosen is)
