-- Ascending places: they climb, they are the places that were given, and they are what a sort makes.
use Rattle.std.proofs.Common.{ℕ, suc, ◌+◌, ◌≡◌, ◌≢◌, ◌<◌, ◌≤◌, true, List, [], ◌∷◌, length, refl, sym, subst}
use Rattle.std.proofs.Common.{arith, inl, inr, ◌⊎◌}
use Rattle.std.specs.Prelude.{All, AllPairs, Contains, nat_lt, ◌==◌}
use Rattle.std.specs.List.{AllByRecursion}
use Rattle.std.specs.Ordering.{nat_cmp}
use Rattle.std.specs.List.Sorted.{IsSorted, IsPermutation, IsNonDecreasingBy}
use Rattle.std.proofs.lemmas.Bool.{cases_order}
use Rattle.std.proofs.lemmas.Bool.Decides.{nat_tests, Decides-eqb}
use Rattle.std.proofs.lemmas.List.Sorted.{IsPermutation-sym, Contains-permutation, IsNonDecreasingBy-from_sort}
use Rattle.std.proofs.lemmas.Map.Keys.{IsDistinct-IsPermutation}
use Rattle.std.proofs.lemmas.Map.Made.{AllPairs-from_IsDistinct, IsDistinct-from_AllPairs}
use Rattle.hanan_grid.specs.ContainsLaws.{Contains-first, Contains-rest, Contains-cases, Contains-none}
use Rattle.full_tree.specs.Code.{with_place, ascending_places}

-- each place is below those after it
abbrev pub Climbs : List ℕ → Type 0
Climbs [] = Unit {0}
Climbs (p ∷ ps) = AllByRecursion (λ q. p < q) ps × Climbs ps

-- how two places stand to each other
data Order (p q : ℕ) : Type 0 where
  is_below : p < q → Order p q
  is_same : p ≡ q → Order p q
  is_above : q < p → Order p q

order_of : (p q : ℕ) → Order p q
order_of p q =
    elim (cases_order p q) [
      | inl same ↦ is_same same
      | inr (inl below) ↦ is_below below
      | inr (inr above) ↦ is_above above
    ]

-- a place below the first one of a list comes before it
pub with_place-below : (p q : ℕ) (qs : List ℕ) → p < q → with_place p (q ∷ qs) ≡ p ∷ q ∷ qs
with_place-below p q qs below = let test : nat_lt p q ≡ true = grind (arith, nat_tests) in rw test refl

-- one that is the first changes nothing
pub with_place-same : (p q : ℕ) (qs : List ℕ) → p ≡ q → with_place p (q ∷ qs) ≡ q ∷ qs
with_place-same p q qs same = grind (arith, nat_tests, p == q)

-- one above the first comes into the rest
pub with_place-above : (p q : ℕ) (qs : List ℕ) → q < p → with_place p (q ∷ qs) ≡ q ∷ with_place p qs
with_place-above p q qs above = grind (arith, nat_tests, p == q)

-- ---- they climb

below_all : (p q : ℕ) (qs : List ℕ) → p < q → AllByRecursion (λ r. q < r) qs → AllByRecursion (λ r. p < r) qs
below_all p q [] first rest = tt
below_all p q (r ∷ rs) first rest = (omega (arith, rest.0), below_all p q rs first rest.1)

below_with_place : (p q : ℕ) (qs : List ℕ) → p < q → AllByRecursion (λ r. p < r) qs
    → AllByRecursion (λ r. p < r) (with_place q qs)
below_with_place p q [] first rest = (first, tt)
below_with_place p q (r ∷ rs) first rest =
    grind (
      arith,
      order_of q r,
      with_place-below,
      with_place-same,
      with_place-above,
      below_with_place p q rs first rest.1,
    )

Climbs-with_place : (p : ℕ) (qs : List ℕ) → Climbs qs → Climbs (with_place p qs)
Climbs-with_place p [] climbs = (tt, tt)
Climbs-with_place p (q ∷ qs) climbs = elim (order_of p q) [
  | is_below b ↦ rw (with_place-below p q qs b) ((b, below_all p q qs b climbs.0), climbs)
  | is_same s ↦ rw (with_place-same p q qs s) climbs
  | is_above a ↦ rw (with_place-above p q qs a) (below_with_place q p qs a climbs.0, Climbs-with_place p qs climbs.1)
]

pub Climbs-ascending_places : (ps : List ℕ) → Climbs (ascending_places ps)
Climbs-ascending_places [] = tt
Climbs-ascending_places (p ∷ ps) = Climbs-with_place p (ascending_places ps) (Climbs-ascending_places ps)

-- ---- they are the places that were given

Contains-with_place : (p : ℕ) (qs : List ℕ) → Contains (with_place p qs) p
Contains-with_place p [] = Contains-first p []
Contains-with_place p (q ∷ qs) =
    grind (
      arith,
      order_of p q,
      with_place-below,
      Contains-first p (q ∷ qs),
      with_place-same,
      Contains-first q qs,
      with_place-above,
      Contains-rest q p (with_place p qs) (Contains-with_place p qs),
    )

Contains-with_place_more : (p r : ℕ) (qs : List ℕ) → Contains qs r → Contains (with_place p qs) r
Contains-with_place_more p r [] member = Contains-none r member
Contains-with_place_more p r (q ∷ qs) member = elim (order_of p q) [
  | is_below b ↦ rw (with_place-below p q qs b) (Contains-rest p r (q ∷ qs) member)
  | is_same s ↦ rw (with_place-same p q qs s) member
  | is_above a ↦ rw (with_place-above p q qs a) (elim (Contains-cases q r qs member) [
    | inl is ↦ subst (λ s. Contains (q ∷ with_place p qs) s) is (Contains-first q (with_place p qs))
    | inr later ↦ Contains-rest q r (with_place p qs) (Contains-with_place_more p r qs later)
  ])
]

with_place-cases : (p r : ℕ) (qs : List ℕ) → Contains (with_place p qs) r → (p ≡ r) ⊎ Contains qs r
with_place-cases p r [] member = Contains-cases p r [] member
with_place-cases p r (q ∷ qs) member = elim (order_of p q) [
  | is_below b ↦ Contains-cases p r (q ∷ qs) (subst (λ rs. Contains rs r) (with_place-below p q qs b) member)
  | is_same s ↦ inr (subst (λ rs. Contains rs r) (with_place-same p q qs s) member)
  | is_above a ↦
      elim (Contains-cases q r (with_place p qs) (subst (λ rs. Contains rs r) (with_place-above p q qs a) member)) [
        | inl is ↦ inr (subst (λ s. Contains (q ∷ qs) s) is (Contains-first q qs))
        | inr later ↦ elim (with_place-cases p r qs later) [
          | inl is ↦ inl is
          | inr old ↦ inr (Contains-rest q r qs old)
        ]
      ]
]

pub Contains-ascending_places : (ps : List ℕ) (p : ℕ) → Contains ps p → Contains (ascending_places ps) p
Contains-ascending_places [] p member = member
Contains-ascending_places (q ∷ qs) p member = elim (Contains-cases q p qs member) [
  | inl is ↦ subst (λ r. Contains (with_place q (ascending_places qs)) r) is
      (Contains-with_place q (ascending_places qs))
  | inr later ↦ Contains-with_place_more q p (ascending_places qs) (Contains-ascending_places qs p later)
]

pub Contains-from_ascending_places : (ps : List ℕ) (p : ℕ) → Contains (ascending_places ps) p → Contains ps p
Contains-from_ascending_places [] p member = member
Contains-from_ascending_places (q ∷ qs) p member = elim (with_place-cases q p (ascending_places qs) member) [
  | inl is ↦ subst (λ r. Contains (q ∷ qs) r) is (Contains-first q qs)
  | inr later ↦ Contains-rest q p qs (Contains-from_ascending_places qs p later)
]

-- ---- there are as many, where none stands twice

pub length-with_place : (p : ℕ) (qs : List ℕ) → (Contains qs p → ⊥) → length (with_place p qs) ≡ length qs + 1
length-with_place p [] new = omega arith
length-with_place p (q ∷ qs) new = elim (order_of p q) [
  | is_below b ↦ rw (with_place-below p q qs b) (omega arith)
  | is_same s ↦ absurd (new (0, omega arith, sym s))
  | is_above a ↦
      rw (with_place-above p q qs a)
      (omega (arith, length-with_place p qs (λ member. new (Contains-rest q p qs member))))
]

-- the first of distinct places isn't among the rest
first_apart : (p : ℕ) (ps : List ℕ) → AllPairs (λ q r. q ≢ r) (p ∷ ps) → Contains ps p → ⊥
first_apart p ps distinct (k, inside, is) = distinct 0 (suc k) p (omega arith) (omega arith) (sym is)

rest_distinct : (p : ℕ) (ps : List ℕ) → AllPairs (λ q r. q ≢ r) (p ∷ ps) → AllPairs (λ q r. q ≢ r) ps
rest_distinct p ps distinct i j d before inside = distinct (suc i) (suc j) d (omega arith) (omega arith)

pub length-ascending_places : (ps : List ℕ) → AllPairs (λ q r. q ≢ r) ps → length (ascending_places ps) ≡ length ps
length-ascending_places [] distinct = refl
length-ascending_places (p ∷ ps) distinct =
    omega (
      arith,
      length-ascending_places ps (rest_distinct p ps distinct),
      length-with_place p (ascending_places ps)
          (λ member. first_apart p ps distinct (Contains-from_ascending_places ps p member)),
    )

-- ---- lists that climb are known by their members

member_above : (p r : ℕ) (qs : List ℕ) → AllByRecursion (λ q. p < q) qs → Contains qs r → p < r
member_above p r [] above member = Contains-none r member
member_above p r (q ∷ qs) above member = elim (Contains-cases q r qs member) [
  | inl is ↦ subst (λ s. p < s) is above.0
  | inr later ↦ member_above p r qs above.1 later
]

same_first : (p q : ℕ) (ps qs : List ℕ) → Climbs (p ∷ ps) → Climbs (q ∷ qs) → Contains (q ∷ qs) p
    → Contains (p ∷ ps) q → p ≡ q
same_first p q ps qs climbs climbs' p_in q_in = elim (Contains-cases q p qs p_in) [
  | inl is ↦ sym is
  | inr later ↦ elim (Contains-cases p q ps q_in) [
    | inl is ↦ is
    | inr later' ↦ absurd (omega (arith, member_above q p qs climbs'.0 later, member_above p q ps climbs.0 later'))
  ]
]

same_rest : (p q r : ℕ) (ps qs : List ℕ) → p ≡ q → Climbs (p ∷ ps)
    → ((s : ℕ) → Contains (p ∷ ps) s → Contains (q ∷ qs) s) → Contains ps r → Contains qs r
same_rest p q r ps qs same climbs into member =
    grind (arith, Contains-cases q r qs (into r (Contains-rest p r ps member)), member_above p r ps climbs.0 member)

pub same_from_members : (ps qs : List ℕ) → Climbs ps → Climbs qs → ((r : ℕ) → Contains ps r → Contains qs r)
    → ((r : ℕ) → Contains qs r → Contains ps r) → ps ≡ qs
same_from_members [] [] climbs climbs' into back = refl
same_from_members [] (q ∷ qs) climbs climbs' into back = Contains-none q (back q (Contains-first q qs))
same_from_members (p ∷ ps) [] climbs climbs' into back = Contains-none p (into p (Contains-first p ps))
same_from_members (p ∷ ps) (q ∷ qs) climbs climbs' into back =
    let first = same_first p q ps qs climbs climbs' (into p (Contains-first p ps)) (back q (Contains-first q qs)) in
    let rest = same_from_members ps qs climbs.1 climbs'.1 (λ r. same_rest p q r ps qs first climbs into)
    (λ r. same_rest q p r qs ps (sym first) climbs' back) in
    cc

-- ---- they are what a sort makes

-- what is no lower than all before it, and none of them, climbs
all_above : (p : ℕ) (ps : List ℕ) → All (λ q. p ≤ q) ps → (Contains ps p → ⊥) → AllByRecursion (λ q. p < q) ps
all_above p [] no_lower new = tt
all_above p (q ∷ qs) no_lower new =
    let first : p ≤ q = no_lower 0 0 (omega arith) in
    let apart : p ≢ q = λ same. new (0, omega arith, sym same) in (
      omega arith,
      all_above p qs (λ k d inside. no_lower (suc k) d (omega arith))
          (λ member. new (Contains-rest q p qs member)),
    )

climbs_from_sorted : (ps : List ℕ) → IsNonDecreasingBy (λ p. p) ps → AllPairs (λ q r. q ≢ r) ps → Climbs ps
climbs_from_sorted [] rises distinct = tt
climbs_from_sorted (p ∷ ps) rises distinct = (
  all_above p ps (λ k d inside. rises 0 (suc k) d (omega arith) (omega arith)) (first_apart p ps distinct),
  climbs_from_sorted ps (λ i j d before inside. rises (suc i) (suc j) d (omega arith) (omega arith))
      (rest_distinct p ps distinct),
)

-- a sort keeps places apart
distinct_sorted : (ps sorted : List ℕ) → IsPermutation ps sorted → AllPairs (λ q r. q ≢ r) ps
    → AllPairs (λ q r. q ≢ r) sorted
distinct_sorted ps sorted moved distinct =
    AllPairs-from_IsDistinct Decides-eqb sorted
    (IsDistinct-IsPermutation (λ p q. p == q) (λ p q. grind (arith, nat_tests)) ps sorted moved
    (IsDistinct-from_AllPairs Decides-eqb ps distinct))

pub ascending_places_from_sort : (ps sorted : List ℕ) → IsPermutation ps sorted → IsSorted nat_cmp sorted
    → AllPairs (λ q r. q ≢ r) ps → sorted ≡ ascending_places ps
ascending_places_from_sort ps sorted moved up distinct = same_from_members sorted (ascending_places ps)
    (climbs_from_sorted sorted (IsNonDecreasingBy-from_sort (λ p. p) sorted up)
    (distinct_sorted ps sorted moved distinct))
    (Climbs-ascending_places ps)
    (λ r member. Contains-ascending_places ps r
    (Contains-permutation sorted ps r (IsPermutation-sym ps sorted moved) member))
    (λ r member. Contains-permutation ps sorted r moved (Contains-from_ascending_places ps r member))
