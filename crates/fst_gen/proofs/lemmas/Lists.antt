-- What the list of the trees of points tells of its length, and that there is only one such list.
use Rattle.std.specs.Prelude.{ℕ, zero, suc, ◌≡◌, ◌≢◌, ◌<◌, ◌⊎◌, false, List, [], ◌∷◌, length, All, AllPairs, Contains}
use Rattle.std.specs.List.{IsDistinct}
use Rattle.std.specs.declared.cmp.Ordering.TheVariants.{Less, Greater}
use Rattle.std.specs.Ordering.{ordering_reverse}
use Rattle.std.proofs.Common.{refl, ap, sym, subst, ◌∙◌, arith, inl, inr, get_or, eqb, eqb-true}
use Rattle.std.proofs.lemmas.Bool.Decides.{nat_tests}
use Rattle.std.proofs.lemmas.List.{get_or_default}
use Rattle.std.proofs.lemmas.List.Elements.{All-head, All-tail}
use Rattle.std.proofs.lemmas.Map.Keys.{IsDistinct-from_apart}
use Rattle.std.proofs.lemmas.Map.Steps.{length-le_from_distinct_below}
use Rattle.std.proofs.lemmas.Map.Views.{Contains-from_any}
use Rattle.points_in.specs.declared.point.Point.{Point}
use Rattle.full_tree.specs.declared.code.Tree.{Tree}
use Rattle.full_tree.specs.declared.code.TreeCode.{TreeCode}
use Rattle.full_tree.specs.Code.{members_of}
use Rattle.full_tree.specs.Order.{tree_cmp, IsInFileOrder}
use Rattle.full_tree.specs.OrderLaws.{tree_cmp_total}
use Rattle.fst_gen.specs.Trees.{IsWanted, HasTreeOf, AreTreesOf, HasMoreSets}

-- ---- a list has as many trees as there are sets

-- the place of the list has a tree with the code's members
abbrev IsPlaceOf : List Tree → ℕ → TreeCode → Type 0
IsPlaceOf trees n code = (n < length trees) × ((d : Tree) → members_of (get_or trees n d).code ≡ members_of code)

place_of : (trees : List Tree) (code : TreeCode) → HasTreeOf trees code → (n : ℕ) × IsPlaceOf trees n code
place_of trees code has = let (n, inside, is) = has.listed in
    (n, (inside, λ d. ap (λ (t : Tree). members_of t.code) (get_or_default trees n d has.tree inside ∙ is) ∙ has.same))

-- the list's places of some codes' sets
record Places (trees : List Tree) (codes : List TreeCode) : Type 0 where
  places : List ℕ
  count : length places ≡ length codes
  each : (j n : ℕ) (c : TreeCode) → j < length codes → IsPlaceOf trees (get_or places j n) (get_or codes j c)

each_more : (trees : List Tree) (m : ℕ) (code : TreeCode) (codes : List TreeCode) → IsPlaceOf trees m code → (rest : Places trees codes)
    → (j n : ℕ) (c : TreeCode) → j < length (code ∷ codes) → IsPlaceOf trees (get_or (m ∷ rest.places) j n) (get_or (code ∷ codes) j c)
each_more trees m code codes here rest zero n c inside = here
each_more trees m code codes here rest (suc j) n c inside = rest.each j n c (omega arith)

-- places of sets that are apart are distinct
places_apart : (trees : List Tree) (codes : List TreeCode) (all : Places trees codes) → AllPairs (λ a b. members_of a ≢ members_of b) codes
    → (i j d : ℕ) → i < j → j < length all.places → get_or all.places i d ≡ get_or all.places j d → ⊥
places_apart trees [] all apart i j d before inside same = absurd (omega (arith, all.count))
places_apart trees (c ∷ codes) all apart i j d before inside same =
    let t : Tree = record { length = 0; code = c } in
    let first = all.each i d c (omega (arith, all.count)) in
    let last = all.each j d c (omega (arith, all.count)) in
    apart i j c before (omega (arith, all.count))
    (sym (first.1 t) ∙ ap (λ n. members_of (get_or trees n t).code) same ∙ last.1 t)

-- .. and all are within the list
places_within : (trees : List Tree) (codes : List TreeCode) (all : Places trees codes) → (n : ℕ) → Contains all.places n → n < length trees
places_within trees [] all n (j, inside, is) = absurd (omega (arith, all.count))
places_within trees (c ∷ codes) all n (j, inside, is) =
    subst (λ m. m < length trees) is (all.each j n c (omega (arith, all.count))).0

not_equal : (a b : ℕ) → (a ≡ b → ⊥) → eqb a b ≡ false
not_equal a b apart = grind (arith, nat_tests)

module _ (ps : List Point) (k : ℕ) (trees : List Tree) (are : AreTreesOf ps k trees) where
  places_of : (codes : List TreeCode) → All (IsWanted ps k) codes → Places trees codes
  places_of [] all = record { places = []; count = refl; each = λ j n c inside. absurd (omega arith) }
  places_of (code ∷ codes) all =
      let here = place_of trees code (are.each_set code (All-head (IsWanted ps k) code codes all)) in
      let rest = places_of codes (All-tail (IsWanted ps k) code codes all) in
      record {
        places = here.0 ∷ rest.places;
        count = ap suc rest.count;
        each = λ j n c inside. each_more trees here.0 code codes here.1 rest j n c inside;
      }

  -- more than n sets have more than n trees
  pub more_trees : (n : ℕ) → HasMoreSets ps k n → n < length trees
  more_trees n more =
      let all = places_of more.codes more.wanted in
      let distinct : IsDistinct eqb all.places = IsDistinct-from_apart eqb all.places
      (λ i j d before inside. not_equal (get_or all.places i d) (get_or all.places j d)
      (places_apart trees more.codes all more.apart i j d before inside)) in
      let few = length-le_from_distinct_below all.places (length trees) distinct
      (λ q any. places_within trees more.codes all q (Contains-from_any eqb-true q all.places any)) in
      omega (arith, few, all.count, more.more)

-- ---- one list

Contains-none : (t : Tree) → Contains [] t → ⊥
Contains-none t (n, inside, is) = omega arith

Contains-first : (t : Tree) (ts : List Tree) → Contains (t ∷ ts) t
Contains-first t ts = (0, omega arith, refl)

Contains-rest : (u t : Tree) (ts : List Tree) → Contains ts t → Contains (u ∷ ts) t
Contains-rest u t ts (n, inside, is) = (suc n, omega arith, is)

Contains-cases : (u t : Tree) (ts : List Tree) → Contains (u ∷ ts) t → (u ≡ t) ⊎ Contains ts t
Contains-cases u t ts h = grind arith

-- the first tree is before all others
before_rest : (u t : Tree) (ts : List Tree) → IsInFileOrder (u ∷ ts) → Contains ts t → tree_cmp u t ≡ Less
before_rest u t ts ordered (n, inside, is) = subst (λ x. tree_cmp u x ≡ Less) is (ordered 0 (suc n) t (omega arith) (omega arith))

ordered_rest : (u : Tree) (ts : List Tree) → IsInFileOrder (u ∷ ts) → IsInFileOrder ts
ordered_rest u ts ordered i j d before inside = ordered (suc i) (suc j) d (omega arith) (omega arith)

-- no tree is before itself, nor before one that is before it
not_before : (a b : Tree) → tree_cmp a b ≡ Less → tree_cmp b a ≡ Less → ⊥
not_before a b forth back =
    let turned = tree_cmp_total.antisymm a b ∙ ap ordering_reverse back in
    let wrong : Less ≡ Greater = sym forth ∙ turned in cc

same_first : (u v : Tree) (us vs : List Tree) → IsInFileOrder (u ∷ us) → IsInFileOrder (v ∷ vs) → Contains (v ∷ vs) u → Contains (u ∷ us) v → u ≡ v
same_first u v us vs ordered ordered' into back = elim (Contains-cases v u vs into) [
  | inl is ↦ sym is
  | inr later ↦ elim (Contains-cases u v us back) [
    | inl is ↦ is
    | inr later' ↦ absurd (not_before u v (before_rest u v us ordered later') (before_rest v u vs ordered' later))
  ]
]

same_rest : (u v t : Tree) (us vs : List Tree) → u ≡ v → IsInFileOrder (u ∷ us) → Contains (v ∷ vs) t → Contains us t → Contains vs t
same_rest u v t us vs same ordered into member = elim (Contains-cases v t vs into) [
  | inl is ↦
      let here : tree_cmp t t ≡ Less = subst (λ x. tree_cmp x t ≡ Less) (same ∙ is) (before_rest u t us ordered member) in
      absurd (not_before t t here here)
  | inr later ↦ later
]

-- lists in file order are known by their trees
same_list : (us vs : List Tree) → IsInFileOrder us → IsInFileOrder vs → ((t : Tree) → Contains us t → Contains vs t)
    → ((t : Tree) → Contains vs t → Contains us t) → us ≡ vs
same_list [] [] ordered ordered' into back = refl
same_list [] (v ∷ vs) ordered ordered' into back = absurd (Contains-none v (back v (Contains-first v vs)))
same_list (u ∷ us) [] ordered ordered' into back = absurd (Contains-none u (into u (Contains-first u us)))
same_list (u ∷ us) (v ∷ vs) ordered ordered' into back =
    let first = same_first u v us vs ordered ordered' (into u (Contains-first u us)) (back v (Contains-first v vs)) in
    let rest = same_list us vs (ordered_rest u us ordered) (ordered_rest v vs ordered')
    (λ t member. same_rest u v t us vs first ordered (into t (Contains-rest u t us member)) member)
    (λ t member. same_rest v u t vs us (sym first) ordered' (back t (Contains-rest v t vs member)) member) in
    cc

-- the trees of points are one list
pub one_list : (ps : List Point) (k : ℕ) (us vs : List Tree) → AreTreesOf ps k us → AreTreesOf ps k vs → us ≡ vs
one_list ps k us vs are are' = same_list us vs are.ordered are'.ordered
    (λ t member. (are'.exact t).1 ((are.exact t).0 member)) (λ t member. (are.exact t).1 ((are'.exact t).0 member))
