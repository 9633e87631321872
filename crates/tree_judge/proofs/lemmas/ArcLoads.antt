-- The list of the edges that are loaded, where a load is written.
use Rattle.std.proofs.Common.{ℕ, IsTrue, ◌≡◌, ◌≢◌, ◌<◌, Bool, true, false, List, [], ◌∷◌, ◌++◌, length, get_or, set, replicate, eqb, inl, inr, refl, sym, ap, ◌∙◌, arith, length-append}
use Rattle.std.specs.Prelude.{◌||◌, ◌↔◌}
use Rattle.std.specs.List.{IsDistinct, list_any}
use Rattle.std.proofs.lemmas.Bool.{cases_Bool, cases_eq, cases_lt, eq-eqb, ne_eqb}
use Rattle.std.proofs.lemmas.Cmp.{nat_eq_equiv}
use Rattle.std.proofs.lemmas.Grind.{same_number_lists}
use Rattle.std.proofs.lemmas.List.{get_or-replicate, get_or-set_same, get_or-set_other, get_or_past, length-replicate, nil_from_length}
use Rattle.std.proofs.lemmas.List.Folds.{list_any-append}
use Rattle.std.proofs.lemmas.Map.Keys.{IsDistinct-push}
use Rattle.std.proofs.lemmas.Map.Steps.{length-le_from_distinct_below}
use Rattle.tree_judge.specs.ArcLoads.{AreLoads, IsList, IsListed, both_loads}

-- ---- a list with one edge more

or_yes : (b : Bool) → (b || (true || false)) ≡ true
or_yes true = refl
or_yes false = refl

or_no : (b : Bool) → (b || (false || false)) ≡ b
or_no true = refl
or_no false = refl

pub listed_last : (listed : List ℕ) (n : ℕ) → IsListed (listed ++ n ∷ []) n
listed_last listed n = list_any-append (eqb n) listed (n ∷ []) ∙ rw (eq-eqb n n refl) (or_yes (list_any (eqb n) listed))

pub listed_other : (listed : List ℕ) (n m : ℕ) → m ≢ n →
    list_any (eqb m) (listed ++ n ∷ []) ≡ list_any (eqb m) listed
listed_other listed n m apart =
    list_any-append (eqb m) listed (n ∷ []) ∙ rw (ne_eqb m n apart) (or_no (list_any (eqb m) listed))

-- ---- what is written

-- so it may be appended
once_more : (there back listed : List ℕ) (n : ℕ) → IsList there back listed → both_loads there back n ≡ 0 →
    IsDistinct eqb (listed ++ n ∷ [])
once_more there back listed n list none =
    IsDistinct-push nat_eq_equiv listed n list.once (grind (arith, cases_Bool (list_any (eqb n) listed), list.loaded n))

-- a loaded edge is one of the graph's
pub loaded_within : (there back : List ℕ) (n : ℕ) → length back ≡ length there → 0 < both_loads there back n →
    n < length there
loaded_within there back n size some = grind (arith, cases_lt n (length there), get_or_past)

-- and there is room for it
pub room_for : (there back listed : List ℕ) (n : ℕ) → length back ≡ length there → IsList there back listed →
    n < length there → both_loads there back n ≡ 0 → length listed < length there
room_for there back listed n size list within none =
    let few = length-le_from_distinct_below (listed ++ n ∷ []) (length there)
    (once_more there back listed n list none) (λ q has. elim (cases_eq q n) [
      | inl is ↦ rw is within
      | inr apart ↦ loaded_within there back q size ((list.loaded q).0 (sym (listed_other listed n q apart) ∙ has))
    ]) in
    omega (arith, simp length-append at few)

-- the loads of the other edges stay
abbrev pub OthersStay : List ℕ → List ℕ → List ℕ → List ℕ → ℕ → Type 0
OthersStay there back there' back' n = (m : ℕ) → m ≢ n → both_loads there' back' m ≡ both_loads there back m

-- what is kept of loads of which one was written, whose edge is listed first
pub AreLoads-more : (there back there' back' listed listed' : List ℕ) (room room' n : ℕ) →
    AreLoads there back listed room → length there' ≡ length there → length back' ≡ length back →
    OthersStay there back there' back' n → both_loads there back n ≡ 0 → 0 < both_loads there' back' n →
    listed' ≡ listed ++ n ∷ [] → room' ≡ room → AreLoads there' back' listed' room'
AreLoads-more there back there' back' listed listed' room room' n are there_size back_size others none some more stays =
    record {
      size = back_size ∙ are.size ∙ sym there_size;
      room = stays ∙ are.room ∙ sym there_size;
      list = rw more record {
        once = once_more there back listed n are.list none;
        loaded = λ m. elim (cases_eq m n) [
          | inl is ↦ rw is (λ _. some, λ _. listed_last listed n)
          | inr apart ↦ rw (listed_other listed n m apart, others m apart) (are.list.loaded m)
        ];
      };
    }

-- .. or stays loaded or unloaded
pub AreLoads-same : (there back there' back' listed listed' : List ℕ) (room room' n : ℕ) →
    AreLoads there back listed room → length there' ≡ length there → length back' ≡ length back →
    OthersStay there back there' back' n → (0 < both_loads there back n) ↔ (0 < both_loads there' back' n) →
    listed' ≡ listed → room' ≡ room → AreLoads there' back' listed' room'
AreLoads-same there back there' back' listed listed' room room' n are there_size back_size others same kept stays =
    grind (arith, cases_eq, are.list.loaded n)

-- what a test that failed tells of an edge's loads
pub none_loaded : (total : ℕ) → (0 < total → IsTrue false) → total ≡ 0
none_loaded total told = grind arith

-- ---- all loads

-- numbers that are all 0
pub zeros : (xs : List ℕ) → ((k : ℕ) → get_or xs k 0 ≡ 0) → xs ≡ replicate (length xs) 0
zeros xs none = same_number_lists xs (replicate (length xs) 0) (sym (length-replicate (length xs) 0))
    (λ k below. none k ∙ sym (get_or-replicate (length xs) k 0 0 below))

distinct_none : IsDistinct eqb []
unfolding IsDistinct
distinct_none = tt

-- no edge is loaded, and none is listed
pub AreLoads-empty : (there back listed : List ℕ) (room size : ℕ) → length there ≡ size → length back ≡ size →
    room ≡ size → length listed ≡ 0 → ((n : ℕ) → both_loads there back n ≡ 0) → AreLoads there back listed room
AreLoads-empty there back listed room size there_size back_size stays empty none =
    grind (arith, nil_from_length listed empty, distinct_none)

pub AreLoads-none : (edges : ℕ) → AreLoads (replicate edges 0) (replicate edges 0) [] edges
AreLoads-none edges = AreLoads-empty row row [] edges edges long long refl refl (λ n. omega (arith, none n))
  where
    row : List ℕ
    row = replicate edges 0

    long : length row ≡ edges
    long = length-replicate edges 0

    none : (n : ℕ) → get_or row n 0 ≡ 0
    none n = elim (cases_lt n edges) [
      | inl within ↦ get_or-replicate edges n 0 0 within
      | inr past ↦ get_or_past row n 0 (omega (arith, past, long))
    ]

-- ---- an edge that is cleared

-- the other edges that are still loaded are still listed
pub listed_still : (there back listed rest : List ℕ) (n : ℕ) → listed ≡ rest ++ n ∷ [] → n < length there →
    n < length back → ((m : ℕ) → 0 < both_loads there back m → IsListed listed m) →
    (m : ℕ) → 0 < both_loads (set there n 0) (set back n 0) m → IsListed rest m
listed_still there back listed rest n more there_within back_within all m some = elim (cases_eq m n) [
  | inl is ↦
      let here : 0 < both_loads (set there n 0) (set back n 0) n = rw is at some in
      absurd (omega (arith, here, get_or-set_same there n 0 0 there_within, get_or-set_same back n 0 0 back_within))
  | inr apart ↦
      let loaded : 0 < both_loads there back m = omega (arith, some, get_or-set_other there n m 0 0 apart, get_or-set_other back n m 0 0 apart) in
      sym (listed_other rest n m apart) ∙ ap (λ ns. list_any (eqb m) ns) (sym more) ∙ all m loaded
]

-- what is listed stays below a bound
pub below_still : (listed rest : List ℕ) (n bound : ℕ) → listed ≡ rest ++ n ∷ [] →
    ((m : ℕ) → IsListed listed m → m < bound) → (n < bound) × ((m : ℕ) → IsListed rest m → m < bound)
below_still listed rest n bound more below = (
  here,
  λ m has. elim (cases_eq m n) [
    | inl is ↦ rw is here
    | inr apart ↦ below m (ap (λ ns. list_any (eqb m) ns) more ∙ listed_other rest n m apart ∙ has)
  ],
)
  where
    here : n < bound
    here = below n (ap (λ ns. list_any (eqb n) ns) more ∙ listed_last rest n)

-- where none is listed none is loaded
pub none_listed : (there back listed : List ℕ) → length listed ≡ 0 →
    ((m : ℕ) → 0 < both_loads there back m → IsListed listed m) → (m : ℕ) → both_loads there back m ≡ 0
none_listed there back (n ∷ listed) empty all m = absurd (omega (arith, empty))
none_listed there back [] empty all m = grind (arith, cases_lt 0 (both_loads there back m))
