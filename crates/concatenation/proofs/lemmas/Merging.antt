-- The parts that trees touch are merged tree by tree, until the trees of a concatenation have left one.
use Rattle.std.proofs.Common.{ℕ, zero, suc, ◌≡◌, ◌+◌, ◌-◌, ◌≤◌, ◌⊎◌, inl, inr, Bool, true, false, eqb, eq-eqb, if◌then◌else◌, List, [], ◌∷◌, length, map, arith, refl, sym, ◌∙◌, ap, subst}
use Rattle.std.specs.Prelude.{Contains, slice_index}
use Rattle.std.proofs.lemmas.Bool.{cases_eq, ne_eqb}
use Rattle.std.proofs.lemmas.List.{map-id, get_or_default}
use Rattle.std.proofs.lemmas.Option.{same_Some}
use Rattle.net_graph.specs.SearchLaws.{Leads-keeps}
use Rattle.full_tree.specs.declared.code.Tree.{Tree}
use Rattle.full_tree.specs.Code.{members_of}
use Rattle.concatenation.specs.Concatenation.{IsMember, SharesTree, IsConcatenation}
use Rattle.concatenation.specs.Partitions.{part_count}
use Rattle.concatenation.proofs.lemmas.Distinct.{distinct_count, Contains-first, Contains-rest, Contains-cases, Contains-map, Contains-from_map, distinct_count-within, distinct_count-cons_le, distinct_count-cons, distinct_count-map}

-- one map after another
map-after : (g f : ℕ → ℕ) (xs : List ℕ) → map (λ x. g (f x)) xs ≡ map g (map f xs)
map-after g f [] = refl
map-after g f (x ∷ xs) = ap (λ rest. g (f x) ∷ rest) (map-after g f xs)

-- ---- one label becomes another

abbrev renamed : ℕ → ℕ → ℕ → ℕ
renamed a b x = if eqb x a then b else x

renamed-same : (a b : ℕ) → renamed a b a ≡ b
renamed-same a b = rw (eq-eqb a a refl) refl

renamed-other : (a b x : ℕ) → (x ≡ a → ⊥) → renamed a b x ≡ x
renamed-other a b x other = rw (ne_eqb x a other) refl

renamed-target : (a b : ℕ) → renamed a b b ≡ b
renamed-target a b = grind (arith, cases_eq b a, renamed-same a b, renamed-other)

-- so at most one part is lost
renamed-loses : (a b : ℕ) (xs : List ℕ) → distinct_count xs ≤ distinct_count (map (renamed a b) xs) + 1
renamed-loses a b xs =
    let kept = map (renamed a b) xs in
    omega (
      arith,
      distinct_count-cons_le a kept,
      distinct_count-within xs (a ∷ kept) (λ z member. elim (cases_eq z a) [
        | inl same ↦ subst (λ y. Contains (a ∷ kept) y) (sym same) (Contains-first a kept)
        | inr other ↦ Contains-rest a z kept
            (subst (λ y. Contains kept y) (renamed-other a b z other) (Contains-map (renamed a b) xs z member))
      ]),
    )

-- ---- all of some labels become one

-- new labels, with one for all of some old ones, and as few parts lost as those are
record Merge (labels : List ℕ) (b : ℕ) (touched : List ℕ) : Type 0 where
  new : ℕ → ℕ
  first : new b ≡ b
  each : (x : ℕ) → Contains touched x → new x ≡ b
  loses : distinct_count labels + 1 ≤ distinct_count (map new labels) + distinct_count (b ∷ touched)

-- a label more that is among them
Merge-old : (labels : List ℕ) (b x : ℕ) (touched : List ℕ) → Contains (b ∷ touched) x → Merge labels b touched →
    Merge labels b (x ∷ touched)
Merge-old labels b x touched old merge = record {
  new = merge.new;
  first = merge.first;
  each = λ z member. elim (Contains-cases x z touched member) [
    | inl is ↦ subst (λ y. merge.new y ≡ b) is (elim (Contains-cases b x touched old) [
      | inl is_first ↦ subst (λ y. merge.new y ≡ b) is_first merge.first
      | inr later ↦ merge.each x later
    ])
    | inr later ↦ merge.each z later
  ];
  loses = omega (
    arith,
    merge.loses,
    distinct_count-within (b ∷ touched) (b ∷ x ∷ touched) (λ z member. elim (Contains-cases b z touched member) [
      | inl is ↦ (0, omega arith, is)
      | inr later ↦ Contains-rest b z (x ∷ touched) (Contains-rest x z touched later)
    ]),
  );
}

-- a label more that is new
Merge-new : (labels : List ℕ) (b x : ℕ) (touched : List ℕ) →
    distinct_count (x ∷ b ∷ touched) ≡ distinct_count (b ∷ touched) + 1 → Merge labels b touched → Merge labels b (x ∷ touched)
Merge-new labels b x touched more merge =
    let rename = renamed (merge.new x) b in
    record {
      new = λ y. rename (merge.new y);
      first = ap rename merge.first ∙ renamed-target (merge.new x) b;
      each = λ z member. elim (Contains-cases x z touched member) [
        | inl is ↦ subst (λ y. rename (merge.new y) ≡ b) is (renamed-same (merge.new x) b)
        | inr later ↦ ap rename (merge.each z later) ∙ renamed-target (merge.new x) b
      ];
      loses = omega (
        arith,
        merge.loses,
        renamed-loses (merge.new x) b (map merge.new labels),
        ap distinct_count (map-after rename merge.new labels),
        distinct_count-within (x ∷ b ∷ touched) (b ∷ x ∷ touched) (λ z member. elim (Contains-cases x z (b ∷ touched) member) [
          | inl is ↦ (1, omega arith, is)
          | inr later ↦ elim (Contains-cases b z touched later) [
            | inl is ↦ (0, omega arith, is)
            | inr last ↦ Contains-rest b z (x ∷ touched) (Contains-rest x z touched last)
          ]
        ]),
      );
    }

merge_labels : (labels : List ℕ) (b : ℕ) (touched : List ℕ) → Merge labels b touched
merge_labels labels b [] = record {
  new = λ x. x;
  first = refl;
  each = λ x (k, inside, is). absurd (omega arith);
  loses = omega (arith, ap distinct_count (map-id labels));
}
merge_labels labels b (x ∷ touched) = elim (distinct_count-cons x (b ∷ touched)) [
  | inl old ↦ Merge-old labels b x touched old (merge_labels labels b touched)
  | inr more ↦ Merge-new labels b x touched more (merge_labels labels b touched)
]

-- ---- the members of a tree come to one part

-- new labels, with one for all members of a tree whose old labels f tells
record Gather (f : ℕ → ℕ) (labels members : List ℕ) : Type 0 where
  new : ℕ → ℕ
  each : (i j : ℕ) → Contains members i → Contains members j → new (f i) ≡ new (f j)
  loses : distinct_count labels ≤ distinct_count (map new labels) + (distinct_count (map f members) - 1)

gather : (f : ℕ → ℕ) (labels members : List ℕ) → Gather f labels members
gather f labels [] = record {
  new = λ x. x;
  each = λ i j (k, inside, is) other. absurd (omega arith);
  loses = omega (arith, ap distinct_count (map-id labels));
}
gather f labels (m ∷ members) =
    let merge = merge_labels labels (f m) (map f members) in
    let one = λ (i : ℕ) (member : Contains (m ∷ members) i). elim (Contains-cases m i members member) as (λ _. merge.new (f i) ≡ f m) [
      | inl is ↦ subst (λ k. merge.new (f k) ≡ f m) is merge.first
      | inr later ↦ merge.each (f i) (Contains-map f members i later)
    ] in
    record {
      new = merge.new;
      each = λ i j first second. one i first ∙ sym (one j second);
      loses = omega (arith, merge.loses);
    }

-- ---- and so do those of all trees of a set

-- how many parts the trees of a set touch, each tree counted one time less
abbrev pub touches_of : (ℕ → ℕ) → List Tree → List Bool → ℕ
touches_of f [] set = 0
touches_of f (tree ∷ trees) [] = 0
touches_of f (tree ∷ trees) (flag ∷ set) =
    (if flag then distinct_count (map f (members_of tree.code)) - 1 else 0) + touches_of f trees set

-- trees touch no more parts where parts are merged
touches_of-after : (g f : ℕ → ℕ) (trees : List Tree) (set : List Bool) → touches_of (λ i. g (f i)) trees set ≤ touches_of f trees set
touches_of-after g f [] set = omega arith
touches_of-after g f (tree ∷ trees) [] = omega arith
touches_of-after g f (tree ∷ trees) (false ∷ set) = omega (arith, touches_of-after g f trees set)
touches_of-after g f (tree ∷ trees) (true ∷ set) =
    let members = members_of tree.code in
    omega (
      arith,
      touches_of-after g f trees set,
      distinct_count-map g (map f members),
      ap distinct_count (map-after g f members),
    )

-- new labels, with one for the members of each tree of the set
record Joining (f : ℕ → ℕ) (labels : List ℕ) (trees : List Tree) (set : List Bool) : Type 0 where
  new : ℕ → ℕ
  each : (i j : ℕ) → SharesTree trees set i j → new (f i) ≡ new (f j)
  loses : distinct_count labels ≤ distinct_count (map new labels) + touches_of f trees set

-- two members of a tree of a set are those of its first tree, or of a later one
SharesTree-cases : (tree : Tree) (trees : List Tree) (flag : Bool) (set : List Bool) (i j : ℕ) →
    SharesTree (tree ∷ trees) (flag ∷ set) i j → ((flag ≡ true) × IsMember tree i × IsMember tree j) ⊎ SharesTree trees set i j
SharesTree-cases tree trees flag set i j (zero, other, in_set, in_list, first, second) =
    grind (arith, same_Some tree other in_list, same_Some flag true in_set)
SharesTree-cases tree trees flag set i j (suc k, other, in_set, in_list, first, second) =
    inr (k, other, in_set, in_list, first, second)

-- where no tree is in the set nothing is merged
join_none : (f : ℕ → ℕ) (labels : List ℕ) (trees : List Tree) (set : List Bool) → ((i j : ℕ) → SharesTree trees set i j → ⊥) →
    Joining f labels trees set
join_none f labels trees set none = record {
  new = λ x. x;
  each = λ i j shared. absurd (none i j shared);
  loses = omega (arith, ap distinct_count (map-id labels));
}

-- a tree that isn't in the set
join_without : (f : ℕ → ℕ) (labels : List ℕ) (tree : Tree) (trees : List Tree) (set : List Bool) → Joining f labels trees set →
    Joining f labels (tree ∷ trees) (false ∷ set)
join_without f labels tree trees set rest = grind (arith, SharesTree-cases)

-- a tree of the set, whose members came to one part before
join_with : (f : ℕ → ℕ) (labels : List ℕ) (tree : Tree) (trees : List Tree) (set : List Bool) →
    (one : Gather f labels (members_of tree.code)) → Joining (λ i. one.new (f i)) (map one.new labels) trees set →
    Joining f labels (tree ∷ trees) (true ∷ set)
join_with f labels tree trees set one rest = record {
  new = λ x. rest.new (one.new x);
  each = λ i j shared. elim (SharesTree-cases tree trees true set i j shared) [
    | inl here ↦ ap rest.new (one.each i j here.1 here.2)
    | inr later ↦ rest.each i j later
  ];
  loses = omega (
    arith,
    one.loses,
    rest.loses,
    ap distinct_count (map-after rest.new one.new labels),
    touches_of-after one.new f trees set,
  );
}

join_trees : (f : ℕ → ℕ) (labels : List ℕ) (trees : List Tree) (set : List Bool) → Joining f labels trees set
join_trees f labels [] set = join_none f labels [] set (λ i j (k, tree, in_set, in_list, first, second). cc)
join_trees f labels (tree ∷ trees) [] =
    join_none f labels (tree ∷ trees) [] (λ i j (k, other, in_set, in_list, first, second). cc)
join_trees f labels (tree ∷ trees) (false ∷ set) = join_without f labels tree trees set (join_trees f labels trees set)
join_trees f labels (tree ∷ trees) (true ∷ set) =
    let one = gather f labels (members_of tree.code) in
    join_with f labels tree trees set one (join_trees (λ i. one.new (f i)) (map one.new labels) trees set)

-- ---- so a concatenation touches the parts often

-- chains of trees of the set lead from one terminal to each, so all come to its part
one_part : (n : ℕ) (trees : List Tree) (set : List Bool) (labels : List ℕ) → length labels ≡ n → IsConcatenation n trees set →
    (joining : Joining (slice_index labels) labels trees set) → distinct_count (map joining.new labels) ≤ 1
one_part n trees set labels size joined joining =
    let first = joining.new (slice_index labels 0) in
    distinct_count-within (map joining.new labels) (first ∷ []) (λ z member.
    let (x, (k, inside, at), is) = Contains-from_map joining.new labels z member in
    let same : first ≡ joining.new (slice_index labels k) = Leads-keeps (SharesTree trees set)
    (λ i. first ≡ joining.new (slice_index labels i)) 0 k refl (λ i j so_far shared. so_far ∙ joining.each i j shared)
    (joined.joins k (omega arith)) in
    (0, omega arith, same ∙ ap joining.new (get_or_default labels k 0 x inside ∙ at) ∙ is))

-- the trees of a concatenation touch the parts of a partition at least as often as there are parts, less one
pub part_count-le_touches : (n : ℕ) (trees : List Tree) (set : List Bool) (labels : List ℕ) → length labels ≡ n →
    IsConcatenation n trees set → part_count labels - 1 ≤ touches_of (slice_index labels) trees set
part_count-le_touches n trees set labels size joined =
    grind (arith, join_trees (slice_index labels) labels trees set, one_part n trees set labels size joined (join_trees (slice_index labels) labels trees set))
