-- The list of a store's trees is the list of the trees.
use Rattle.std.proofs.Common.{ℕ, ◌≡◌, ◌+◌, ◌<◌, ◌≤◌, true, false, List, length, get_or, refl, ap, sym, subst, ◌∙◌, arith}
use Rattle.std.specs.Prelude.{All, Contains, Some, Result, IfOk}
use Rattle.std.specs.List.{IsDistinct}
use Rattle.std.specs.List.Sorted.{IsPermutation, IsSortedBy}
use Rattle.std.specs.declared.cmp.Ordering.{Ordering}
use Rattle.std.specs.declared.cmp.Ordering.TheVariants.{Less, Equal, Greater}
use Rattle.std.specs.Ordering.{nat_cmp, is_gt, is_lt, is_eq, eq_by_cmp, ordering_reverse}
use Rattle.std.specs.BTreeMap.{BTreeMap, get, IsOrdered, values}
use Rattle.std.specs.Map.{keys_of}
use Rattle.std.proofs.lemmas.Cmp.{nat_cmp_total, eq_by_cmp_equiv}
use Rattle.std.proofs.lemmas.List.{get_or-map, length-map}
use Rattle.std.proofs.lemmas.List.Elements.{Contains-get_or}
use Rattle.std.proofs.lemmas.List.Sorted.{Contains-permutation, IsPermutation-sym, length_permutation}
use Rattle.std.proofs.lemmas.Map.Keys.{below_from_sorted, IsDistinct-from_apart, apart_from_distinct, IsDistinct-IsPermutation}
use Rattle.std.proofs.lemmas.Map.Entries.{btree_map_get_place, place_from_lookup}
use Rattle.std.proofs.lemmas.Option.{slice_get-get_or, slice_get_within}
use Rattle.points_in.specs.declared.point.Point.{Point}
use Rattle.points_in.specs.Terminals.{AreDistinct}
use Rattle.full_tree.specs.declared.code.Tree.{Tree}
use Rattle.full_tree.specs.declared.code.TreeCode.{TreeCode}
use Rattle.full_tree.specs.Code.{members_of, HasFewMembers}
use Rattle.full_tree.specs.Order.{tree_cmp, IsInFileOrder}
use Rattle.full_tree.specs.OrderLaws.{tree_cmp_total, same_tree, in_file_order_by_neighbours}
use Rattle.fst_gen.specs.Trees.{IsNotAfter, IsWanted, tree_of, IsTreeOf, HasTreeOf, AreTreesOf, HasMoreSets}
use Rattle.full_tree.specs.Pairs.{PairsJoinAll}
use Rattle.fst_gen.specs.Joins.{JoinsAll}
use Rattle.fst_gen.proofs.lemmas.Pairs.{trees-join}
use Rattle.fst_gen.proofs.lemmas.Lists.{more_trees}
use Rattle.full_tree.specs.Word.{IsWordOf}
use Rattle.fst_gen.specs.Store.{IsStore, CoversAll}
use Rattle.full_tree.specs.WordLaws.{same_word}
use Rattle.fst_gen.proofs.lemmas.Tries.{same_set}

some_same : (x y : Tree) → Some x ≡ Some y → x ≡ y
some_same x y e = cc

-- two trees of which neither is after the other are one
neither_after : (a b : Tree) (o : Ordering) → o ≡ tree_cmp a b → is_gt o ≡ false → IsNotAfter b a → a ≡ b
neither_after a b Less is not_gt back =
    let turned : tree_cmp b a ≡ Greater = tree_cmp_total.antisymm b a ∙ ap ordering_reverse (sym is) in
    let wrong : is_gt (tree_cmp b a) ≡ true = ap is_gt turned in
    absurd cc
neither_after a b Equal is not_gt back = same_tree a b (sym is)
neither_after a b Greater is not_gt back = absurd cc

-- where two trees are apart, they don't tie
tells : (a b : Tree) (o : Ordering) → o ≡ tree_cmp a b → (a ≡ b → ⊥) → is_eq o ≡ false
tells a b Less is apart = refl
tells a b Equal is apart = absurd (apart (same_tree a b (sym is)))
tells a b Greater is apart = refl

-- of two neighbours in a sorted list that don't tie, the first is before the second
before_next : (a b : Tree) (o : Ordering) → o ≡ tree_cmp a b → is_lt (tree_cmp b a) ≡ false → is_eq o ≡ false → tree_cmp a b ≡ Less
before_next a b Less is up apart = sym is
before_next a b Equal is up apart = absurd cc
before_next a b Greater is up apart =
    let turned : tree_cmp b a ≡ Less = tree_cmp_total.antisymm b a ∙ ap ordering_reverse (sym is) in
    let wrong : is_lt (tree_cmp b a) ≡ true = ap is_lt turned in
    absurd cc

module _ (ps : List Point) (k : ℕ) (trees : BTreeMap ℕ Tree) (store : IsStore ps k trees) (ordered : IsOrdered nat_cmp trees) where
  -- the tree at a place stands under its word
  placed : (i : ℕ) (d : ℕ × Tree) → i < length trees.entries
      → get nat_cmp trees (get_or trees.entries i d).0 ≡ Some (get_or trees.entries i d).1
  placed i d inside = btree_map_get_place nat_cmp_total trees i (get_or trees.entries i d).0 (get_or trees.entries i d).1 ordered
      (slice_get-get_or trees.entries i d inside)

  -- a value of the store stands under a word
  found_under : (t : Tree) → Contains (values trees) t → (word : ℕ) × (get nat_cmp trees word ≡ Some t)
  found_under t (i, inside, is) =
      let e : ℕ × Tree = (0, t) in
      let size = length-map trees.entries (λ (p : ℕ × Tree). p.1) in
      let within : i < length trees.entries = omega (arith, size, inside) in
      let at = get_or-map (λ (p : ℕ × Tree). p.1) trees.entries i e t within in
      ((get_or trees.entries i e).0, placed i e within ∙ ap Some (sym at ∙ is))

  -- .. and what stands under a word is a value
  value_of_found : (word : ℕ) (t : Tree) → get nat_cmp trees word ≡ Some t → Contains (values trees) t
  value_of_found word t at =
      let place = place_from_lookup _ trees.entries t at in
      let i = place.0 in
      let key = place.1 in
      let there = place.2 in
      let within = slice_get_within trees.entries i (key, t) there in
      let e : ℕ × Tree = (0, t) in
      let size = length-map trees.entries (λ (p : ℕ × Tree). p.1) in
      let same : Some (get_or trees.entries i e) ≡ Some (key, t) = sym (slice_get-get_or trees.entries i e within) ∙ there in
      let second : (get_or trees.entries i e).1 ≡ t = cc in
      let read = get_or-map (λ (p : ℕ × Tree). p.1) trees.entries i e t within in
      (i, omega (arith, size, within), read ∙ second)

  pub few_of_values : All (λ tree. HasFewMembers tree.code) (values trees)
  few_of_values i d inside =
      let found = found_under (get_or (values trees) i d) (Contains-get_or (values trees) i d inside) in
      (store.sound found.0 (get_or (values trees) i d) found.1).wanted.passes.form.members

  -- no two values tie
  values_apart : (i j : ℕ) (d : Tree) → i < j → j < length (values trees) → eq_by_cmp tree_cmp (get_or (values trees) i d) (get_or (values trees) j d) ≡ false
  values_apart i j d before inside =
      let e : ℕ × Tree = (0, d) in
      let size = length-map trees.entries (λ (p : ℕ × Tree). p.1) in
      let size' = length-map trees.entries (λ (p : ℕ × Tree). p.0) in
      let last : j < length trees.entries = omega (arith, size, inside) in
      let first : i < length trees.entries = omega arith in
      let x = get_or trees.entries i e in
      let y = get_or trees.entries j e in
      let a = get_or-map (λ (p : ℕ × Tree). p.1) trees.entries i e d first in
      let b = get_or-map (λ (p : ℕ × Tree). p.1) trees.entries j e d last in
      let kept = store.sound x.0 x.1 (placed i e first) in
      let kept' = store.sound y.0 y.1 (placed j e last) in
      let rise = below_from_sorted (keys_of trees.entries) i j 0 ordered before (omega (arith, size', last)) in
      let u = get_or-map (λ (p : ℕ × Tree). p.0) trees.entries i e 0 first in
      let v = get_or-map (λ (p : ℕ × Tree). p.0) trees.entries j e 0 last in
      tells (get_or (values trees) i d) (get_or (values trees) j d) (tree_cmp (get_or (values trees) i d) (get_or (values trees) j d)) refl
      (λ same.
      let trees_same : x.1 ≡ y.1 = sym a ∙ same ∙ b in
      let word = same_word x.0 y.0 (members_of x.1.code) kept.word_is
      (subst (λ (t : Tree). IsWordOf y.0 (members_of t.code)) (sym trees_same) kept'.word_is) in
      omega (arith, rise, u, v, word))

  -- the ordered list of the values
  module _ (list : List Tree) (moved : IsPermutation (values trees) list) (sorted : IsSortedBy (λ a b. is_lt (tree_cmp a b)) list) where
    list_apart : IsDistinct (eq_by_cmp tree_cmp) list
    list_apart = IsDistinct-IsPermutation (eq_by_cmp tree_cmp) (eq_by_cmp_equiv tree_cmp_total).symm (values trees) list moved
        (IsDistinct-from_apart (eq_by_cmp tree_cmp) (values trees) values_apart)

    pub in_order : IsInFileOrder list
    in_order = in_file_order_by_neighbours list (λ i d inside.
        before_next (get_or list i d) (get_or list (i + 1) d) (tree_cmp (get_or list i d) (get_or list (i + 1) d)) refl
        (sorted i d (omega arith) inside) (apart_from_distinct (eq_by_cmp tree_cmp) list i (i + 1) d list_apart (omega arith) inside))

    pub list_few : length list ≤ 20000
    list_few = let a = length_permutation (values trees) list moved in
        let size = length-map trees.entries (λ (p : ℕ × Tree). p.1) in
        omega (arith, a, size, store.few)

    pub each_is_tree : (tree : Tree) → Contains list tree → CoversAll ps k trees → IsTreeOf ps k tree
    each_is_tree tree member covers =
        let found = found_under tree (Contains-permutation list (values trees) tree (IsPermutation-sym (values trees) list moved) member) in
        let kept = store.sound found.0 tree found.1 in
        record {
          wanted = kept.wanted;
          has_length = kept.has_length;
          least = λ other passes same.
              let few : length (members_of other) ≤ k = subst (λ (ms : List ℕ). length ms ≤ k) (sym same) kept.wanted.few in
              let covered = covers other (record { passes = passes; few = few }) in
              let word = same_word covered.word found.0 (members_of other) covered.word_is
              (subst (λ (ms : List ℕ). IsWordOf found.0 ms) (sym same) kept.word_is) in
              let there = subst (λ w. get nat_cmp trees w ≡ Some covered.tree) word covered.found in
              let one : covered.tree ≡ tree = some_same _ _ (sym there ∙ found.1) in
              subst (λ (t : Tree). IsNotAfter t (tree_of ps other)) one covered.least;
        }

    pub each_tree_is : (tree : Tree) → CoversAll ps k trees → IsTreeOf ps k tree → Contains list tree
    each_tree_is tree covers is =
        let covered = covers tree.code is.wanted in
        let kept = store.sound covered.word covered.tree covered.found in
        let sets = same_set covered.word covered.tree.code tree.code kept.word_is covered.word_is in
        let sized : ℕ → Tree = λ n. record { length = n; code = tree.code } in
        let sized' : ℕ → Tree = λ n. record { length = n; code = covered.tree.code } in
        let mine : tree ≡ tree_of ps tree.code = ap sized is.has_length in
        let its : covered.tree ≡ tree_of ps covered.tree.code = ap sized' kept.has_length in
        let back : IsNotAfter tree covered.tree = subst (λ (t : Tree). IsNotAfter tree t) (sym its) (is.least covered.tree.code kept.wanted.passes sets) in
        let forth : IsNotAfter covered.tree tree = subst (λ (t : Tree). IsNotAfter covered.tree t) (sym mine) covered.least in
        let one = neither_after covered.tree tree (tree_cmp covered.tree tree) refl forth back in
        Contains-permutation (values trees) list tree moved
        (subst (λ (t : Tree). Contains (values trees) t) one (value_of_found covered.word covered.tree covered.found))

    pub tree_of_set : (code : TreeCode) → CoversAll ps k trees → IsWanted ps k code → HasTreeOf list code
    tree_of_set code covers wanted =
        let covered = covers code wanted in
        let kept = store.sound covered.word covered.tree covered.found in
        record {
          tree = covered.tree;
          listed = Contains-permutation (values trees) list covered.tree moved (value_of_found covered.word covered.tree covered.found);
          same = same_set covered.word covered.tree.code code kept.word_is covered.word_is;
        }

    pub AreTreesOf-listed : CoversAll ps k trees → AreTreesOf ps k list
    AreTreesOf-listed covers = record {
      ordered = in_order;
      exact = λ tree. (λ member. each_is_tree tree member covers, λ is. each_tree_is tree covers is);
      each_set = λ code wanted. tree_of_set code covers wanted;
    }

-- what a list that may fail for memory holds
if_ok : {E : Type 0} (P : List Tree → Type 0) (items : List Tree) (result : Result (List Tree) E) → IfOk result (λ ts. ts ≡ items) → P items → IfOk result P
if_ok P items result is holds = grind arith

module _ (ps : List Point) (k : ℕ) (trees : BTreeMap ℕ Tree) (store : IsStore ps k trees) (ordered : IsOrdered nat_cmp trees)
    (old new : List Tree) (are : old ≡ values trees) (moved : IsPermutation old new) (sorted : IsSortedBy (λ a b. is_lt (tree_cmp a b)) new) where
  permuted : IsPermutation (values trees) new
  permuted = subst (λ (ts : List Tree). IsPermutation ts new) are moved

  pub listed_trees : {E : Type 0} (result : Result (List Tree) E) → IfOk result (λ ts. ts ≡ new) → CoversAll ps k trees → IfOk result (AreTreesOf ps k)
  listed_trees result is covers = if_ok (AreTreesOf ps k) new result is (AreTreesOf-listed ps k trees store ordered new permuted sorted covers)

  pub listed_few : {E : Type 0} (result : Result (List Tree) E) → IfOk result (λ ts. ts ≡ new) → IfOk result (λ ts. length ts ≤ 20000)
  listed_few result is = if_ok (λ ts. length ts ≤ 20000) new result is (list_few ps k trees store ordered new permuted sorted)

-- what follows for a list that may fail for memory
if_all : {E : Type 0} (P Q R : List Tree → Type 0) (result : Result (List Tree) E) → IfOk result P → IfOk result Q
    → ((ts : List Tree) → P ts → Q ts → R ts) → IfOk result R
if_all P Q R result p q h = grind arith

module _ {E : Type 0} (ps : List Point) (k : ℕ) (result : Result (List Tree) E) (trees : IfOk result (AreTreesOf ps k)) where
  module _ (distinct : AreDistinct ps) (many : 2 ≤ k) where
    pub listed_join : IfOk result (JoinsAll (length ps))
    listed_join = if_all (AreTreesOf ps k) (AreTreesOf ps k) (JoinsAll (length ps)) result trees trees
        (λ ts are are'. (trees-join ps k ts distinct many are).0)

    pub listed_pairs_join : IfOk result (PairsJoinAll (length ps))
    listed_pairs_join = if_all (AreTreesOf ps k) (AreTreesOf ps k) (PairsJoinAll (length ps)) result trees trees
        (λ ts are are'. (trees-join ps k ts distinct many are).1)

  pub listed_not_many : IfOk result (λ ts. length ts ≤ 20000) → IfOk result (λ ts. ¬ HasMoreSets ps k 20000)
  listed_not_many few = if_all (AreTreesOf ps k) (λ ts. length ts ≤ 20000) (λ ts. ¬ HasMoreSets ps k 20000) result trees few
      (λ ts are most more. omega (arith, more_trees ps k ts are 20000 more))
