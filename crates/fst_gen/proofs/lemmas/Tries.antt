-- What a tree that is put into a store does for it.
use Rattle.std.proofs.Common.{ℕ, ◌≡◌, ◌<◌, ◌≤◌, List, length, get_or, refl, ap, sym, subst, ◌∙◌, arith, ⊎_elim}
use Rattle.std.specs.Prelude.{All, Some, map, Result, Ok, Err, MatchResult}
use Rattle.std.specs.Ordering.{nat_cmp}
use Rattle.std.specs.BTreeMap.{BTreeMap, get, btree_map_len, IsOrdered}
use Rattle.std.proofs.lemmas.Bool.{cases_eq}
use Rattle.std.proofs.lemmas.Cmp.{upto, nat_cmp_total}
use Rattle.std.proofs.lemmas.List.{get_or-map, length-map}
use Rattle.std.proofs.lemmas.Map.Keys.{below_from_sorted}
use Rattle.std.proofs.lemmas.List.Elements.{All-contains, Contains-get_or}
use Rattle.std.proofs.lemmas.Map.Entries.{btree_map_get_place}
use Rattle.std.proofs.lemmas.Option.{slice_get-get_or}
use Rattle.points_in.specs.declared.point.Point.{Point}
use Rattle.full_tree.specs.declared.code.Tree.{Tree}
use Rattle.full_tree.specs.declared.code.TreeCode.{TreeCode}
use Rattle.full_tree.specs.Code.{members_of, named_places}
use Rattle.full_tree.specs.MembersLaws.{Climbs-ascending_places, Contains-from_ascending_places}
use Rattle.full_tree.specs.OrderLaws.{tree_cmp_total}
use Rattle.full_tree.specs.Pieces.{code_length}
use Rattle.fst_gen.specs.declared.fault.GenFault.{GenFault}
use Rattle.fst_gen.specs.declared.fault.GenFault.TheVariants.{TooManyTrees, Memory}
use Rattle.fst_gen.specs.Trees.{IsWanted, IsNotAfter, tree_of, HasMoreSets}
use Rattle.full_tree.specs.Word.{IsWordOf}
use Rattle.full_tree.specs.WordLaws.{same_word, same_places}
use Rattle.fst_gen.specs.Kept.{PutsLeast}
use Rattle.fst_gen.specs.Store.{IsKept, IsStore, Covers, Generates}

-- a word is of one set of members
pub same_set : (word : ℕ) (a b : TreeCode) → IsWordOf word (members_of a) → IsWordOf word (members_of b) → members_of a ≡ members_of b
same_set word a b = search (same_places, Climbs-ascending_places)

some_same : (x y : Tree) → Some x ≡ Some y → x ≡ y
some_same x y e = cc

not_after : (a b c : Tree) → IsNotAfter a b → IsNotAfter b c → IsNotAfter a c
not_after a b c h g = upto tree_cmp_total a b c h g

module _ (ps : List Point) (k : ℕ) (tree : Tree) (old new : BTreeMap ℕ Tree) (puts : PutsLeast tree old new) where
  -- all trees are kept rightly
  pub sound_after : ((word : ℕ) (t : Tree) → get nat_cmp old word ≡ Some t → IsKept ps k word t)
      → tree.length ≡ code_length ps tree.code → IsWanted ps k tree.code
      → (word : ℕ) (t : Tree) → get nat_cmp new word ≡ Some t → IsKept ps k word t
  sound_after sound long wanted word t at = ⊎_elim
      (λ (same : word ≡ puts.word).
      let there = subst (λ w. get nat_cmp new w ≡ Some t) same at in
      let is : puts.kept ≡ t = some_same _ _ (sym puts.here ∙ there) in
      let kept : IsKept ps k puts.word puts.kept = ⊎_elim
      (λ (mine : puts.kept ≡ tree). subst (λ x. IsKept ps k puts.word x) (sym mine)
      (record { word_is = puts.word_is; has_length = long; wanted = wanted }))
      (λ (was : get nat_cmp old puts.word ≡ Some puts.kept). sound puts.word puts.kept was)
      puts.either in
      subst (λ w. IsKept ps k w t) (sym same) (subst (λ x. IsKept ps k puts.word x) is kept))
      (λ (apart : word ≡ puts.word → ⊥). sound word t (sym (puts.others word apart) ∙ at))
      (cases_eq word puts.word)

  -- what was covered stays covered
  pub grows_after : (code : TreeCode) → Covers ps old code → Covers ps new code
  grows_after code covered = ⊎_elim
      (λ (same : covered.word ≡ puts.word). record {
        word = puts.word;
        tree = puts.kept;
        word_is = subst (λ w. IsWordOf w (members_of code)) same covered.word_is;
        found = puts.here;
        least = not_after puts.kept covered.tree (tree_of ps code)
            (puts.no_worse covered.tree (subst (λ w. get nat_cmp old w ≡ Some covered.tree) same covered.found)) covered.least;
      })
      (λ (apart : covered.word ≡ puts.word → ⊥). record {
        word = covered.word;
        tree = covered.tree;
        word_is = covered.word_is;
        found = puts.others covered.word apart ∙ covered.found;
        least = covered.least;
      })
      (cases_eq covered.word puts.word)

  -- the tree's own code is covered
  pub covers_after : tree.length ≡ code_length ps tree.code → Covers ps new tree.code
  covers_after long = grind arith

-- the sets of a store with more than 20,000 trees
pub HasMoreSets-from_store : (ps : List Point) (k : ℕ) (trees : BTreeMap ℕ Tree)
    → ((word : ℕ) (t : Tree) → get nat_cmp trees word ≡ Some t → IsKept ps k word t)
    → IsOrdered nat_cmp trees → 20000 < btree_map_len trees → HasMoreSets ps k 20000
HasMoreSets-from_store ps k trees sound ordered more =
    let entries = trees.entries in
    let code_at : ℕ × Tree → TreeCode = λ e. e.1.code in
    let key_at : ℕ × Tree → ℕ = λ e. e.0 in
    let size = length-map entries code_at in
    let size' = length-map entries key_at in
    let kept : (i : ℕ) (d : ℕ × Tree) → i < length entries → IsKept ps k (get_or entries i d).0 (get_or entries i d).1 =
    λ i d inside. sound (get_or entries i d).0 (get_or entries i d).1
    (btree_map_get_place nat_cmp_total trees i (get_or entries i d).0 (get_or entries i d).1 ordered (slice_get-get_or entries i d inside)) in
    record {
      codes = map code_at entries;
      more = omega (arith, size, more);
      apart = λ i j d before inside same.
          let e : ℕ × Tree = (0, record { length = 0; code = d }) in
          let last : j < length entries = omega (arith, size) in
          let first : i < length entries = omega arith in
          let x = get_or entries i e in
          let y = get_or entries j e in
          let a = get_or-map code_at entries i e d first in
          let b = get_or-map code_at entries j e d last in
          let sets : members_of x.1.code ≡ members_of y.1.code = ap members_of (sym a) ∙ same ∙ ap members_of b in
          let word = same_word x.0 y.0 (members_of x.1.code) (kept i e first).word_is
          (subst (λ places. IsWordOf y.0 places) (sym sets) (kept j e last).word_is) in
          let rise = below_from_sorted (map key_at entries) i j 0 ordered before (omega (arith, size')) in
          let u = get_or-map key_at entries i e 0 first in
          let v = get_or-map key_at entries j e 0 last in
          absurd (omega (arith, rise, u, v, word));
      wanted = λ i d inside.
          let e : ℕ × Tree = (0, record { length = 0; code = d }) in
          let first : i < length entries = omega (arith, size) in
          subst (λ c. IsWanted ps k c) (sym (get_or-map code_at entries i e d first)) (kept i e first).wanted;
    }

-- what keeping a wanted tree does
pub Generates-from_keep : (ps : List Point) (k : ℕ) (tree : Tree) (old new : BTreeMap ℕ Tree) (result : Result (Unit {0}) GenFault)
    → IsStore ps k old → tree.length ≡ code_length ps tree.code → IsWanted ps k tree.code
    → MatchResult result
    (λ done. PutsLeast tree old new × (btree_map_len new ≤ 20000))
    (λ fault. fault ≡ TooManyTrees → PutsLeast tree old new × (20000 < btree_map_len new) × IsOrdered nat_cmp new)
    → Generates ps k (λ other. other ≡ tree.code) old new result
Generates-from_keep ps k tree old new (Ok done) store long wanted (puts, few) = record {
  store = record { sound = sound_after ps k tree old new puts store.sound long wanted; few = few };
  grows = grows_after ps k tree old new puts;
  covers = λ code is want. subst (λ c. Covers ps new c) (sym is) (covers_after ps k tree old new puts long);
}
Generates-from_keep ps k tree old new (Err TooManyTrees) store long wanted told =
    let full = told refl in
    HasMoreSets-from_store ps k new (sound_after ps k tree old new full.0 store.sound long wanted) full.2 full.1
Generates-from_keep ps k tree old new (Err (Memory e)) store long wanted told = tt

-- the members of a code in form are below 64
pub members_small : (ps : List Point) (code : TreeCode) → length ps ≤ 50 → All (λ k. k < length ps) (named_places code)
    → All (λ k. k < 64) (members_of code)
members_small ps code few all i d inside =
    grind (arith, Contains-from_ascending_places (named_places code) (get_or (members_of code) i d) (Contains-get_or (members_of code) i d inside), Contains-get_or (members_of code) i d inside, All-contains)
