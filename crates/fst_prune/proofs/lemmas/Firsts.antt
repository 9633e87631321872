-- The first trees of their members: how a loop finds them, and what is found under a word.
use Rattle.std.proofs.Common.{ℕ, ◌≡◌, ◌+◌, ◌<◌, List, length, ap, sym, subst, ◌∙◌, arith, ⊎_elim, Option, None, Some}
use Rattle.std.specs.Prelude.{slice_get}
use Rattle.std.specs.Ordering.{nat_cmp}
use Rattle.std.specs.BTreeMap.{BTreeMap, get, Updates}
use Rattle.std.proofs.lemmas.Bool.{cases_eq, cases_order}
use Rattle.std.proofs.lemmas.Bool.Decides.{nat_tests}
use Rattle.std.proofs.lemmas.Option.{same_Some}
use Rattle.full_tree.specs.declared.code.Tree.{Tree}
use Rattle.full_tree.specs.Code.{members_of, named_places}
use Rattle.full_tree.specs.MembersLaws.{Climbs, Climbs-ascending_places}
use Rattle.fst_prune.specs.Kept.{IsRepeat}
use Rattle.full_tree.specs.Word.{IsWordOf}
use Rattle.full_tree.specs.WordLaws.{same_word, same_places}
use Rattle.fst_prune.specs.Firsts.{IsFirst, AreFirsts, StandsUnder}

-- members ascend
pub members_climb : (tree : Tree) → Climbs (members_of tree.code)
members_climb tree = Climbs-ascending_places (named_places tree.code)

module _ (trees : List Tree) where
  -- of two trees with the same members, the later one is a repeat
  pub later_repeats : (j k : ℕ) (a b : Tree) → j < k → slice_get trees j ≡ Some a → slice_get trees k ≡ Some b
      → members_of a.code ≡ members_of b.code → IsRepeat trees k
  later_repeats j k a b before at_a at_b same = search

  -- two trees with the same members, neither of which is a repeat, stand at one place
  pub same_first : (j k : ℕ) (a b : Tree) → slice_get trees j ≡ Some a → slice_get trees k ≡ Some b
      → members_of a.code ≡ members_of b.code → ¬ IsRepeat trees j → ¬ IsRepeat trees k → j ≡ k
  same_first j k a b at_a at_b same first first' = grind (arith, later_repeats, cases_order j k)

  -- a tree whose word is there is passed over
  pub firsts_passed : (m word first : ℕ) (tree : Tree) (firsts : BTreeMap ℕ ℕ) → AreFirsts trees m firsts
      → slice_get trees m ≡ Some tree → IsWordOf word (members_of tree.code) → get nat_cmp firsts word ≡ Some first
      → AreFirsts trees (m + 1) firsts
  firsts_passed m word first tree firsts are at is found = grind (arith, same_Some, cases_eq)

  -- a tree whose word isn't there is the first one
  pub firsts_added : (m word : ℕ) (tree : Tree) (old new : BTreeMap ℕ ℕ) → AreFirsts trees m old
      → slice_get trees m ≡ Some tree → IsWordOf word (members_of tree.code) → get nat_cmp old word ≡ None
      → Updates nat_cmp old new word (Some m) → AreFirsts trees (m + 1) new
  firsts_added m word tree old new are at is absent updates =
      let first : ¬ IsRepeat trees m = λ again.
      let same : again.tree ≡ tree = same_Some again.tree tree (sym again.at ∙ at) in
      let stands = are.complete again.place again.earlier again.before again.at_earlier in
      let one = same_word stands.word word (members_of tree.code)
      (subst (λ ms. IsWordOf stands.word ms) (again.same ∙ ap (λ t. members_of t.code) same) stands.word_is) is in
      let there : get nat_cmp old word ≡ Some stands.place = subst (λ w. get nat_cmp old w ≡ Some stands.place) one stands.found in
      cc in
      let here : IsFirst trees word m = record { tree = tree; at = at; word_is = is; first = first } in
      record {
        sound = λ w k found. ⊎_elim
            (λ (same : w ≡ word).
            let there : get nat_cmp new word ≡ Some k = subst (λ v. get nat_cmp new v ≡ Some k) same found in
            let place : m ≡ k = same_Some m k (sym updates.1 ∙ there) in
            subst (λ v. IsFirst trees v k) (sym same) (subst (λ j. IsFirst trees word j) place here))
            (λ (apart : w ≡ word → ⊥). are.sound w k (sym (updates.2 w (grind (arith, nat_tests))) ∙ found))
            (cases_eq w word);
        complete = λ k other before at'. ⊎_elim
            (λ (same : k ≡ m).
            let one : tree ≡ other = same_Some tree other (sym at ∙ subst (λ j. slice_get trees j ≡ Some other) same at') in
            record { word = word; word_is = subst (λ t. IsWordOf word (members_of t.code)) one is; place = m; found = updates.1 })
            (λ (apart : k ≡ m → ⊥).
            let stands = are.complete k other (omega arith) at' in
            ⊎_elim
            (λ (same : stands.word ≡ word). absurd (
            let there = subst (λ v. get nat_cmp old v ≡ Some stands.place) same stands.found in cc))
            (λ (other_word : stands.word ≡ word → ⊥).
            record {
              word = stands.word;
              word_is = stands.word_is;
              place = stands.place;
              found = updates.2 stands.word (grind (arith, nat_tests)) ∙ stands.found;
            })
            (cases_eq stands.word word))
            (cases_eq k m);
      }

  module _ (firsts : BTreeMap ℕ ℕ) (are : AreFirsts trees (length trees) firsts) where
    -- what is found for places that ascend is the first tree that has just them as members
    pub found_first : (places : List ℕ) (found : Option ℕ) (k : ℕ) → Climbs places → StandsUnder firsts places found
        → found ≡ Some k
        → (tree : Tree) × (slice_get trees k ≡ Some tree) × (members_of tree.code ≡ places) × (¬ IsRepeat trees k)
    found_first places found k climbs under is =
        let first : IsFirst trees under.word k = are.sound under.word k (sym under.is ∙ is) in (
          first.tree,
          first.at,
          same_places under.word (members_of first.tree.code) places (members_climb first.tree) climbs first.word_is under.word_is,
          first.first,
        )

    -- .. and where there is such a tree, it is found
    pub found_some : (places : List ℕ) (found : Option ℕ) (k : ℕ) (tree : Tree) → k < length trees → StandsUnder firsts places found
        → slice_get trees k ≡ Some tree → members_of tree.code ≡ places → (first : ℕ) × (found ≡ Some first)
    found_some places found k tree inside under at same =
        let stands = are.complete k tree inside at in
        let one : under.word ≡ stands.word = same_word under.word stands.word places under.word_is
        (subst (λ ms. IsWordOf stands.word ms) same stands.word_is) in
        (stands.place, under.is ∙ ap (get nat_cmp firsts) one ∙ stands.found)

    -- a tree is a repeat where another place is found for its members
    pub repeat_by_found : (places : List ℕ) (found : Option ℕ) (k : ℕ) (tree : Tree) → k < length trees
        → slice_get trees k ≡ Some tree → places ≡ members_of tree.code → StandsUnder firsts places found
        → ((found ≡ Some k) → ¬ IsRepeat trees k) × ((found ≡ Some k → ⊥) → IsRepeat trees k)
    repeat_by_found places found k tree inside at same under =
        let climbs : Climbs places = subst Climbs (sym same) (members_climb tree) in
        let some = found_some places found k tree inside under at (sym same) in (
          (λ here. (found_first places found k climbs under here).3),
          (λ elsewhere.
              let first = found_first places found some.0 climbs under some.1 in
              let members : members_of first.0.code ≡ members_of tree.code = first.2 ∙ same in
              ⊎_elim
              (λ (is : some.0 ≡ k). absurd (elsewhere (some.1 ∙ ap Some is)))
              (λ rest. ⊎_elim
              (λ (before : some.0 < k). later_repeats some.0 k first.0 tree before first.1 at members)
              (λ (after : k < some.0). absurd (first.3 (later_repeats k some.0 tree first.0 after at first.1 (sym members))))
              rest)
              (cases_order some.0 k)),
        )
