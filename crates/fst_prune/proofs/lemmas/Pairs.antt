-- The kept pairs between places: how they are listed one after another.
use Rattle.std.proofs.Common.{ℕ, ◌≡◌, ◌+◌, ◌<◌, ◌≤◌, List, [], ◌∷◌, ◌++◌, length, get_or, sym, subst, ◌∙◌, arith, inl, inr, ⊎_elim, ◌⊎◌, Option, None, Some}
use Rattle.std.specs.Prelude.{slice_get}
use Rattle.std.specs.BTreeMap.{BTreeMap}
use Rattle.std.proofs.lemmas.Bool.{cases_lt}
use Rattle.std.proofs.lemmas.List.{length_push}
use Rattle.std.proofs.lemmas.Option.{slice_get_within}
use Rattle.spanning.specs.declared.pair.Pair.{Pair}
use Rattle.full_tree.specs.declared.code.Tree.{Tree}
use Rattle.full_tree.specs.MembersLaws.{Climbs}
use Rattle.fst_prune.specs.Firsts.{AreFirsts, StandsUnder}
use Rattle.fst_prune.specs.Within.{IsPairOf, StandsFor, IsLookedAt, HasPairFor, ArePairsWithin}
use Rattle.fst_prune.proofs.lemmas.Firsts.{same_first, found_first, found_some}
use Rattle.fst_prune.proofs.lemmas.Places.{slice_get_push_old, slice_get_push_last, slice_get_push_cases, climbs_at, climbs_two}

module _ (trees : List Tree) (places : List ℕ) where
  -- behind the last pair of a place the next place begins
  pub pairs_next : (upper : ℕ) (pairs : List Pair) → upper < length places → length places ≤ 8 → ArePairsWithin trees places upper upper pairs
      → ArePairsWithin trees places (upper + 1) 0 pairs
  pairs_next upper pairs inside few are = record {
    sound = are.sound;
    complete = λ a b k tree order b_in seen is. are.complete a b k tree order b_in
        (⊎_elim
        (λ (lower : b < upper + 1). ⊎_elim
        (λ (before : b < upper). inl before)
        (λ (not_before : upper ≤ b).
        let same : b ≡ upper = omega arith in
        inr (same, omega (arith, order, same)))
        (cases_lt b upper))
        (λ (same : (b ≡ upper + 1) × (a < 0)). absurd (omega (arith, same.1)))
        seen) is;
    few = omega (arith, are.few);
  }

  -- what was looked at, with one place more
  looked_at_more : (upper lower a b : ℕ) → IsLookedAt upper (lower + 1) a b → IsLookedAt upper lower a b ⊎ ((a ≡ lower) × (b ≡ upper))
  looked_at_more upper lower a b seen = grind arith

  -- two places with no kept pair add nothing
  pub pairs_passed : (upper lower : ℕ) (pairs : List Pair)
      → ((k : ℕ) (tree : Tree) → ¬ IsPairOf trees places lower upper k tree) → ArePairsWithin trees places upper lower pairs
      → ArePairsWithin trees places upper (lower + 1) pairs
  pairs_passed upper lower pairs none are = record {
    sound = are.sound;
    complete = λ a b k tree order b_in seen is. ⊎_elim
        (λ (old : IsLookedAt upper lower a b). are.complete a b k tree order b_in old is)
        (λ (here : (a ≡ lower) × (b ≡ upper)).
        absurd (none k tree (subst (λ v. IsPairOf trees places lower v k tree) here.1 (subst (λ v. IsPairOf trees places v b k tree) here.0 is))))
        (looked_at_more upper lower a b seen);
    few = omega (arith, are.few);
  }

  -- the kept pair of two places is added
  pub pairs_added : (upper lower : ℕ) (pairs : List Pair) (pair : Pair) (place : ℕ) (tree : Tree) → lower < upper → upper < length places
      → pair.a ≡ lower → pair.b ≡ upper → pair.length ≡ tree.length
      → IsPairOf trees places lower upper place tree → ArePairsWithin trees places upper lower pairs
      → ArePairsWithin trees places upper (lower + 1) (pairs ++ pair ∷ [])
  pairs_added upper lower pairs pair place tree before inside a_is b_is long is are =
      let stands : StandsFor trees places pair place = record {
        order = omega (arith, a_is, b_is);
        inside = omega (arith, b_is);
        tree = tree;
        is = subst (λ v. IsPairOf trees places pair.a v place tree) (sym b_is) (subst (λ v. IsPairOf trees places v upper place tree) (sym a_is) is);
        long = long;
      } in
      let kept : (k : ℕ) → HasPairFor trees places pairs k → HasPairFor trees places (pairs ++ pair ∷ []) k = λ k has. record {
        place = has.place;
        pair = has.pair;
        at = slice_get_push_old pairs pair has.place has.pair has.at;
        stands = has.stands;
      } in
      record {
        sound = λ x other at. ⊎_elim
            (λ (old : slice_get pairs x ≡ Some other). are.sound x other old)
            (λ (last : (pair ≡ other) × (x ≡ length pairs)). (place, subst (λ p. StandsFor trees places p place) last.0 stands))
            (slice_get_push_cases pairs pair x other at);
        complete = λ a b k other order b_in seen other_is. ⊎_elim
            (λ (old : IsLookedAt upper lower a b). kept k (are.complete a b k other order b_in old other_is))
            (λ (here : (a ≡ lower) × (b ≡ upper)).
            let other_here : IsPairOf trees places lower upper k other =
            subst (λ v. IsPairOf trees places lower v k other) here.1 (subst (λ v. IsPairOf trees places v b k other) here.0 other_is) in
            let one : place ≡ k = same_first trees place k tree other is.at other_here.at (is.members ∙ sym other_here.members) is.first other_here.first in
            record {
              place = length pairs;
              pair = pair;
              at = slice_get_push_last pairs pair;
              stands = subst (λ j. StandsFor trees places pair j) one stands;
            })
            (looked_at_more upper lower a b seen);
        few = omega (arith, are.few, length_push pairs pair);
      }

  module _ (firsts : BTreeMap ℕ ℕ) (are : AreFirsts trees (length trees) firsts) (climbs : Climbs places)
      (lower upper : ℕ) (before : lower < upper) (inside : upper < length places) (found : Option ℕ)
      (under : StandsUnder firsts (get_or places lower 0 ∷ get_or places upper 0 ∷ []) found) where
    two_climb : Climbs (get_or places lower 0 ∷ get_or places upper 0 ∷ [])
    two_climb = climbs_two (get_or places lower 0) (get_or places upper 0) (climbs_at places lower upper climbs before inside)

    -- what is found for two places is their kept pair
    pub pair_found : (k : ℕ) → found ≡ Some k → (tree : Tree) × IsPairOf trees places lower upper k tree
    pair_found k is =
        let first = found_first trees firsts are (get_or places lower 0 ∷ get_or places upper 0 ∷ []) found k two_climb under is in
        (first.0, record { at = first.1; members = first.2; first = first.3 })

    -- .. and where nothing is found, there is none
    pub pair_absent : found ≡ None → (k : ℕ) (tree : Tree) → ¬ IsPairOf trees places lower upper k tree
    pair_absent none k tree is =
        let some = found_some trees firsts are (get_or places lower 0 ∷ get_or places upper 0 ∷ []) found k tree
        (slice_get_within trees k tree is.at) under is.at is.members in
        let there = some.1 in absurd cc
