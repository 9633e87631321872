-- Sets of kept pairs that replace a tree, as sets of pairs of the numbers of its members, and the other way round.
use Rattle.std.proofs.Common.{ℕ, ◌≡◌, ◌<◌, ◌≤◌, Bool, true, false, List, [], ◌∷◌, length, get_or, refl, ap, sym, subst, ◌∙◌, arith, inl, inr, ⊎_elim, ◌⊎◌, Some}
use Rattle.std.specs.Prelude.{All, Contains, map, slice_get, slice_index_or}
use Rattle.std.specs.Bool.{MatchBool}
use Rattle.std.specs.Option.{option_map}
use Rattle.std.proofs.lemmas.Bool.{cases_Bool}
use Rattle.std.proofs.lemmas.List.{length-map}
use Rattle.std.proofs.lemmas.Option.{same_Some, slice_get-map, slice_get_within, slice_get-get_or, get_or_from_slice_get}
use Rattle.net_graph.specs.Network.{HasEnds}
use Rattle.net_graph.specs.Search.{Leads}
use Rattle.net_graph.specs.SearchLaws.{Leads-start, Leads-more, Leads-keeps, Leads-trans, Leads-back}
use Rattle.spanning.specs.declared.pair.Pair.{Pair}
use Rattle.spanning.specs.declared.joining.Joined.{Joined}
use Rattle.spanning.specs.Joining as joining
use Rattle.spanning.specs.Joining.{edge_of, Hop, JoinsBelow, IsLeastJoining}
use Rattle.spanning.specs.Leaving.{HasNumbersBelow}
use Rattle.full_tree.specs.declared.code.Tree.{Tree}
use Rattle.full_tree.specs.Code.{members_of}
use Rattle.full_tree.specs.MembersLaws.{Climbs}
use Rattle.concatenation.specs.Concatenation.{IsMember, SharesTree}
use Rattle.fst_prune.specs.Kept.{IsKeptPair, Replaces, IsReplaced}
use Rattle.fst_prune.specs.Within.{StandsFor, HasPairFor, ArePairsWithin}
use Rattle.fst_prune.proofs.lemmas.Firsts.{members_climb}
use Rattle.fst_prune.proofs.lemmas.Places.{climbs_at, climbs_one, climbs_before, place_of, member_at}
use Rattle.fst_prune.proofs.lemmas.Sums.{weights_of, pair_weights_of, sum_of_trees, sum_of_pairs, single, length-single, single_has, single_only, sum_of-single, Part, Holds, ComesFrom, Gathered, gather}

-- the weight at a place
pub weight_at : {X : Type 0} (weight : X → ℕ) (xs : List X) (k : ℕ) (x : X) → slice_get xs k ≡ Some x → get_or (map weight xs) k 0 ≡ weight x
weight_at weight xs k x at = get_or_from_slice_get (map weight xs) k (weight x) 0 (slice_get-map weight xs k ∙ ap (option_map weight) at)

-- the two items of a list of two
two_items : (ps : List ℕ) → length ps ≡ 2 → ps ≡ get_or ps 0 0 ∷ get_or ps 1 0 ∷ []
two_items [] two = absurd (omega (arith, two))
two_items (p ∷ []) two = absurd (omega (arith, two))
two_items (p ∷ q ∷ []) two = refl
two_items (p ∷ q ∷ r ∷ ps) two = absurd (omega (arith, two))

-- a step that shares a tree can be taken back
pub shares_back : (trees : List Tree) (set : List Bool) (i j : ℕ) → SharesTree trees set i j → SharesTree trees set j i
shares_back trees set i j (k, tree, inside, at, first, second) = (k, tree, inside, at, second, first)

-- a set of one tree stands for the pair at place x
record TreeFor (trees : List Tree) (ms : List ℕ) (pairs : List Pair) (x : ℕ) (part : List Bool) : Type 0 where
  pair : Pair
  at : slice_get pairs x ≡ Some pair
  place : ℕ
  stands : StandsFor trees ms pair place
  part_is : part ≡ single (length trees) place

-- a set of one pair stands for the tree at place k
record PairFor (trees : List Tree) (ms : List ℕ) (pairs : List Pair) (k : ℕ) (part : List Bool) : Type 0 where
  pair : Pair
  place : ℕ
  at : slice_get pairs place ≡ Some pair
  stands : StandsFor trees ms pair k
  part_is : part ≡ single (length pairs) place

module _ (trees : List Tree) (ms : List ℕ) where
  -- a tree for which a pair stands is a kept pair
  stands_kept : (pair : Pair) (k : ℕ) → StandsFor trees ms pair k → IsKeptPair trees k
  stands_kept pair k stands = record { tree = stands.tree; at = stands.is.at; two = ap length stands.is.members; first = stands.is.first }

  -- its members are those of the pair
  first_in : (pair : Pair) (k : ℕ) (stands : StandsFor trees ms pair k) → IsMember stands.tree (get_or ms pair.a 0)
  first_in pair k stands = grind arith

  second_in : (pair : Pair) (k : ℕ) (stands : StandsFor trees ms pair k) → IsMember stands.tree (get_or ms pair.b 0)
  second_in pair k stands = subst (λ ps. Contains ps (get_or ms pair.b 0)) (sym stands.is.members)
      (member_at (get_or ms pair.a 0 ∷ get_or ms pair.b 0 ∷ []) 1 (omega arith))

  stands_members : (pair : Pair) (k i : ℕ) (stands : StandsFor trees ms pair k) → IsMember stands.tree i
      → (i ≡ get_or ms pair.a 0) ⊎ (i ≡ get_or ms pair.b 0)
  stands_members pair k i stands member = grind arith

  -- a hop by a pair is a step that shares its tree
  hop_shares : (set : List Bool) (pair : Pair) (k v w : ℕ) → StandsFor trees ms pair k → slice_get set k ≡ Some true
      → HasEnds (edge_of pair) v w → SharesTree trees set (get_or ms v 0) (get_or ms w 0)
  hop_shares set pair k v w stands inside ends = grind (arith, first_in pair k stands, second_in pair k stands)

  module _ (pairs : List Pair) (are : ArePairsWithin trees ms (length ms) 0 pairs) where
    -- the pairs are of numbers of members
    pub pairs_below : All (HasNumbersBelow (length ms)) pairs
    pairs_below x d inside =
        let stands : StandsFor trees ms (slice_index_or pairs x d) (are.sound x (slice_index_or pairs x d) (slice_get-get_or pairs x d inside)).0 =
        (are.sound x (slice_index_or pairs x d) (slice_get-get_or pairs x d inside)).1 in
        record { a = omega (arith, stands.order, stands.inside); b = stands.inside }

    module _ (k : ℕ) (tree : Tree) (at : slice_get trees k ≡ Some tree) (is : ms ≡ members_of tree.code) where
      climbs : Climbs ms
      climbs = subst Climbs (sym is) (members_climb tree)

      -- ---- from pairs to trees

      module _ (chosen : List Bool) (joins : JoinsBelow (length ms) pairs chosen) where
        tree_part : (x : ℕ) → slice_get chosen x ≡ Some true → Part (TreeFor trees ms pairs) (weights_of trees) (length trees) x (get_or (pair_weights_of pairs) x 0)
        tree_part x inside =
            let none : Pair = record { a = 0; b = 0; length = 0 } in
            let pair = slice_index_or pairs x none in
            let here : slice_get pairs x ≡ Some pair = slice_get-get_or pairs x none (omega (arith, slice_get_within chosen x true inside, joins.size)) in
            let sound : (j : ℕ) × StandsFor trees ms pair j = are.sound x pair here in
            let weight = weight_at (λ (t : Tree). t.length) trees sound.0 sound.1.tree sound.1.is.at in
            let long = weight_at (λ (p : Pair). p.length) pairs x pair here in
            record {
              part = single (length trees) sound.0;
              size = length-single (length trees) sound.0;
              good = record { pair = pair; at = here; place = sound.0; stands = sound.1; part_is = refl };
              short = omega (arith, sum_of-single (weights_of trees) (length trees) sound.0, weight, long, sound.1.long);
            }

        trees_chosen : Gathered (TreeFor trees ms pairs) (weights_of trees) (length trees) (pair_weights_of pairs) chosen
        trees_chosen = gather (weights_of trees) (length trees) (TreeFor trees ms pairs) (pair_weights_of pairs) chosen
            (joins.size ∙ sym (length-map pairs (λ (p : Pair). p.length))) tree_part

        -- each tree of the set has a pair that stands for it
        tree_stands : (j : ℕ) → slice_get trees_chosen.whole j ≡ Some true → (pair : Pair) × StandsFor trees ms pair j
        tree_stands j inside =
            let from : ComesFrom (TreeFor trees ms pairs) chosen j = trees_chosen.only j inside in
            let good : TreeFor trees ms pairs from.number from.part = from.good in
            let one : j ≡ good.place = single_only (length trees) good.place j (subst (λ part. slice_get part j ≡ Some true) good.part_is from.has) in
            (good.pair, subst (λ p. StandsFor trees ms good.pair p) (sym one) good.stands)

        hop_step : (v w : ℕ) → Hop pairs chosen v w → SharesTree trees trees_chosen.whole (get_or ms v 0) (get_or ms w 0)
        hop_step v w (x, pair, inside, here, ends) =
            let held : Holds (TreeFor trees ms pairs) trees_chosen.whole x = trees_chosen.holds x inside in
            let good : TreeFor trees ms pairs x held.part = held.good in
            let one : good.pair ≡ pair = same_Some good.pair pair (sym good.at ∙ here) in
            let among : slice_get trees_chosen.whole good.place ≡ Some true = held.within good.place
            (subst (λ part. slice_get part good.place ≡ Some true) (sym good.part_is)
            (single_has (length trees) good.place (slice_get_within trees good.place good.stands.tree good.stands.is.at))) in
            hop_shares trees_chosen.whole good.pair good.place v w good.stands among (subst (λ p. HasEnds (edge_of p) v w) (sym one) ends)

        chain_to : (u : ℕ) → u < length ms → Leads (SharesTree trees trees_chosen.whole) (get_or ms 0 0) (get_or ms u 0)
        chain_to u below = Leads-keeps (Hop pairs chosen) (λ v. Leads (SharesTree trees trees_chosen.whole) (get_or ms 0 0) (get_or ms v 0)) 0 u
            (Leads-start (SharesTree trees trees_chosen.whole) (get_or ms 0 0))
            (λ v w led hop. Leads-more (SharesTree trees trees_chosen.whole) (get_or ms 0 0) (get_or ms v 0) (get_or ms w 0) led (hop_step v w hop))
            (joins.chains u below)

        chain_between : (i j : ℕ) → IsMember tree i → IsMember tree j → Leads (SharesTree trees trees_chosen.whole) i j
        chain_between i j i_in j_in =
            let u = place_of ms i (subst (λ ps. Contains ps i) (sym is) i_in) in
            let w = place_of ms j (subst (λ ps. Contains ps j) (sym is) j_in) in
            let step = SharesTree trees trees_chosen.whole in
            let first : Leads step (get_or ms 0 0) i = subst (λ v. Leads step (get_or ms 0 0) v) u.2 (chain_to u.0 u.1) in
            let second : Leads step (get_or ms 0 0) j = subst (λ v. Leads step (get_or ms 0 0) v) w.2 (chain_to w.0 w.1) in
            Leads-trans step i (get_or ms 0 0) j (Leads-back step step (shares_back trees trees_chosen.whole) (get_or ms 0 0) i first) second

        member_within : (j : ℕ) (other : Tree) (i : ℕ) → slice_get trees_chosen.whole j ≡ Some true → slice_get trees j ≡ Some other → IsMember other i → IsMember tree i
        member_within j other i inside there member =
            let stands = tree_stands j inside in
            let one : other ≡ stands.1.tree = same_Some other stands.1.tree (sym there ∙ stands.1.is.at) in
            let among : Contains ms i = ⊎_elim
            (λ (first : i ≡ get_or ms stands.0.a 0). subst (λ v. Contains ms v) (sym first)
            (member_at ms stands.0.a (omega (arith, stands.1.order, stands.1.inside))))
            (λ (second : i ≡ get_or ms stands.0.b 0). subst (λ v. Contains ms v) (sym second) (member_at ms stands.0.b stands.1.inside))
            (stands_members stands.0 j i stands.1 (subst (λ t. IsMember t i) one member)) in
            subst (λ ps. Contains ps i) is among

        pub replaced_by_pairs : 3 ≤ length ms → joining.total_of pairs chosen ≤ tree.length → IsReplaced trees k
        replaced_by_pairs three short = record {
          tree = tree;
          at = at;
          three = subst (λ ps. 3 ≤ length ps) is three;
          set = trees_chosen.whole;
          replaces = record {
            size = trees_chosen.size;
            pairs = λ j inside. stands_kept (tree_stands j inside).0 j (tree_stands j inside).1;
            within = λ j other inside there i member. member_within j other i inside there member;
            joins = chain_between;
            short = omega (arith, sum_of_trees trees trees_chosen.whole, trees_chosen.short, sum_of_pairs pairs chosen, short);
          };
        }

      -- ---- from trees to pairs

      module _ (set : List Bool) (replaces : Replaces trees tree set) where
        kept_pair_has : (j : ℕ) → slice_get set j ≡ Some true → HasPairFor trees ms pairs j
        kept_pair_has j inside =
            let kept : IsKeptPair trees j = replaces.pairs j inside in
            let ps = members_of kept.tree.code in
            let two : ps ≡ get_or ps 0 0 ∷ get_or ps 1 0 ∷ [] = two_items ps kept.two in
            let a = place_of ms (get_or ps 0 0) (subst (λ qs. Contains qs (get_or ps 0 0)) (sym is)
            (replaces.within j kept.tree inside kept.at (get_or ps 0 0) (member_at ps 0 (omega (arith, kept.two))))) in
            let b = place_of ms (get_or ps 1 0) (subst (λ qs. Contains qs (get_or ps 1 0)) (sym is)
            (replaces.within j kept.tree inside kept.at (get_or ps 1 0) (member_at ps 1 (omega (arith, kept.two))))) in
            let less : get_or ps 0 0 < get_or ps 1 0 = climbs_at ps 0 1 (members_climb kept.tree) (omega arith) (omega (arith, kept.two)) in
            are.complete a.0 b.0 j kept.tree (climbs_before ms a.0 b.0 climbs a.1 b.1 (omega (arith, a.2, b.2, less))) b.1 (inl b.1)
            record {
              at = kept.at;
              members = two ∙ ap (λ x. x ∷ get_or ps 1 0 ∷ []) (sym a.2) ∙ ap (λ y. get_or ms a.0 0 ∷ y ∷ []) (sym b.2);
              first = kept.first;
            }

        pair_part : (j : ℕ) → slice_get set j ≡ Some true → Part (PairFor trees ms pairs) (pair_weights_of pairs) (length pairs) j (get_or (weights_of trees) j 0)
        pair_part j inside =
            let has : HasPairFor trees ms pairs j = kept_pair_has j inside in
            let weight = weight_at (λ (t : Tree). t.length) trees j has.stands.tree has.stands.is.at in
            let long = weight_at (λ (p : Pair). p.length) pairs has.place has.pair has.at in
            record {
              part = single (length pairs) has.place;
              size = length-single (length pairs) has.place;
              good = record { pair = has.pair; place = has.place; at = has.at; stands = has.stands; part_is = refl };
              short = omega (arith, sum_of-single (pair_weights_of pairs) (length pairs) has.place, weight, long, has.stands.long);
            }

        pairs_chosen : Gathered (PairFor trees ms pairs) (pair_weights_of pairs) (length pairs) (weights_of trees) set
        pairs_chosen = gather (pair_weights_of pairs) (length pairs) (PairFor trees ms pairs) (weights_of trees) set
            (replaces.size ∙ sym (length-map trees (λ (t : Tree). t.length))) pair_part

        -- hops lead to the number of a member
        abbrev Reached : ℕ → Type 0
        Reached v = (u : ℕ) × (u < length ms) × (get_or ms u 0 ≡ v) × Leads (Hop pairs pairs_chosen.whole) 0 u

        reach_more : (v w : ℕ) → Reached v → SharesTree trees set v w → Reached w
        reach_more v w (u, u_in, u_is, led) (j, other, inside, there, v_in, w_in) =
            let hop = Hop pairs pairs_chosen.whole in
            let held : Holds (PairFor trees ms pairs) pairs_chosen.whole j = pairs_chosen.holds j inside in
            let good : PairFor trees ms pairs j held.part = held.good in
            let a = good.pair.a in
            let b = good.pair.b in
            let b_below : b < length ms = good.stands.inside in
            let a_below : a < length ms = omega (arith, good.stands.order, good.stands.inside) in
            let one : other ≡ good.stands.tree = same_Some other good.stands.tree (sym there ∙ good.stands.is.at) in
            let among : slice_get pairs_chosen.whole good.place ≡ Some true = held.within good.place
            (subst (λ part. slice_get part good.place ≡ Some true) (sym good.part_is)
            (single_has (length pairs) good.place (slice_get_within pairs good.place good.pair good.at))) in
            let v_at = stands_members good.pair j v good.stands (subst (λ t. IsMember t v) one v_in) in
            let w_at = stands_members good.pair j w good.stands (subst (λ t. IsMember t w) one w_in) in
            let up : hop a b = (good.place, good.pair, among, good.at, inl (refl, refl)) in
            let down : hop b a = (good.place, good.pair, among, good.at, inr (refl, refl)) in
            ⊎_elim
            (λ (v_first : v ≡ get_or ms a 0).
            let led_a : Leads hop 0 a = subst (λ x. Leads hop 0 x) (climbs_one ms u a climbs u_in a_below (u_is ∙ v_first)) led in
            ⊎_elim
            (λ (w_first : w ≡ get_or ms a 0). (a, a_below, sym w_first, led_a))
            (λ (w_second : w ≡ get_or ms b 0). (b, b_below, sym w_second, Leads-more hop 0 a b led_a up))
            w_at)
            (λ (v_second : v ≡ get_or ms b 0).
            let led_b : Leads hop 0 b = subst (λ x. Leads hop 0 x) (climbs_one ms u b climbs u_in b_below (u_is ∙ v_second)) led in
            ⊎_elim
            (λ (w_first : w ≡ get_or ms a 0). (a, a_below, sym w_first, Leads-more hop 0 b a led_b down))
            (λ (w_second : w ≡ get_or ms b 0). (b, b_below, sym w_second, led_b))
            w_at)
            v_at

        reached : 0 < length ms → (i : ℕ) → i < length ms → Leads (Hop pairs pairs_chosen.whole) 0 i
        reached some i below =
            let zero_in : IsMember tree (get_or ms 0 0) = subst (λ ps. Contains ps (get_or ms 0 0)) is (member_at ms 0 some) in
            let i_in : IsMember tree (get_or ms i 0) = subst (λ ps. Contains ps (get_or ms i 0)) is (member_at ms i below) in
            let there : Reached (get_or ms i 0) = Leads-keeps (SharesTree trees set) Reached (get_or ms 0 0) (get_or ms i 0)
            (0, some, refl, Leads-start (Hop pairs pairs_chosen.whole) 0) reach_more
            (replaces.joins (get_or ms 0 0) (get_or ms i 0) zero_in i_in) in
            subst (λ x. Leads (Hop pairs pairs_chosen.whole) 0 x) (climbs_one ms there.0 i climbs there.1 below there.2) there.3

        pub pairs_join : 0 < length ms → (other : List Bool) × JoinsBelow (length ms) pairs other × (joining.total_of pairs other ≤ tree.length)
        pairs_join some = (
          pairs_chosen.whole,
          record { size = pairs_chosen.size; chains = reached some },
          omega (arith, sum_of_pairs pairs pairs_chosen.whole, pairs_chosen.short, sum_of_trees trees set, replaces.short),
        )

      -- where no pairs join at so little, nothing replaces the tree
      pub not_replaced : 0 < length ms
          → ((other : List Bool) → JoinsBelow (length ms) pairs other → tree.length < joining.total_of pairs other) → ¬ IsReplaced trees k
      not_replaced some longer replaced =
          let one : replaced.tree ≡ tree = same_Some replaced.tree tree (sym replaced.at ∙ at) in
          let pairs_too = pairs_join replaced.set (subst (λ t. Replaces trees t replaced.set) one replaced.replaces) some in
          omega (arith, longer pairs_too.0 pairs_too.1, pairs_too.2)

      -- what a least joining tells
      pub told_by_joining : 3 ≤ length ms → (joined : Joined) → IsLeastJoining (length ms) pairs joined → (b : Bool)
          → (b ≡ true → joined.total ≤ tree.length) → (b ≡ false → tree.length < joined.total)
          → MatchBool b (IsReplaced trees k) (¬ IsReplaced trees k)
      told_by_joining three joined least b short long = ⊎_elim
          (λ (test : b ≡ true). subst (λ v. MatchBool v (IsReplaced trees k) (¬ IsReplaced trees k)) (sym test)
          (replaced_by_pairs least.set least.joins three (omega (arith, least.total, short test))))
          (λ (test : b ≡ false). subst (λ v. MatchBool v (IsReplaced trees k) (¬ IsReplaced trees k)) (sym test)
          (not_replaced (omega arith) (λ other joins. omega (arith, least.least other joins, least.total, long test))))
          (cases_Bool b)
