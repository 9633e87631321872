-- Trees of two members as pairs: sets of the ones join where sets of the others do, with the same total.
use Rattle.std.specs.Prelude.{slice_get, slice_index, Contains, ◌==◌, if◌then◌else◌}
use Rattle.std.proofs.Common.{ℕ, zero, suc, ◌≡◌, ◌+◌, ◌<◌, ◌≤◌, ◌⊎◌, Bool, true, false, Option, Some, None, IfSome, IfNone, Result, Ok, Err, IfOk, List, [], ◌∷◌, All, length, map, refl, ap, sym, subst, ◌∙◌, inl, inr, ⊎_elim, arith}
use Rattle.std.specs.Option.{option_map}
use Rattle.std.proofs.lemmas.Bool.{eq-eqb}
use Rattle.std.proofs.lemmas.List.{length-map}
use Rattle.std.proofs.lemmas.List.Elements.{All-contains, All-contains_itself}
use Rattle.std.proofs.lemmas.Option.{slice_get-map}
use Rattle.net_graph.specs.Search.{Leads}
use Rattle.net_graph.specs.SearchLaws.{Leads-start, Leads-more, Leads-keeps, Leads-weaker}
use Rattle.spanning.specs.declared.pair.Pair.{Pair}
use Rattle.spanning.specs.Joining.{Hop, JoinsBelow, IsLeastJoining, all_of, total_of as pairs_total}
use Rattle.spanning.specs.JoiningLaws.{JoinsBelow-all}
use Rattle.spanning.specs.declared.joining.Joined.{Joined}
use Rattle.spanning.specs.Leaving.{HasNumbersBelow}
use Rattle.full_tree.specs.declared.code.Tree.{Tree}
use Rattle.full_tree.specs.Code.{members_of}
use Rattle.concatenation.specs.Concatenation.{IsMember, SharesTree, IsConcatenation, total_of}
use Rattle.fst_concat.specs.Chosen.{HasMembersBelow, HasPairsAlone, IsUpToPairs}
use Rattle.fst_concat.specs.Pairs.{pair_of}
use Rattle.fst_concat.proofs.lemmas.Levels.{all_cons}
use Rattle.fst_concat.proofs.lemmas.Totals.{usable_at}

-- ---- the two numbers of a pair

second_member : (two : Bool) (members : List ℕ) → 2 ≤ length members
    → Contains members (if two then slice_index members 1 else slice_index members 0)
second_member true members some = All-contains_itself members 1 0 (omega arith)
second_member false members some = All-contains_itself members 0 0 (omega arith)

has_a : (n : ℕ) (tree : Tree) → HasMembersBelow n tree → IsMember tree (pair_of tree).a
has_a n tree usable = All-contains_itself (members_of tree.code) 0 0 (omega (arith, usable.some))

has_b : (n : ℕ) (tree : Tree) → HasMembersBelow n tree → IsMember tree (pair_of tree).b
has_b n tree usable = second_member (length (members_of tree.code) == 2) (members_of tree.code) usable.some

-- the numbers of a pair are members, and so below n
pub pairs_below : (n : ℕ) (trees : List Tree) → All (HasMembersBelow n) trees → All (HasNumbersBelow n) (map pair_of trees)
pairs_below n [] usable = λ k d within. absurd (omega arith)
pairs_below n (tree ∷ trees) usable =
    let here : HasMembersBelow n tree = usable 0 tree (omega arith) in
    all_cons (HasNumbersBelow n) (pair_of tree) (map pair_of trees)
    (record {
      a = All-contains (λ i. i < n) (members_of tree.code) (pair_of tree).a here.below (has_a n tree here);
      b = All-contains (λ i. i < n) (members_of tree.code) (pair_of tree).b here.below (has_b n tree here);
    })
    (pairs_below n trees (λ k d within. usable (suc k) d (omega arith)))

-- the tree of a pair in an option
pair_tree : (found : Option Tree) (pair : Pair) → option_map pair_of found ≡ Some pair
    → (tree : Tree) × (found ≡ Some tree) × (pair_of tree ≡ pair)
pair_tree None pair at = (cc)
pair_tree (Some tree) pair at = let same : pair_of tree ≡ pair = (cc) in (tree, refl, same)

-- ---- pairs that join

-- a hop is between members of one tree
hop_shares : (n : ℕ) (trees : List Tree) (set : List Bool) → All (HasMembersBelow n) trees → (u w : ℕ)
    → Hop (map pair_of trees) set u w → SharesTree trees set u w
hop_shares n trees set usable u w (k, pair, inside, at, ends) =
    let (tree, at_tree, is) = pair_tree (slice_get trees k) pair (sym (slice_get-map pair_of trees k) ∙ at) in
    let here : HasMembersBelow n tree = usable_at n trees k tree usable at_tree in
    let a_is : (pair_of tree).a ≡ pair.a = ap (λ (p : Pair). p.a) is in
    let b_is : (pair_of tree).b ≡ pair.b = ap (λ (p : Pair). p.b) is in
    ⊎_elim
    (λ along. (
      k,
      tree,
      inside,
      at_tree,
      subst (IsMember tree) (a_is ∙ along.0) (has_a n tree here),
      subst (IsMember tree) (b_is ∙ along.1) (has_b n tree here),
    ))
    (λ against. (
      k,
      tree,
      inside,
      at_tree,
      subst (IsMember tree) (b_is ∙ against.1) (has_b n tree here),
      subst (IsMember tree) (a_is ∙ against.0) (has_a n tree here),
    ))
    ends

-- pairs that join are a concatenation
pub concatenation_of_pairs : (n : ℕ) (trees : List Tree) (set : List Bool) → All (HasMembersBelow n) trees
    → JoinsBelow n (map pair_of trees) set → IsConcatenation n trees set
concatenation_of_pairs n trees set usable joins = record {
  size = joins.size ∙ length-map trees pair_of;
  joins = λ i below. Leads-weaker (Hop (map pair_of trees) set) (SharesTree trees set) (hop_shares n trees set usable) 0 i
      (joins.chains i below);
}

-- a member of two is the first or the second
one_of_two : (members : List ℕ) (i : ℕ) → length members ≡ 2 → Contains members i
    → (slice_index members 0 ≡ i) ⊎ (slice_index members 1 ≡ i)
one_of_two [] i two there = absurd (omega (arith, two))
one_of_two (a ∷ []) i two there = absurd (omega (arith, two))
one_of_two (a ∷ b ∷ []) i two (zero, inside, is) = inl is
one_of_two (a ∷ b ∷ []) i two (suc zero, inside, is) = inr is
one_of_two (a ∷ b ∷ []) i two (suc (suc k), inside, is) = absurd (omega arith)
one_of_two (a ∷ b ∷ c ∷ rest) i two there = absurd (omega (arith, two))

-- the second number of a tree of two members
b_is_second : (tree : Tree) → length (members_of tree.code) ≡ 2 → (pair_of tree).b ≡ slice_index (members_of tree.code) 1
b_is_second tree two = let test : (length (members_of tree.code) == 2) ≡ true = eq-eqb (length (members_of tree.code)) 2 two in rw test refl

-- members of a tree of two are joined by its pair
shares_hops : (trees : List Tree) (set : List Bool) → HasPairsAlone trees set → (u w : ℕ) → SharesTree trees set u w
    → Leads (Hop (map pair_of trees) set) 0 u → Leads (Hop (map pair_of trees) set) 0 w
shares_hops trees set alone u w (k, tree, inside, at, has_u, has_w) led =
    let two : length (members_of tree.code) ≡ 2 = alone k tree inside at in
    let at_pair : slice_get (map pair_of trees) k ≡ Some (pair_of tree) = slice_get-map pair_of trees k ∙ ap (option_map pair_of) at in
    let second : (pair_of tree).b ≡ slice_index (members_of tree.code) 1 = b_is_second tree two in
    let hops : ℕ → ℕ → Type 0 = Hop (map pair_of trees) set in
    ⊎_elim
    (λ u_first. ⊎_elim
    (λ w_first. subst (λ x. Leads hops 0 x) (sym u_first ∙ w_first) led)
    (λ w_second. Leads-more hops 0 u w led (k, pair_of tree, inside, at_pair, inl (u_first, second ∙ w_second)))
    (one_of_two (members_of tree.code) w two has_w))
    (λ u_second. ⊎_elim
    (λ w_first. Leads-more hops 0 u w led (k, pair_of tree, inside, at_pair, inr (w_first, second ∙ u_second)))
    (λ w_second. subst (λ x. Leads hops 0 x) (sym u_second ∙ w_second) led)
    (one_of_two (members_of tree.code) w two has_w))
    (one_of_two (members_of tree.code) u two has_u)

-- a concatenation of trees of two members joins as pairs
pub pairs_of_concatenation : (n : ℕ) (trees : List Tree) (set : List Bool) → HasPairsAlone trees set → IsConcatenation n trees set
    → JoinsBelow n (map pair_of trees) set
pairs_of_concatenation n trees set alone joins = record {
  size = joins.size ∙ sym (length-map trees pair_of);
  chains = λ i below. Leads-keeps (SharesTree trees set) (λ x. Leads (Hop (map pair_of trees) set) 0 x) 0 i
      (Leads-start (Hop (map pair_of trees) set) 0)
      (λ u w led step. shares_hops trees set alone u w step led) (joins.joins i below);
}

-- as long in all as the trees
pub total-of_pairs : (trees : List Tree) (set : List Bool) → pairs_total (map pair_of trees) set ≡ total_of trees set
total-of_pairs [] set = refl
total-of_pairs (tree ∷ trees) [] = refl
total-of_pairs (tree ∷ trees) (true ∷ set) = ap (λ rest. tree.length + rest) (total-of_pairs trees set)
total-of_pairs (tree ∷ trees) (false ∷ set) = ap (λ rest. 0 + rest) (total-of_pairs trees set)

-- ---- what a least joining by pairs says of the trees

-- the joining behind an answer
pub joined_of : (n : ℕ) (pairs same : List Pair) (answer : Option Joined) (joined : Joined)
    → IfSome answer (IsLeastJoining n pairs) → answer ≡ Some joined → pairs ≡ same → IsLeastJoining n same joined
joined_of n pairs same answer joined least is equal = grind arith

-- no joining by trees of two members is shorter than a least one
pub up_to_joined : (n : ℕ) (trees : List Tree) (joined : Joined) → IsLeastJoining n (map pair_of trees) joined
    → IsUpToPairs n trees joined.total
up_to_joined n trees joined least = λ set joins alone.
    omega (arith, least.total, least.least set (pairs_of_concatenation n trees set alone joins), total-of_pairs trees set)

-- where the pairs don't join, no trees of two members do
pub up_to_none : (n : ℕ) (trees : List Tree) (pairs : List Pair) (answer : Option Joined) (total : ℕ)
    → IfNone answer (¬ JoinsBelow n pairs (all_of pairs)) → answer ≡ None → pairs ≡ map pair_of trees → IsUpToPairs n trees total
up_to_none n trees pairs answer total none is equal = λ set joins alone.
    let here : ¬ JoinsBelow n pairs (all_of pairs) = subst (λ a. IfNone a (¬ JoinsBelow n pairs (all_of pairs))) is none in
    let joined : JoinsBelow n pairs set = subst (λ ps. JoinsBelow n ps set) (sym equal) (pairs_of_concatenation n trees set alone joins) in
    absurd (here (JoinsBelow-all n pairs set joined))

-- what holds of each value holds of that in an answer
pub if_ok : {T E : Type 0} (answer : Result T E) (P : T → Type 0) → ((x : T) → P x) → IfOk answer P
if_ok (Ok x) P each = each x
if_ok (Err e) P each = tt
