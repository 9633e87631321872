-- Other packings that a leaf may have, and trees with them.
use Rattle.std.proofs.Common.{ℕ, zero, suc, ◌≡◌, ◌+◌, ◌<◌, ⊎_elim, inl, Bool, List, [], ◌∷◌}
use Rattle.std.proofs.Common.{◌++◌, length, slice_get, slice_set, Some, sum_by}
use Rattle.std.proofs.Common.{refl, ap, sym, ◌∙◌, subst, arith, length-append}
use Rattle.std.specs.List.{AllZip, insert}
use Rattle.std.proofs.lemmas.Option.{same_Some, slice_get_within}
use Rattle.lists.specs.ListLaws.{slice_get-append_left, All-at, All-from_places}
use Rattle.net_graph.specs.declared.packing.Cut.{Cut}
use Rattle.net_graph.specs.Graph.{Graph, root_of}
use Rattle.net_graph.specs.Network.{length_of}
use Rattle.net_graph.specs.Decision.{Decided, nothing_decided}
use Rattle.net_graph.specs.Packing.{IsFeasible, IsWithinRoom, load, packing_value}
use Rattle.net_graph.specs.Saturation.{IsMaximal, SaturatedStep}
use Rattle.net_graph.specs.SearchLaws.{Leads-weaker}
use Rattle.cert_tree.specs.declared.split.SplitOn.{SplitOn}
use Rattle.cert_tree.specs.Tree.{Tree, split_with}
use Rattle.cert_tree.specs.Tree.Tree.{Leaf, Split}
use Rattle.cert_tree.specs.Preorder.{packings_of, split_count}
use Rattle.cert_tree.specs.PreorderLaws.{length-packings_of}
use Rattle.cert_tree.specs.Replaced.{replaced}
use Rattle.cert_tree.specs.ReplacedLaws.{replaced-outside, replaced-inside}
use Rattle.cert_tree.specs.Decisions.{outside_of, inside_of}
use Rattle.cert_tree.specs.TreeValue.{IsValidTree}
use Rattle.branch.specs.declared.note.LeafNote.{LeafNote}
use Rattle.branch.specs.Leaves.{DecidedLeaf, leaf_under, leaves_of}
use Rattle.branch.specs.States.{AreSaturated, IsReadyLeaf, IsOpenLeaf, IsState}
use Rattle.branch.specs.Openings.{IsSplitOf}
use Rattle.branch.specs.Variants.{in_units, MayBe, IsVariantFrom, IsVariant}
use Rattle.branch.specs.Searching.{is_anew_at}
use Rattle.branch.proofs.lemmas.ListLemmas.{two_at, insert-set, place_cases, slice_get-append_right}
use Rattle.branch.proofs.lemmas.ListLemmas.{beside_right}
use Rattle.branch.proofs.lemmas.TreeLemmas.{length-leaves_of, split_count-replaced}
use Rattle.branch.proofs.lemmas.UnitLemmas.{weight-in_units, load-in_units, cuts-in_units}

-- the other packing has the same loads and the same weight, and is feasible where the first is
pub record IsLike (own other : List Cut) : Type 0 where
  pub loads : (u v : ℕ) → load other u v ≡ load own u v
  pub weight : sum_by (λ c. c.weight) other ≡ sum_by (λ c. c.weight) own
  pub feasible : (g : Graph) (d : Decided) → IsFeasible g d own → IsFeasible g d other

IsLike-same : (own : List Cut) → IsLike own own
IsLike-same own = record { loads = λ u v. refl; weight = refl; feasible = λ g d is. is }

units_feasible : (g : Graph) (d : Decided) (own : List Cut) → IsFeasible g d own → IsFeasible g d (in_units own)
units_feasible g d own is = record {
  cuts = cuts-in_units g d own is.cuts;
  room = λ n e state at state_at.
      let rooms = is.room n e state at state_at in (
        subst (λ (amount : ℕ). IsWithinRoom state e amount) (sym (load-in_units own e.a e.b)) rooms.0,
        subst (λ (amount : ℕ). IsWithinRoom state e amount) (sym (load-in_units own e.b e.a)) rooms.1,
      );
}

IsLike-units : (own : List Cut) → IsLike own (in_units own)
IsLike-units own = record {
  loads = load-in_units own;
  weight = weight-in_units own;
  feasible = λ g d is. units_feasible g d own is;
}

pub IsLike-may_be : (anew : Bool) (own other : List Cut) → MayBe anew own other → IsLike own other
IsLike-may_be anew own other may_be = grind (arith, IsLike-same own, IsLike-units own)

module _ (g : Graph) (d : Decided) (own other : List Cut) (like : IsLike own other) where
  pub like_value : packing_value g d other ≡ packing_value g d own
  like_value = let same = like.weight in omega arith

  like_step : (u v : ℕ) → SaturatedStep g d own u v → SaturatedStep g d other u v
  like_step u v (n, e, state, at, state_at, ends, full) = grind arith

  pub like_maximal : IsMaximal g d own → IsMaximal g d other
  like_maximal maximal = λ v required.
      Leads-weaker (SaturatedStep g d own) (SaturatedStep g d other) like_step (root_of g) v (maximal v required)

  like_saturated : (set : List Bool) → AreSaturated g d own set → AreSaturated g d other set
  like_saturated set are = record { size = are.size; arcs = λ n at. (grind arith) }

  pub like_ready : (limit : ℕ) → IsReadyLeaf g limit (leaf_under d own) → IsReadyLeaf g limit (leaf_under d other)
  like_ready limit ready = search (like_maximal, like_saturated)

  pub like_split : (on : SplitOn) → IsSplitOf g (leaf_under d own) on → IsSplitOf g (leaf_under d other) on
  like_split on splits = grind arith

-- ---- trees

-- a tree is one of its own variants
pub variant_same : (anew : ℕ → Bool) (from : ℕ) (tree : Tree SplitOn) → IsVariantFrom anew from tree tree
variant_same anew from (Leaf own) = inl refl
variant_same anew from (Split on outside inside) =
    (refl, variant_same anew from outside, variant_same anew (from + length (packings_of outside)) inside)

-- .. with as many leaves
pub variant_leaves : (anew : ℕ → Bool) (from : ℕ) (tree other : Tree SplitOn) → IsVariantFrom anew from tree other →
    length (packings_of other) ≡ length (packings_of tree)
variant_leaves anew from (Leaf own) (Leaf other) is = refl
variant_leaves anew from (Leaf own) (Split s o i) is = absurd is
variant_leaves anew from (Split s o i) (Leaf other) is = absurd is
variant_leaves anew from (Split s o i) (Split t p q) is =
    grind (arith, length-append (packings_of o) (packings_of i), length-append (packings_of p) (packings_of q), variant_leaves anew from o p is.1, variant_leaves anew (from + length (packings_of o)) i q is.2)

-- .. and as many splits
pub variant_splits : (anew : ℕ → Bool) (from : ℕ) (tree other : Tree SplitOn) → IsVariantFrom anew from tree other →
    split_count other ≡ split_count tree
variant_splits anew from (Leaf own) (Leaf other) is = refl
variant_splits anew from (Leaf own) (Split s o i) is = absurd is
variant_splits anew from (Split s o i) (Leaf other) is = absurd is
variant_splits anew from (Split s o i) (Split t p q) is =
    omega (arith, variant_splits anew from o p is.1, variant_splits anew (from + length (packings_of o)) i q is.2)

-- the same flags at other places
pub variant_moved : (first second : ℕ → Bool) (from to : ℕ) (tree other : Tree SplitOn) →
    ((j : ℕ) → j < length (packings_of tree) → first (from + j) ≡ second (to + j)) →
    IsVariantFrom first from tree other → IsVariantFrom second to tree other
variant_moved first second from to (Leaf own) (Leaf other) same is =
    let start : from ≡ from + 0 = omega arith in
    let end : to + 0 ≡ to = omega arith in
    let flag : first from ≡ second to = ap first start ∙ same 0 (omega arith) ∙ ap second end in
    subst (λ (b : Bool). MayBe b own other) flag is
variant_moved first second from to (Leaf own) (Split s o i) same is = absurd is
variant_moved first second from to (Split s o i) (Leaf other) same is = absurd is
variant_moved first second from to (Split s o i) (Split t p q) same is =
    let size = length-append (packings_of o) (packings_of i) in
    let n = length (packings_of o) in (
      is.0,
      variant_moved first second from to o p (λ j below. same j (omega arith)) is.1,
      variant_moved first second (from + n) (to + n) i q
          (λ j below.
          let first_place : from + n + j ≡ from + (n + j) = omega arith in
          let second_place : to + (n + j) ≡ to + n + j = omega arith in
          ap first first_place ∙ same (n + j) (omega arith) ∙ ap second second_place) is.2,
    )

-- leaves are alike: the same is decided, and the packings are
abbrev pub AreLike : DecidedLeaf → DecidedLeaf → Type 0
AreLike own other = (other.decision ≡ own.decision) × IsLike own.packing other.packing

AllZip-append : {A B : Type 0} (R : A → B → Type 0) (xs : List A) (ys : List B) (us : List A) (vs : List B) →
    AllZip R xs ys → AllZip R us vs → AllZip R (xs ++ us) (ys ++ vs)
AllZip-append R [] [] us vs first second = second
AllZip-append R [] (y ∷ ys) us vs first second = absurd first
AllZip-append R (x ∷ xs) [] us vs first second = absurd first
AllZip-append R (x ∷ xs) (y ∷ ys) us vs first second = (first.0, AllZip-append R xs ys us vs first.1 second)

-- the leaves of a variant are like those of the tree
pub variant_alike : (anew : ℕ → Bool) (from : ℕ) (d : Decided) (tree other : Tree SplitOn) →
    IsVariantFrom anew from tree other → AllZip AreLike (leaves_of d tree) (leaves_of d other)
variant_alike anew from d (Leaf own) (Leaf other) is = ((refl, IsLike-may_be (anew from) own other is), tt)
variant_alike anew from d (Leaf own) (Split s o i) is = absurd is
variant_alike anew from d (Split s o i) (Leaf other) is = absurd is
variant_alike anew from d (Split s o i) (Split t p q) is =
    subst (λ (u : SplitOn). AllZip AreLike (leaves_of d (Split s o i)) (leaves_of d (Split u p q))) (sym is.0)
    (AllZip-append AreLike (leaves_of (outside_of d s) o) (leaves_of (outside_of d s) p)
    (leaves_of (inside_of d s) i) (leaves_of (inside_of d s) q)
    (variant_alike anew from (outside_of d s) o p is.1)
    (variant_alike anew (from + length (packings_of o)) (inside_of d s) i q is.2))

pub variant_valid : (anew : ℕ → Bool) (from : ℕ) (g : Graph) (d : Decided) (tree other : Tree SplitOn) →
    IsVariantFrom anew from tree other → IsValidTree g d tree → IsValidTree g d other
variant_valid anew from g d (Leaf own) (Leaf other) is valid =
    let like = IsLike-may_be (anew from) own other is in like.feasible g d valid
variant_valid anew from g d (Leaf own) (Split s o i) is valid = absurd is
variant_valid anew from g d (Split s o i) (Leaf other) is valid = absurd is
variant_valid anew from g d (Split s o i) (Split t p q) is valid =
    grind (arith, variant_valid anew from g (outside_of d s) o p is.1 valid.1, variant_valid anew (from + length (packings_of o)) g (inside_of d s) i q is.2 valid.2)

alike_ready : (g : Graph) (limit : ℕ) (own other : DecidedLeaf) → AreLike own other →
    (IsOpenLeaf g limit own → IsReadyLeaf g limit own) → IsOpenLeaf g limit other → IsReadyLeaf g limit other
alike_ready g limit own other (same, like) ready below =
    grind (arith, like_value g own.decision own.packing other.packing like, like_ready)

-- the leaf can be opened if it is open
abbrev IsReadyWhereOpen : Graph → List Bool → DecidedLeaf → Type 0
IsReadyWhereOpen g network leaf = IsOpenLeaf g (length_of g network) leaf → IsReadyLeaf g (length_of g network) leaf

-- a variant of a state is one
pub variant_state : (anew : ℕ → Bool) (g : Graph) (network : List Bool) (tree other : Tree SplitOn) →
    IsVariant anew tree other → IsState g network tree → IsState g network other
variant_state anew g network tree other is state = record {
  network_of = state.network_of;
  valid = variant_valid anew 0 g (nothing_decided g) tree other is state.valid;
  leaves =
      let before = leaves_of (nothing_decided g) tree in
      let after = leaves_of (nothing_decided g) other in
      let same = variant_alike anew 0 (nothing_decided g) tree other is in
      All-from_places (IsReadyWhereOpen g network) after
      (λ k leaf at.
      let (own, own_at, alike) = beside_right AreLike before after k leaf same at in
      alike_ready g (length_of g network) own leaf alike
      (All-at (IsReadyWhereOpen g network) before k own state.leaves own_at));
}

-- ---- a split leaf

-- the tree that a split was made in, with this packing at its leaf
pub record IsEarlier (old : ℕ → Bool) (from : ℕ) (d : Decided) (tree other : Tree SplitOn) (place : ℕ)
    (leaf : DecidedLeaf) (cuts : List Cut) (new : Tree SplitOn) : Type 0 where
  pub earlier : Tree SplitOn
  pub variant : IsVariantFrom old from tree earlier
  pub leaf_at : slice_get (leaves_of d earlier) place ≡ Some (leaf_under leaf.decision cuts)
  pub is : other ≡ replaced place new earlier

-- A tree with this split in place of its leaf: it may have been made in a variant of the tree before, whatever packing
-- the leaf had of those that it may have.
pub record HasSplit (old : ℕ → Bool) (outside_anew inside_anew : Bool) (on : SplitOn) (p q : List Cut) (from at : ℕ)
    (d : Decided) (tree : Tree SplitOn) (place : ℕ) (leaf : DecidedLeaf) (other : Tree SplitOn) : Type 0 where
  pub outside : List Cut
  pub inside : List Cut
  pub outside_may_be : MayBe outside_anew p outside
  pub inside_may_be : MayBe inside_anew q inside
  pub before : (cuts : List Cut) → MayBe (old at) leaf.packing cuts →
      IsEarlier old from d tree other place leaf cuts (split_with on outside inside)

module _ (on : SplitOn) (p q : List Cut) (old new : ℕ → Bool) (at : ℕ)
    (flags_before : (j : ℕ) → j < at → new j ≡ old j) (flags_behind : (j : ℕ) → at < j → new (j + 1) ≡ old j) where
  -- the split has been made below this tree
  abbrev HasSplitIn : ℕ → Decided → Tree SplitOn → ℕ → DecidedLeaf → Tree SplitOn → Type 0
  HasSplitIn from d tree k leaf other = HasSplit old (new at) (new (at + 1)) on p q from at d tree k leaf other

  split_leaf : (from : ℕ) (d : Decided) (own a b : List Cut) (t : SplitOn) (leaf : DecidedLeaf) → at ≡ from + 0 →
      leaf_under d own ≡ leaf → t ≡ on → MayBe (new from) p a → MayBe (new (from + 1)) q b →
      HasSplitIn from d (Leaf own) 0 leaf (Split t (Leaf a) (Leaf b))
  split_leaf from d own a b t leaf at_is same on_is first second =
      let here : from ≡ at = omega arith in
      let next : from + 1 ≡ at + 1 = omega arith in
      record {
        outside = a;
        inside = b;
        outside_may_be = subst (λ (n : ℕ). MayBe (new n) p a) here first;
        inside_may_be = subst (λ (n : ℕ). MayBe (new n) q b) next second;
        before = λ cuts may_be. record {
          earlier = Leaf cuts;
          variant = subst (λ (n : ℕ). MayBe (old n) own cuts) (sym here)
              (subst (λ (l : DecidedLeaf). MayBe (old at) l.packing cuts) (sym same) may_be);
          leaf_at = ap (λ (l : DecidedLeaf). Some (leaf_under l.decision cuts)) same;
          is = ap (λ (u : SplitOn). Split u (Leaf a) (Leaf b)) on_is;
        };
      }

  split_outside : (from : ℕ) (d : Decided) (s : SplitOn) (o i : Tree SplitOn) (k : ℕ) (leaf : DecidedLeaf) →
      at ≡ from + k → slice_get (leaves_of (outside_of d s) o) k ≡ Some leaf →
      ((other : Tree SplitOn) → IsVariantFrom new from (replaced k (split_with on p q) o) other →
      HasSplitIn from (outside_of d s) o k leaf other) →
      (other : Tree SplitOn) → IsVariantFrom new from (Split s (replaced k (split_with on p q) o) i) other →
      HasSplitIn from d (Split s o i) k leaf other
  split_outside from d s o i k leaf at_is leaf_at below (Leaf c) is = absurd is
  split_outside from d s o i k leaf at_is leaf_at below (Split t x y) is =
      let made = below x is.1 in
      let splits = split_count-replaced on p q (outside_of d s) o k leaf leaf_at in
      let more = length-packings_of (replaced k (split_with on p q) o) in
      let less = length-packings_of o in
      let n = length (packings_of o) in
      let m = length (packings_of (replaced k (split_with on p q) o)) in
      let one_more : m ≡ n + 1 = omega arith in
      let within = slice_get_within (leaves_of (outside_of d s) o) k leaf leaf_at in
      let size = length-leaves_of (outside_of d s) o in
      record {
        outside = made.outside;
        inside = made.inside;
        outside_may_be = made.outside_may_be;
        inside_may_be = made.inside_may_be;
        before = λ cuts may_be.
            let was = made.before cuts may_be in
            let same = variant_leaves old from o was.earlier was.variant in
            record {
              earlier = Split s was.earlier y;
              variant = (
                refl,
                was.variant,
                variant_moved new old (from + m) (from + n) i y
                    (λ j _. let place : from + m + j ≡ from + n + j + 1 = omega arith in
                    ap new place ∙ flags_behind (from + n + j) (omega arith)) is.2,
              );
              leaf_at = slice_get-append_left (leaves_of (outside_of d s) was.earlier) (leaves_of (inside_of d s) y) k
                  (leaf_under leaf.decision cuts) was.leaf_at;
              is = ap (λ (u : SplitOn). Split u x y) is.0
                  ∙ ap (λ (z : Tree SplitOn). Split s z y) was.is
                  ∙ sym (replaced-outside s k (split_with on made.outside made.inside) was.earlier y (omega arith));
            };
      }

  split_inside : (from : ℕ) (d : Decided) (s : SplitOn) (o i : Tree SplitOn) (k m : ℕ) (leaf : DecidedLeaf) →
      at ≡ from + k → k ≡ length (packings_of o) + m → slice_get (leaves_of (inside_of d s) i) m ≡ Some leaf →
      ((other : Tree SplitOn) →
      IsVariantFrom new (from + length (packings_of o)) (replaced m (split_with on p q) i) other →
      HasSplitIn (from + length (packings_of o)) (inside_of d s) i m leaf other) →
      (other : Tree SplitOn) → IsVariantFrom new from (Split s o (replaced m (split_with on p q) i)) other →
      HasSplitIn from d (Split s o i) k leaf other
  split_inside from d s o i k m leaf at_is place leaf_at below (Leaf c) is = absurd is
  split_inside from d s o i k m leaf at_is place leaf_at below (Split t x y) is =
      let made = below y is.2 in
      let n = length (packings_of o) in
      let same = variant_leaves new from o x is.1 in
      let size = length-leaves_of (outside_of d s) x in
      record {
        outside = made.outside;
        inside = made.inside;
        outside_may_be = made.outside_may_be;
        inside_may_be = made.inside_may_be;
        before = λ cuts may_be.
            let was = made.before cuts may_be in
            let there : length (leaves_of (outside_of d s) x) + m ≡ k = omega arith in
            record {
              earlier = Split s x was.earlier;
              variant = (
                refl,
                variant_moved new old from from o x (λ j within. flags_before (from + j) (omega arith)) is.1,
                was.variant,
              );
              leaf_at =
                  let first = leaves_of (outside_of d s) x in
                  let second = leaves_of (inside_of d s) was.earlier in
                  subst (λ (h : ℕ). slice_get (first ++ second) h ≡ Some (leaf_under leaf.decision cuts)) there
                  (slice_get-append_right first second m (leaf_under leaf.decision cuts) was.leaf_at);
              is = ap (λ (u : SplitOn). Split u x y) is.0
                  ∙ ap (λ (z : Tree SplitOn). Split s x z) was.is
                  ∙ sym (replaced-inside s k m (split_with on made.outside made.inside) x was.earlier (omega arith));
            };
      }

  -- a variant of a tree with a split in place of a leaf
  pub variant_split : (from : ℕ) (d : Decided) (tree other : Tree SplitOn) (k : ℕ) (leaf : DecidedLeaf) →
      at ≡ from + k → slice_get (leaves_of d tree) k ≡ Some leaf →
      IsVariantFrom new from (replaced k (split_with on p q) tree) other →
      HasSplitIn from d tree k leaf other
  variant_split from d (Leaf own) (Leaf c) zero leaf at_is leaf_at is = absurd is
  variant_split from d (Leaf own) (Split t (Leaf a) (Leaf b)) zero leaf at_is leaf_at is = grind (arith, split_leaf)
  variant_split from d (Leaf own) (Split t (Leaf a) (Split u x y)) zero leaf at_is leaf_at is = absurd is.2
  variant_split from d (Leaf own) (Split t (Split u x y) z) zero leaf at_is leaf_at is = absurd is.1
  variant_split from d (Leaf own) other (suc k) leaf at_is leaf_at is = absurd cc
  variant_split from d (Split s o i) other k leaf at_is leaf_at is =
      let os = leaves_of (outside_of d s) o in
      let ins = leaves_of (inside_of d s) i in
      let size = length-leaves_of (outside_of d s) o in
      ⊎_elim
      (λ (l : (k < length os) × (slice_get os k ≡ Some leaf)).
      let within : k < length os = l.0 in
      split_outside from d s o i k leaf at_is l.1
      (λ x of_x. variant_split from (outside_of d s) o x k leaf at_is l.1 of_x) other
      (subst (λ (t : Tree SplitOn). IsVariantFrom new from t other)
      (replaced-outside s k (split_with on p q) o i (omega arith)) is))
      (λ (r : (m : ℕ) × (k ≡ length os + m) × (slice_get ins m ≡ Some leaf)).
      let place : k ≡ length os + r.0 = r.1 in
      split_inside from d s o i k r.0 leaf at_is (omega arith) r.2
      (λ y of_y. variant_split (from + length (packings_of o)) (inside_of d s) i y r.0 leaf (omega arith) r.2 of_y)
      other
      (subst (λ (t : Tree SplitOn). IsVariantFrom new from t other)
      (replaced-inside s k r.0 (split_with on p q) o i (omega arith)) is))
      (place_cases os ins k leaf leaf_at)

-- ---- the flags of notes

-- what is kept at a place
pub flag_at : (notes : List LeafNote) (k : ℕ) (note : LeafNote) → slice_get notes k ≡ Some note →
    is_anew_at notes k ≡ note.is_anew
flag_at [] k note at = absurd cc
flag_at (n ∷ notes) zero note at = ap (λ (x : LeafNote). x.is_anew) (same_Some n note at)
flag_at (n ∷ notes) (suc k) note at = flag_at notes k note at

flag_before : (notes : List LeafNote) (k j : ℕ) (a b : LeafNote) → j < k →
    is_anew_at (two_at notes k a b) j ≡ is_anew_at notes j
flag_before [] k j a b less = refl
flag_before (n ∷ notes) zero j a b less = absurd (omega arith)
flag_before (n ∷ notes) (suc k) zero a b less = refl
flag_before (n ∷ notes) (suc k) (suc j) a b less = flag_before notes k j a b (omega arith)

flag_outside : (notes : List LeafNote) (k : ℕ) (a b : LeafNote) → k < length notes →
    is_anew_at (two_at notes k a b) k ≡ a.is_anew
flag_outside [] k a b within = absurd (omega arith)
flag_outside (n ∷ notes) zero a b within = refl
flag_outside (n ∷ notes) (suc k) a b within = flag_outside notes k a b (omega arith)

flag_inside : (notes : List LeafNote) (k : ℕ) (a b : LeafNote) → k < length notes →
    is_anew_at (two_at notes k a b) (suc k) ≡ b.is_anew
flag_inside [] k a b within = absurd (omega arith)
flag_inside (n ∷ notes) zero a b within = refl
flag_inside (n ∷ notes) (suc k) a b within = flag_inside notes k a b (omega arith)

flag_behind : (notes : List LeafNote) (k j : ℕ) (a b : LeafNote) → k < j →
    is_anew_at (two_at notes k a b) (suc j) ≡ is_anew_at notes j
flag_behind [] k j a b more = refl
flag_behind (n ∷ notes) zero zero a b more = absurd (omega arith)
flag_behind (n ∷ notes) zero (suc j) a b more = refl
flag_behind (n ∷ notes) (suc k) zero a b more = absurd (omega arith)
flag_behind (n ∷ notes) (suc k) (suc j) a b more = flag_behind notes k j a b (omega arith)

-- once a leaf is split, at its place, behind it, and elsewhere
module _ (notes : List LeafNote) (k : ℕ) (a b : LeafNote) (within : k < length notes) where
  abbrev pub new_notes : List LeafNote
  new_notes = insert (slice_set notes k a) (k + 1) b

  new_flags : (j : ℕ) → is_anew_at new_notes j ≡ is_anew_at (two_at notes k a b) j
  new_flags j = ap (λ (ns : List LeafNote). is_anew_at ns j) (insert-set notes k a b within)

  pub flags_same_before : (j : ℕ) → j < k → is_anew_at new_notes j ≡ is_anew_at notes j
  flags_same_before j less = new_flags j ∙ flag_before notes k j a b less

  pub flags_same_behind : (j : ℕ) → k < j → is_anew_at new_notes (j + 1) ≡ is_anew_at notes j
  flags_same_behind j more = grind (arith, new_flags (j + 1), two_at notes k a b, flag_behind notes k j a b more)

  pub flag_of_outside : is_anew_at new_notes k ≡ a.is_anew
  flag_of_outside = new_flags k ∙ flag_outside notes k a b within

  pub flag_of_inside : is_anew_at new_notes (k + 1) ≡ b.is_anew
  flag_of_inside = grind (arith, new_flags (k + 1), two_at notes k a b, flag_inside notes k a b within)
