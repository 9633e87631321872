-- What a tree's parts are once a leaf is replaced.
use Rattle.std.proofs.Common.{ℕ, ◌≡◌, ◌+◌, ◌-◌, ◌<◌, ◌≤◌, ◌⊎◌, inl, inr, ⊎_elim, true, ltb, List, [], ◌∷◌, ◌++◌, length, Option, Some, None, refl, ap, sym, ◌∙◌, arith, append_assoc, length-append}
use Rattle.std.proofs.lemmas.List.{append-nil}
use Rattle.std.proofs.lemmas.Bool.{cases_lt}
use Rattle.net_graph.specs.declared.packing.Cut.{Cut}
use Rattle.cert_tree.specs.Tree.{Tree}
use Rattle.cert_tree.specs.Tree.Tree.{Leaf, Split}
use Rattle.cert_tree.specs.Preorder.{nodes_of, packings_of, split_count, leaves_in}
use Rattle.cert_tree.specs.PreorderLaws.{length-packings_of, leaves_in-append, leaves_in-nodes_of}
use Rattle.cert_tree.specs.Replaced.{replaced}

-- a place in two lists one after another is in the first or in the second
pub record IsInFirst {X : Type 0} (xs ys before after : List X) (x : X) : Type 0 where
  pub rest : List X
  pub first : xs ≡ before ++ x ∷ rest
  pub second : after ≡ rest ++ ys

pub record IsInSecond {X : Type 0} (xs ys before after : List X) (x : X) : Type 0 where
  pub more : List X
  pub first : before ≡ xs ++ more
  pub second : ys ≡ more ++ x ∷ after

pub place_in_append : {X : Type 0} (xs ys before after : List X) (x : X) → xs ++ ys ≡ before ++ x ∷ after →
    IsInFirst xs ys before after x ⊎ IsInSecond xs ys before after x
place_in_append [] ys before after x same = inr record { more = before; first = refl; second = same }
place_in_append (y ∷ xs) ys [] after x same =
    let head : y ≡ x = cc in
    let tail : after ≡ xs ++ ys = cc in
    inl record { rest = xs; first = ap (λ z. z ∷ xs) head; second = tail }
place_in_append (y ∷ xs) ys (z ∷ before) after x same =
    let head : y ≡ z = cc in
    let tail : xs ++ ys ≡ before ++ x ∷ after = cc in
    ⊎_elim
    (λ (at : IsInFirst xs ys before after x). inl record {
      rest = at.rest;
      first = let rest = at.first in cc;
      second = at.second;
    })
    (λ (at : IsInSecond xs ys before after x). inr record {
      more = at.more;
      first = let rest = at.first in cc;
      second = at.second;
    })
    (place_in_append xs ys before after x tail)

-- a replacement goes into the outside child where the leaf is there
pub replaced-outside : {S : Type 0} (on : S) (leaf : ℕ) (new o i : Tree S) → leaf < length (packings_of o) →
    replaced leaf new (Split on o i) ≡ Split on (replaced leaf new o) i
replaced-outside on leaf new o i below = let test : ltb leaf (length (packings_of o)) ≡ true = grind arith in rw test

-- .. and into the inside child where it isn't
pub replaced-inside : {S : Type 0} (on : S) (leaf more : ℕ) (new o i : Tree S) → leaf ≡ length (packings_of o) + more →
    replaced leaf new (Split on o i) ≡ Split on o (replaced more new i)
replaced-inside on leaf more new o i past = grind arith

module _ {S : Type 0} (new : Tree S) where
  -- the nodes of the replacement stand where the leaf stood
  pub nodes_of-replaced : (t : Tree S) (leaf : ℕ) (before after : List (Option S)) →
      nodes_of t ≡ before ++ None ∷ after →
      leaves_in before ≡ leaf → nodes_of (replaced leaf new t) ≡ before ++ (nodes_of new ++ after)
  nodes_of-replaced (Leaf cuts) leaf [] after same count =
      let last : after ≡ [] = cc in rw last (sym (append-nil (nodes_of new)))
  nodes_of-replaced (Leaf cuts) leaf (x ∷ []) after same count = absurd cc
  nodes_of-replaced (Leaf cuts) leaf (x ∷ y ∷ before) after same count = absurd cc
  nodes_of-replaced (Split on o i) leaf [] after same count = absurd cc
  nodes_of-replaced (Split on o i) leaf (x ∷ before) after same count =
      let head : x ≡ Some on = cc in
      let tail : nodes_of o ++ nodes_of i ≡ before ++ None ∷ after = cc in
      let passed : leaves_in before ≡ leaf = rw head at count in
      ⊎_elim
      (λ (at : IsInFirst (nodes_of o) (nodes_of i) before after None).
      let among = ap leaves_in at.first ∙ leaves_in-append before (None ∷ at.rest) in
      let below : leaf < length (packings_of o) = omega (arith, among, leaves_in-nodes_of o) in
      rw (
        replaced-outside on leaf new o i below,
        nodes_of-replaced o leaf before at.rest at.first passed,
        at.second,
        head,
      )
      (ap (λ z. Some on ∷ z) (append_assoc before (nodes_of new ++ at.rest) (nodes_of i)
      ∙ ap (λ z. before ++ z) (append_assoc (nodes_of new) at.rest (nodes_of i)))))
      (λ (at : IsInSecond (nodes_of o) (nodes_of i) before after None).
      let among = ap leaves_in at.first ∙ leaves_in-append (nodes_of o) at.more in
      let past : leaf ≡ length (packings_of o) + leaves_in at.more = omega (arith, among, leaves_in-nodes_of o) in
      rw (
        replaced-inside on leaf (leaves_in at.more) new o i past,
        nodes_of-replaced i (leaves_in at.more) at.more after at.second refl,
        at.first,
        head,
      )
      (ap (λ z. Some on ∷ z) (sym (append_assoc (nodes_of o) at.more (nodes_of new ++ after)))))
      (place_in_append (nodes_of o) (nodes_of i) before after None tail)

  -- and so do its packings
  pub packings_of-replaced : (t : Tree S) (leaf : ℕ) (before after : List (List Cut)) (cuts : List Cut) →
      packings_of t ≡ before ++ cuts ∷ after → length before ≡ leaf →
      packings_of (replaced leaf new t) ≡ before ++ (packings_of new ++ after)
  packings_of-replaced (Leaf last) leaf [] after cuts same count =
      let last : after ≡ [] = cc in rw last (sym (append-nil (packings_of new)))
  packings_of-replaced (Leaf last) leaf (x ∷ []) after cuts same count = absurd cc
  packings_of-replaced (Leaf last) leaf (x ∷ y ∷ before) after cuts same count = absurd cc
  packings_of-replaced (Split on o i) leaf before after cuts same count =
      ⊎_elim
      (λ (at : IsInFirst (packings_of o) (packings_of i) before after cuts).
      let below : leaf < length (packings_of o) =
      omega (arith, ap length at.first ∙ length-append before (cuts ∷ at.rest)) in
      rw (
        replaced-outside on leaf new o i below,
        packings_of-replaced o leaf before at.rest cuts at.first count,
        at.second,
      )
      (append_assoc before (packings_of new ++ at.rest) (packings_of i)
      ∙ ap (λ z. before ++ z) (append_assoc (packings_of new) at.rest (packings_of i))))
      (λ (at : IsInSecond (packings_of o) (packings_of i) before after cuts).
      let past : leaf ≡ length (packings_of o) + length at.more =
      omega (arith, ap length at.first ∙ length-append (packings_of o) at.more) in
      rw (
        replaced-inside on leaf (length at.more) new o i past,
        packings_of-replaced i (length at.more) at.more after cuts at.second refl,
        at.first,
      )
      (sym (append_assoc (packings_of o) at.more (packings_of new ++ after))))
      (place_in_append (packings_of o) (packings_of i) before after cuts same)

  -- its splits are added to the tree's
  pub split_count-replaced : (t : Tree S) (leaf : ℕ) → leaf < length (packings_of t) →
      split_count (replaced leaf new t) ≡ split_count t + split_count new
  split_count-replaced (Leaf cuts) leaf below = omega arith
  split_count-replaced (Split on o i) leaf below =
      ⊎_elim
      (λ (first : leaf < length (packings_of o)).
      rw (replaced-outside on leaf new o i first) (omega (arith, split_count-replaced o leaf first)))
      (λ (past : length (packings_of o) ≤ leaf).
      let more = leaf - length (packings_of o) in
      let sum : leaf ≡ length (packings_of o) + more = omega arith in
      let within : more < length (packings_of i) = omega (arith, length-append (packings_of o) (packings_of i)) in
      rw (replaced-inside on leaf more new o i sum) (omega (arith, split_count-replaced i more within)))
      (cases_lt leaf (length (packings_of o)))

  -- .. and it has as many leaves more
  pub length-packings_of-replaced : (t : Tree S) (leaf : ℕ) → leaf < length (packings_of t) →
      length (packings_of (replaced leaf new t)) ≡ length (packings_of t) + split_count new
  length-packings_of-replaced t leaf below =
      omega (arith, length-packings_of (replaced leaf new t), length-packings_of t, split_count-replaced t leaf below)
