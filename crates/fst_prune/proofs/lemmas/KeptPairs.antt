-- Pruning keeps a pair for each two terminals that have one, so the pairs that are kept join what all pairs join.
use Rattle.std.proofs.Common.{ℕ, zero, suc, ◌≡◌, ◌<◌, ◌≤◌, ◌⊎◌, Bool, true, false, List, [], ◌∷◌, length, get_or, sym, subst, ap, ◌∙◌, arith, ⊎_elim, Some}
use Rattle.std.specs.Prelude.{slice_get}
use Rattle.std.proofs.lemmas.Bool.{cases_Bool}
use Rattle.std.proofs.lemmas.Option.{same_Some, slice_get_within, slice_get-get_or, get_or_from_slice_get}
use Rattle.net_graph.specs.SearchLaws.{Leads-weaker}
use Rattle.full_tree.specs.declared.code.Tree.{Tree}
use Rattle.full_tree.specs.Code.{members_of}
use Rattle.full_tree.specs.Pairs.{HasPair}
use Rattle.fst_prune.specs.Kept.{IsRepeat, IsReplaced, trees_of, IsKeptSet, AreKeptTrees}
use Rattle.fst_prune.specs.LeastTotal.{PairsStillJoin}
use Rattle.fst_prune.proofs.lemmas.Sublists.{has-restrict}

-- a flag is true or false
pub flag_cases : (flags : List Bool) (k : ℕ) → k < length flags → (slice_get flags k ≡ Some true) ⊎ (slice_get flags k ≡ Some false)
flag_cases flags k inside = grind (arith, slice_get-get_or flags k false inside, cases_Bool (get_or flags k false))

-- both places in either order
abbrev AreTwo : ℕ → ℕ → List ℕ → Type 0
AreTwo i j ms = (ms ≡ i ∷ j ∷ []) ⊎ (ms ≡ j ∷ i ∷ [])

two_count : (ms : List ℕ) (i j : ℕ) → AreTwo i j ms → length ms ≡ 2
two_count ms i j h = grind arith

module _ (trees : List Tree) (flags : List Bool) (is : IsKeptSet trees flags) (i j : ℕ) where
  -- a tree of two members is kept, or an earlier one of the same members is
  pair_kept : (bound k : ℕ) (tree : Tree) → k < bound → slice_get trees k ≡ Some tree → AreTwo i j (members_of tree.code)
      → HasPair (trees_of trees flags) i j
  pair_kept zero k tree below at two = absurd (omega arith)
  pair_kept (suc bound) k tree below at two = ⊎_elim
      (λ (kept : slice_get flags k ≡ Some true).
      let has = has-restrict trees flags flags k tree kept kept at in
      let inside = slice_get_within (trees_of trees flags) has.0 tree has.2 in
      record { tree = tree; listed = (has.0, inside, get_or_from_slice_get (trees_of trees flags) has.0 tree tree has.2); members = two })
      (λ (out : slice_get flags k ≡ Some false). ⊎_elim
      (λ (again : IsRepeat trees k).
      let one : again.tree ≡ tree = same_Some again.tree tree (sym again.at ∙ at) in
      let same = again.same ∙ ap (λ (t : Tree). members_of t.code) one in
      pair_kept bound again.place again.earlier (omega (arith, again.before)) again.at_earlier (subst (AreTwo i j) (sym same) two))
      (λ (replaced : IsReplaced trees k).
      let one : replaced.tree ≡ tree = same_Some replaced.tree tree (sym replaced.at ∙ at) in
      let three : 3 ≤ length (members_of tree.code) = subst (λ t. 3 ≤ length (members_of t.code)) one replaced.three in
      absurd (omega (arith, three, two_count (members_of tree.code) i j two)))
      (is.drops k out))
      (flag_cases flags k (omega (arith, is.size, slice_get_within trees k tree at)))

pub pairs_still_join : (trees kept : List Tree) → AreKeptTrees trees kept → PairsStillJoin trees kept
pairs_still_join trees kept are n joins a b a_in b_in = Leads-weaker (HasPair trees) (HasPair kept)
    (λ i j pair.
    let (k, inside, found) = pair.listed in
    let at : slice_get trees k ≡ Some pair.tree = slice_get-get_or trees k pair.tree inside ∙ ap Some found in
    subst (λ ts. HasPair ts i j) (sym are.all) (pair_kept trees are.set are.is i j (suc k) k pair.tree (omega arith) at pair.members))
    a b (joins a b a_in b_in)
