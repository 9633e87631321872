-- Pruning keeps the totals of concatenations: each tree that is dropped is replaced by kept trees that join its members at
-- no greater length.
use Rattle.std.proofs.Common.{ℕ, zero, suc, ◌≡◌, ◌<◌, ◌≤◌, Bool, true, false, List, length, get_or, sym, subst, ◌∙◌, arith, ⊎_elim, Some}
use Rattle.std.specs.Prelude.{Contains, slice_get, slice_index_or}
use Rattle.std.specs.declared.cmp.Ordering.TheVariants.{Less, Equal, Greater}
use Rattle.std.specs.Ordering.{nat_cmp}
use Rattle.std.specs.Cmp.{nat_cmp_is}
use Rattle.std.proofs.lemmas.Bool.{cases_lt}
use Rattle.std.proofs.lemmas.List.{length-map}
use Rattle.std.proofs.lemmas.Option.{same_Some, slice_get_within, get_or_from_slice_get}
use Rattle.net_graph.specs.Search.{Leads}
use Rattle.net_graph.specs.SearchLaws.{Leads-start, Leads-more, Leads-keeps, Leads-trans, Leads-weaker}
use Rattle.full_tree.specs.declared.code.Tree.{Tree}
use Rattle.full_tree.specs.Order.{tree_cmp, IsInFileOrder}
use Rattle.concatenation.specs.Concatenation.{IsMember, SharesTree, IsConcatenation, total_of}
use Rattle.fst_prune.specs.Kept.{IsRepeat, IsReplaced, trees_of, IsKeptSet}
use Rattle.fst_prune.specs.LeastTotal.{HasConcatenation, IsNoWorse, IsMatched, HaveOneLeastTotal, PruningKeepsTotals}
use Rattle.fst_prune.proofs.lemmas.Sums.{weights_of, sum_of_trees, single, length-single, single_has, single_only, sum_of-single, Part, Holds, ComesFrom, Gathered, gather}
use Rattle.fst_prune.proofs.lemmas.Sublists.{restrict, expand, IsWithin, total_of-restrict, total_of-expand, IsConcatenation-restrict, IsConcatenation-expand}
use Rattle.fst_prune.proofs.lemmas.Replaced.{weight_at}
use Rattle.fst_prune.proofs.lemmas.KeptPairs.{flag_cases}

no_longer : (a b : Tree) → tree_cmp a b ≡ Less → a.length ≤ b.length
no_longer a b less = ⊎_elim
    (λ (few : b.length < a.length).
    let o = nat_cmp a.length b.length in
    let above : Greater ≡ o = nat_cmp_is a.length b.length Greater few in
    absurd (⊎_elim (λ (low : o ≡ Less). let e = above ∙ low in cc) (λ (tied : o ≡ Equal). let e = above ∙ tied in cc) (grind arith)))
    (λ (most : a.length ≤ b.length). most)
    (cases_lt b.length a.length)

-- The set is of kept trees, and joins the members of the tree at place k.
record StandsIn (trees : List Tree) (flags : List Bool) (k : ℕ) (part : List Bool) : Type 0 where
  kept : IsWithin part flags
  joins : (tree : Tree) (i j : ℕ) → slice_get trees k ≡ Some tree → IsMember tree i → IsMember tree j → Leads (SharesTree trees part) i j

module _ (trees : List Tree) (flags : List Bool) (is : IsKeptSet trees flags) (order : IsInFileOrder trees) where
  -- what stands in for a tree
  abbrev StandIn : ℕ → Type 0
  StandIn k = Part (StandsIn trees flags) (weights_of trees) (length trees) k (get_or (weights_of trees) k 0)

  -- a kept tree stands in for itself
  kept_stands : (k : ℕ) → k < length trees → slice_get flags k ≡ Some true → StandIn k
  kept_stands k inside kept = record {
    part = single (length trees) k;
    size = length-single (length trees) k;
    good = record {
      kept = λ x at. subst (λ j. slice_get flags j ≡ Some true) (sym (single_only (length trees) k x at)) kept;
      joins = λ tree i j at i_in j_in. Leads-more (SharesTree trees (single (length trees) k)) i i j
          (Leads-start (SharesTree trees (single (length trees) k)) i) (k, tree, single_has (length trees) k inside, at, i_in, j_in);
    };
    short = sum_of-single (weights_of trees) (length trees) k;
  }

  -- the kept pairs stand in for a tree that they replace
  replaced_stands : (k : ℕ) → IsReplaced trees k → StandIn k
  replaced_stands k replaced = grind (arith, same_Some, flag_cases, slice_get_within, same_Some, sum_of_trees trees replaced.set, weight_at)

  -- what stands in for the earlier tree stands in for its repeat
  repeat_stands : (k : ℕ) (again : IsRepeat trees k) → StandIn again.place → StandIn k
  repeat_stands k again first = record {
    part = first.part;
    size = first.size;
    good = record {
      kept = first.good.kept;
      joins = λ tree i j at i_in j_in.
          let one : tree ≡ again.tree = same_Some tree again.tree (sym at ∙ again.at) in
          let into = λ (x : ℕ) (x_in : IsMember tree x). subst (λ ms. Contains ms x) (sym again.same) (subst (λ t. IsMember t x) one x_in) in
          first.good.joins again.earlier i j again.at_earlier (into i i_in) (into j j_in);
    };
    short =
        let less : tree_cmp again.earlier again.tree ≡ Less =
        subst (λ a. tree_cmp a again.tree ≡ Less) (get_or_from_slice_get trees again.place again.earlier again.tree again.at_earlier)
        (subst (λ b. tree_cmp (slice_index_or trees again.place again.tree) b ≡ Less) (get_or_from_slice_get trees k again.tree again.tree again.at)
        (order again.place k again.tree again.before (slice_get_within trees k again.tree again.at))) in
        omega (
          arith,
          first.short,
          no_longer again.earlier again.tree less,
          weight_at (λ (t : Tree). t.length) trees k again.tree again.at,
          weight_at (λ (t : Tree). t.length) trees again.place again.earlier again.at_earlier,
        );
  }

  -- kept trees stand in for each tree
  stand_in : (bound k : ℕ) → k < bound → k < length trees → StandIn k
  stand_in zero k below inside = absurd (omega arith)
  stand_in (suc bound) k below inside = ⊎_elim
      (λ (kept : slice_get flags k ≡ Some true). kept_stands k inside kept)
      (λ (out : slice_get flags k ≡ Some false). ⊎_elim
      (λ (again : IsRepeat trees k). repeat_stands k again (stand_in bound again.place (omega (arith, again.before)) (omega (arith, again.before))))
      (λ (replaced : IsReplaced trees k). replaced_stands k replaced)
      (is.drops k out))
      (flag_cases flags k (omega (arith, is.size)))

  module _ (n : ℕ) (set : List Bool) (joined : IsConcatenation n trees set) where
    stood_in : Gathered (StandsIn trees flags) (weights_of trees) (length trees) (weights_of trees) set
    stood_in = gather (weights_of trees) (length trees) (StandsIn trees flags) (weights_of trees) set
        (joined.size ∙ sym (length-map trees (λ (t : Tree). t.length)))
        (λ k at. stand_in (suc k) k (omega arith) (omega (arith, slice_get_within set k true at, joined.size)))

    -- all are kept
    stood_kept : IsWithin stood_in.whole flags
    stood_kept x at =
        let from : ComesFrom (StandsIn trees flags) set x = stood_in.only x at in
        let good : StandsIn trees flags from.number from.part = from.good in
        good.kept x from.has

    -- what a tree of the set joins is joined by what stands in for it
    step_led : (i j : ℕ) → SharesTree trees set i j → Leads (SharesTree trees stood_in.whole) i j
    step_led i j (k, tree, inside, at, i_in, j_in) =
        let held : Holds (StandsIn trees flags) stood_in.whole k = stood_in.holds k inside in
        let good : StandsIn trees flags k held.part = held.good in
        Leads-weaker (SharesTree trees held.part) (SharesTree trees stood_in.whole)
        (λ u w (x, other, x_in, x_at, first, second). (x, other, held.within x x_in, x_at, first, second)) i j
        (good.joins tree i j at i_in j_in)

    stood_joins : IsConcatenation n trees stood_in.whole
    stood_joins = record {
      size = stood_in.size;
      joins = λ i below. Leads-keeps (SharesTree trees set) (λ v. Leads (SharesTree trees stood_in.whole) 0 v) 0 i
          (Leads-start (SharesTree trees stood_in.whole) 0)
          (λ u w led step. Leads-trans (SharesTree trees stood_in.whole) 0 u w led (step_led u w step)) (joined.joins i below);
    }

    pub kept_no_worse : HasConcatenation n (trees_of trees flags) (λ total. total ≤ total_of trees set)
    kept_no_worse = record {
      set = restrict flags stood_in.whole;
      is = IsConcatenation-restrict n trees flags stood_in.whole is.size stood_kept stood_joins;
      total = omega (
        arith,
        total_of-restrict trees flags stood_in.whole is.size stood_in.size stood_kept,
        sum_of_trees trees stood_in.whole,
        stood_in.short,
        sum_of_trees trees set,
      );
    }

  pub kept_matched : (n : ℕ) (set : List Bool) → IsConcatenation n (trees_of trees flags) set
      → HasConcatenation n trees (λ total. total ≡ total_of (trees_of trees flags) set)
  kept_matched n set joined =
      grind (arith, expand flags set, IsConcatenation-expand n trees flags set is.size joined, total_of-expand trees flags set is.size joined.size)

one_least : (trees kept : List Tree) → IsNoWorse trees kept → IsMatched kept trees → HaveOneLeastTotal trees kept
one_least trees kept no_worse matched n total = (
  (λ least set is. let other = matched n set is in omega (arith, least other.set other.is, other.total)),
  (λ least set is. let other = no_worse n set is in omega (arith, least other.set other.is, other.total)),
)

pub pruning_keeps_totals : PruningKeepsTotals
pruning_keeps_totals trees kept order are =
    let no_worse : IsNoWorse trees kept = λ n set is.
    subst (λ ts. HasConcatenation n ts (λ total. total ≤ total_of trees set)) (sym are.all) (kept_no_worse trees are.set are.is order n set is) in
    let matched : IsMatched kept trees = λ n set is.
    subst (λ (ts : List Tree). (other : List Bool) → IsConcatenation n ts other → HasConcatenation n trees (λ total. total ≡ total_of ts other)) (sym are.all)
    (λ other joined. kept_matched trees are.set are.is order n other joined) set is in
    record { no_worse = no_worse; matched = matched; least = one_least trees kept no_worse matched }
