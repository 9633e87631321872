use Rattle.std.proofs.Common.{◌≡◌, ◌≤◌, List, ℕ, length, subst, sym, arith}
use Rattle.std.specs.Prelude.{All, Contains}
use Rattle.std.specs.declared.cmp.Ordering.TheVariants.{Less}
use Rattle.std.proofs.lemmas.List.Elements.{All-contains_itself}
use Rattle.full_tree.specs.Order.{tree_cmp, IsInFileOrder}
use Rattle.full_tree.specs.declared.code.Tree.{Tree}
use Rattle.fst_prune.specs.Kept.{AreKeptTrees}
use Rattle.fst_prune.specs.LeastTotal.{KeepsTotals}
use Rattle.fst_prune.proofs.lemmas.Totals.{pruning_keeps_totals}
use Rattle.fst_prune.proofs.lemmas.KeptPairs.{pairs_still_join}
use Rattle.fst_prune.proofs.lemmas.Flags.{AreKeptOf, kept_of_none, kept_of_kept, kept_of_dropped, kept_of_all, length-trees_of, All-trees_of, AllPairs-trees_of}
use Rattle.fst_prune.proofs.pruning.prune.Goals.{then-not-branch+in_ok-push, else-not-branch}
use Rattle.fst_prune.proofs.pruning.prune.Goals as goal

pub loop-place-init : goal.loop-place-init
loop-place-init c = subst (λ (kept : List Tree). AreKeptOf c.args.trees.now 0 kept) (sym c.empty-kept.ensures) (kept_of_none c.args.trees.now)

pub loop-place-preserved : goal.loop-place-preserved
loop-place-preserved c =
    grind (arith, then-not-branch+in_ok-push, AreKeptOf, kept_of_kept, else-not-branch, kept_of_dropped)

pub returns : goal.returns
returns c =
    let trees = c.args.trees.now in
    let list = c.loop-place.kept in
    let all : c.loop-place.place ≡ length trees =
    omega (arith, c.loop-place-test.false, c.loop-place.auto.place-end, c.len-place-end.ensures) in
    let kept : AreKeptTrees trees list = kept_of_all trees list (subst (λ (m : ℕ). AreKeptOf trees m list) all c.loop-place.invariant) in
    let totals : KeepsTotals trees list = pruning_keeps_totals trees list c.requires.order kept in
    record {
      kept = kept;
      among = subst (λ (ts : List Tree). All (Contains trees) ts) (sym kept.all) (All-trees_of (Contains trees) trees kept.set (All-contains_itself trees));
      few = subst (λ (ts : List Tree). length ts ≤ length trees) (sym kept.all) (length-trees_of trees kept.set);
      order = subst (λ (ts : List Tree). IsInFileOrder ts) (sym kept.all) (AllPairs-trees_of (λ a b. tree_cmp a b ≡ Less) trees kept.set c.requires.order);
      no_worse = totals.no_worse;
      matched = totals.matched;
      least = totals.least;
      pairs_join = pairs_still_join trees list kept;
    }
