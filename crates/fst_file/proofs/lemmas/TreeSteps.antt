-- One more tree of a file.
use Rattle.std.specs.Prelude.{ℕ, ◌≡◌, ◌-◌, ◌<◌, ◌≤◌, List, [], ◌∷◌, ◌++◌, length}
use Rattle.std.specs.List.{AllByRecursion}
use Rattle.std.specs.declared.cmp.Ordering.TheVariants.{Less}
use Rattle.std.proofs.Common.{arith, sym, subst, inl, inr, get_or}
use Rattle.std.proofs.lemmas.Bool.{cases_lt}
use Rattle.std.proofs.lemmas.Option.{slice_get-get_or}
use Rattle.std.proofs.lemmas.List.Quantifiers.{all_pairs_push}
use Rattle.points_in.specs.declared.point.Point.{Point}
use Rattle.full_tree.specs.declared.code.Tree.{Tree}
use Rattle.full_tree.specs.Form.{IsInForm}
use Rattle.full_tree.specs.Order.{tree_cmp, IsInFileOrder}
use Rattle.full_tree.specs.OrderLaws.{tree_cmp_total}
use Rattle.fst_file.specs.declared.fault.FstFault.{FstFault}
use Rattle.fst_file.specs.Value.{IsTreeOf}
use Rattle.fst_file.specs.Faults.{IsTreeFault, Follows}
use Rattle.fst_file.specs.Kept.{StandsForCode}

-- a tree that is kept as it is
pub same_tree : (kept t : Tree) → kept.length ≡ t.length → kept.code ≡ t.code → kept ≡ t
same_tree kept t e f = grind arith

-- what is wrong with the kept tree is wrong with the spelled one
pub kept_fault : (ps : List Point) (ts : List Tree) (n : ℕ) (kept t : Tree) (f : FstFault) → length ps ≤ 50 → kept.length ≡ t.length
    → StandsForCode kept.code t.code → IsTreeFault ps ts n kept f → IsTreeFault ps ts n t f
kept_fault ps ts n kept t f fifty e stands (inl (out, is)) =
    inl (λ form. out (subst (IsInForm ps) (sym (stands ps fifty (inl form))) form), is)
kept_fault ps ts n kept t f fifty e stands (inr (inl wrong)) =
    subst (λ s. IsTreeFault ps ts n s f) (same_tree kept t e (stands ps fifty (inr wrong.0))) (inr (inl wrong))
kept_fault ps ts n kept t f fifty e stands (inr (inr late)) =
    subst (λ s. IsTreeFault ps ts n s f) (same_tree kept t e (stands ps fifty (inr late.0.form))) (inr (inr late))

-- one more of them
pub trees_push : (ps : List Point) (ts : List Tree) (t : Tree) → AllByRecursion (IsTreeOf ps) ts → IsTreeOf ps t
    → AllByRecursion (IsTreeOf ps) (ts ++ t ∷ [])
trees_push ps [] t all here = (here, tt)
trees_push ps (u ∷ ts) t all here = (all.0, trees_push ps ts t all.1 here)

-- the last of some trees comes before the next one, as its place tells
last_before : (ts : List Tree) (t d : Tree) → 0 < length ts → Follows ts t → tree_cmp (get_or ts (length ts - 1) d) t ≡ Less
last_before ts t d some follows = grind (arith, slice_get-get_or)

-- a list in order with one more tree that comes after its last one
pub order_push : (ts : List Tree) (t : Tree) → IsInFileOrder ts → Follows ts t → IsInFileOrder (ts ++ t ∷ [])
order_push ts t ordered follows =
    all_pairs_push (λ a b. tree_cmp a b ≡ Less) ts t ordered (λ k d within.
    let last = last_before ts t d (omega arith) follows in
    elim (cases_lt k (length ts - 1)) [
      | inl before ↦ tree_cmp_total.trans (get_or ts k d) (get_or ts (length ts - 1) d) t (ordered k (length ts - 1) d before (omega arith)) last
      | inr here ↦ let same : k ≡ length ts - 1 = omega arith in subst (λ i. tree_cmp (get_or ts i d) t ≡ Less) (sym same) last
    ])
