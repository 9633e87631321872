-- The format of a file is settled.
use Rattle.std.specs.Prelude.{ℕ, ◌≡◌, ◌-◌, ◌<◌, List, [], ◌∷◌, ◌++◌, length, IfSome}
use Rattle.std.specs.List.{AllByRecursion}
use Rattle.std.specs.declared.cmp.Ordering.TheVariants.{Less}
use Rattle.std.proofs.Common.{arith, sym, ◌∙◌, subst, inl, inr, get_or}
use Rattle.std.proofs.lemmas.List.{length-append}
use Rattle.std.proofs.Math.ListN.{get_or-append}
use Rattle.std.proofs.Math.Seq.{get_or-append_seam}
use Rattle.std.proofs.lemmas.Option.{slice_get-get_or}
use Rattle.points_in.specs.declared.point.Point.{Point}
use Rattle.full_tree.specs.declared.code.Tree.{Tree}
use Rattle.full_tree.specs.Order.{tree_cmp, IsInFileOrder}
use Rattle.section_text.specs.Format.{IsLawful}
use Rattle.fst_file.specs.declared.fault.FstFault.{FstFault}
use Rattle.fst_file.specs.Value.{IsTreeOf}
use Rattle.fst_file.specs.Faults.{IsTreeFault, Follows}
use Rattle.fst_file.specs.Format.{fst_format}
use Rattle.fst_file.proofs.lemmas.Codes.{fits_form}
use Rattle.fst_file.proofs.lemmas.LineWords.{title, trees_word, tree}
use Rattle.fst_file.proofs.lemmas.TreeSteps.{trees_push, order_push}
use Rattle.fst_file.proofs.lemmas.Unique.{tree_one}

-- a tree that is right has no fault
tree_right : (ps : List Point) (ts : List Tree) (n : ℕ) (t : Tree) (f : FstFault) → IsTreeOf ps t → Follows ts t → IsTreeFault ps ts n t f → ⊥
tree_right ps ts n t f right follows (inl (out, is)) = out right.form
tree_right ps ts n t f right follows (inr (inl (form, other, is))) = other right.length_is
tree_right ps ts n t f right follows (inr (inr (one, late, is))) = late follows

-- and one that is wrong has one fault
tree_fault_one : (ps : List Point) (ts : List Tree) (n : ℕ) (t : Tree) (f g : FstFault) → IsTreeFault ps ts n t f → IsTreeFault ps ts n t g → f ≡ g
tree_fault_one ps ts n t f g (inl (a, e)) (inl (b, e')) = e ∙ sym e'
tree_fault_one ps ts n t f g (inl (a, e)) (inr (inl (form, other, e'))) = absurd (a form)
tree_fault_one ps ts n t f g (inl (a, e)) (inr (inr (one, late, e'))) = absurd (a one.form)
tree_fault_one ps ts n t f g (inr (inl (form, other, e))) (inl (b, e')) = absurd (b form)
tree_fault_one ps ts n t f g (inr (inl (form, other, e))) (inr (inl (form', other', e'))) = e ∙ sym e'
tree_fault_one ps ts n t f g (inr (inl (form, other, e))) (inr (inr (one, late, e'))) = absurd (other one.length_is)
tree_fault_one ps ts n t f g (inr (inr (one, late, e))) (inl (b, e')) = absurd (b one.form)
tree_fault_one ps ts n t f g (inr (inr (one, late, e))) (inr (inl (form, other, e'))) = absurd (other one.length_is)
tree_fault_one ps ts n t f g (inr (inr (one, late, e))) (inr (inr (one', late', e'))) = e ∙ sym e'

-- each of some trees of the points is one
tree_of : (ps : List Point) (told rest : List Tree) (t : Tree) → AllByRecursion (IsTreeOf ps) (told ++ t ∷ rest) → IsTreeOf ps t
tree_of ps [] rest t all = all.0
tree_of ps (u ∷ told) rest t all = tree_of ps told rest t all.1

-- of trees in order each follows those before it
follows_last : (ts rest : List Tree) (t : Tree) → 0 < length ts → IsInFileOrder (ts ++ t ∷ rest) → Follows ts t
follows_last ts rest t some ordered =
    let all : List Tree = ts ++ t ∷ rest in
    let place : ℕ = length ts - 1 in
    let here : tree_cmp (get_or all place t) (get_or all (length ts) t) ≡ Less =
    ordered place (length ts) t (omega arith) (omega (arith, length-append ts (t ∷ rest))) in
    let last : tree_cmp (get_or all place t) t ≡ Less = subst (λ b. tree_cmp (get_or all place t) b ≡ Less) (get_or-append_seam ts t rest t) here in
    let before : tree_cmp (get_or ts place t) t ≡ Less = subst (λ a. tree_cmp a t ≡ Less) (get_or-append ts (t ∷ rest) t place (omega arith)) last in
    subst (λ o. IfSome o (λ u. tree_cmp u t ≡ Less)) (sym (slice_get-get_or ts place t (omega arith))) before

follows : (told rest : List Tree) (t : Tree) → IsInFileOrder (told ++ t ∷ rest) → Follows told t
follows [] rest t ordered = tt
follows (u ∷ told) rest t ordered = follows_last (u ∷ told) rest t (omega arith) ordered

pub fst_lawful : IsLawful fst_format
fst_lawful = record {
  title = title;
  kind = trees_word;
  few = omega arith;
  one_item = tree_one;
  item_line = tree;
  spelled = λ ps ts t few right. record { length_fits = right.0.length_fits; places_fit = fits_form ps t.code few right.0.form };
  points = λ ps. record { none = λ fit f long. (let below = fit in let above = long.0 in omega arith); one = λ f g long long'. long.1 ∙ sym long'.1 };
  item = λ ps ts n t. record { none = λ right f. tree_right ps ts n t f right.0 right.1; one = tree_fault_one ps ts n t };
  whole = λ ps ts. record { none = λ is f wrong. wrong; one = λ f g wrong. absurd wrong };
  none = λ ps. (tt, λ i j d before within. absurd (omega arith));
  push = λ ps ts t are right. (trees_push ps ts t are.0 right.0, order_push ts t are.1 right.1);
  next = λ ps ts rest t are. (tree_of ps ts rest t are.0, follows ts rest t are.1);
}
