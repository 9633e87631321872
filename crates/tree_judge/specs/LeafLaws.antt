-- What the steps of a leaf tell: a feasible packing where they all pass, and they pass where it is one.
use Rattle.std.proofs.Common.{ℕ, suc, ◌≡◌, ◌-◌, ◌<◌, ◌≤◌, List, [], ◌∷◌, ◌++◌, length, map, All, None, refl, sym}
use Rattle.std.proofs.Common.{ap, ◌∙◌, subst, arith, append_assoc, length-append}
use Rattle.std.specs.Prelude.{if◌then◌else◌}
use Rattle.std.proofs.lemmas.List.{get_or_at}
use Rattle.std.proofs.lemmas.List.Elements.{All-nil, All-push, All-head, All-tail}
use Rattle.std.proofs.lemmas.List.Sums.{sum_by-append, sum_by-cons}
use Rattle.net_graph.specs.declared.edge.Edge.{Edge}
use Rattle.net_graph.specs.declared.packing.Cut.{Cut}
use Rattle.net_graph.specs.declared.state.EdgeState.{EdgeState}
use Rattle.net_graph.specs.declared.state.EdgeState.TheVariants.{Undecided, Inside, Outside}
use Rattle.net_graph.specs.Graph.{Graph}
use Rattle.net_graph.specs.Decision.{Decided}
use Rattle.net_graph.specs.Packing.{IsCut, IsFeasible, IsWithinRoom, enters, load}
use Rattle.tree_judge.specs.declared.step.Step.TheVariants as step
use Rattle.tree_judge.specs.Cuts.{PacksCut}
use Rattle.tree_judge.specs.Judged.{SoFar, decision_due, with_cut, with_cuts_due}
use Rattle.tree_judge.specs.Runs.{HasWeight, Runs, cut_step}
use Rattle.tree_judge.specs.TreeRead.{leaf_read}

-- a cut of a feasible packing
abbrev IsPacked : Graph → Decided → Cut → Type 0
IsPacked g d c = (0 < c.weight) × IsCut g d c.members

-- no load is above any room
within_any : (state : EdgeState) (e : Edge) → IsWithinRoom state e 0
within_any Undecided e = omega arith
within_any Inside e = omega arith
within_any Outside e = tt

-- the packing with no cut is feasible
feasible_none : (g : Graph) (d : Decided) → IsFeasible g d []
feasible_none g d = grind (arith, All-nil (IsPacked g d), within_any)

-- one more cut
feasible_more : (g : Graph) (d : Decided) (cuts : List Cut) (c : Cut) → IsFeasible g d cuts → 0 < c.weight →
    PacksCut g d cuts c → IsFeasible g d (cuts ++ c ∷ [])
feasible_more g d cuts c feasible some packs = record {
  cuts = All-push (IsPacked g d) cuts c feasible.cuts (some, packs.cut);
  room = packs.room;
}

-- ---- what cuts tell that pass

-- cuts that each pass behind a feasible packing, as many as are due: the leaf ends with a feasible packing
cuts_told : (g : Graph) (s s' : SoFar) (before : List Cut) (c : Cut) (cuts : List Cut) →
    Runs g s (map cut_step (c ∷ cuts)) s' → All HasWeight (c ∷ cuts) → s.cuts ≡ before →
    s.cuts_due ≡ suc (length cuts) → IsFeasible g (decision_due g s) before →
    (s' ≡ leaf_read g s (before ++ c ∷ cuts)) × IsFeasible g (decision_due g s) (before ++ c ∷ cuts)
cuts_told g s s' before c [] (m, (packs, is), runs) fits are due feasible =
    let first = All-head HasWeight c [] fits in
    let none : s.cuts_due - 1 ≡ 0 = omega arith in
    let packed : PacksCut g (decision_due g s) before c = subst
    (λ xs. PacksCut g (decision_due g s) xs c) are packs in (
      runs ∙ is ∙ ap (with_cuts_due g (record s { cuts = s.cuts ++ c ∷ [] })) none ∙ ap
          (λ xs. leaf_read g s (xs ++ c ∷ [])) are,
      feasible_more g (decision_due g s) before c feasible first packed,
    )
cuts_told g s s' before c (c' ∷ cuts) (m, (packs, is), runs) fits are due feasible =
    let first = All-head HasWeight c (c' ∷ cuts) fits in
    let more : s.cuts_due - 1 ≡ suc (length cuts) = omega arith in
    let packed : PacksCut g (decision_due g s) before c = subst (λ xs. PacksCut g (decision_due g s) xs c) are packs in
    let next : m ≡ record s { cuts = s.cuts ++ c ∷ []; cuts_due = suc (length cuts) } = is ∙ ap
    (with_cuts_due g (record s { cuts = s.cuts ++ c ∷ [] })) more in
    let same : decision_due g m ≡ decision_due g s = ap (decision_due g) next in
    let grown = feasible_more g (decision_due g s) before c feasible first packed in
    let rest = cuts_told g m s' (before ++ c ∷ []) c' cuts runs (All-tail HasWeight c (c' ∷ cuts) fits)
    (ap (λ (x : SoFar). x.cuts) next ∙ ap (λ xs. xs ++ c ∷ []) are) (ap (λ (x : SoFar). x.cuts_due) next)
    (subst (λ d. IsFeasible g d (before ++ c ∷ [])) (sym same) grown) in
    let joined = append_assoc before (c ∷ []) (c' ∷ cuts) in (
      rest.0 ∙ ap (λ x. leaf_read g x ((before ++ c ∷ []) ++ c' ∷ cuts)) next ∙ ap (leaf_read g s) joined,
      subst (IsFeasible g (decision_due g s)) joined
          (subst (λ d. IsFeasible g d ((before ++ c ∷ []) ++ c' ∷ cuts)) same rest.1),
    )

-- a leaf whose steps all pass
pub leaf_told : (g : Graph) (s s' : SoFar) (cuts : List Cut) →
    Runs g s ((step.Leaf (length cuts), None) ∷ map cut_step cuts) s' → All HasWeight cuts → s.cuts ≡ [] →
    (s' ≡ leaf_read g s cuts) × IsFeasible g (decision_due g s) cuts
leaf_told g s s' [] (m, is, runs) fits are = grind (arith, feasible_none g (decision_due g s))
leaf_told g s s' (c ∷ cuts) (m, is, runs) fits are =
    let same : decision_due g m ≡ decision_due g s = ap (decision_due g) is in
    let rest = cuts_told g m s' [] c cuts runs fits (ap (λ (x : SoFar). x.cuts) is ∙ are)
    (ap (λ (x : SoFar). x.cuts_due) is) (feasible_none g (decision_due g m)) in (
      rest.0 ∙ ap (λ x. leaf_read g x (c ∷ cuts)) is,
      subst (λ d. IsFeasible g d (c ∷ cuts)) same rest.1,
    )

-- ---- cuts of a feasible packing pass

-- the first cuts load an arc no more than all of them
load-front : (done : List Cut) (c : Cut) (due : List Cut) (u v : ℕ) →
    load (done ++ c ∷ []) u v ≤ load (done ++ c ∷ due) u v
load-front done c due u v =
    let amount : Cut → ℕ = λ c. if enters c.members u v then c.weight else 0 in
    omega (
      arith,
      sum_by-append amount done (c ∷ []),
      sum_by-append amount done
          (c ∷ due),
      sum_by-cons amount c [],
      sum_by-cons amount c due,
    )

-- a lesser load is within the room too
within_lesser : (state : EdgeState) (e : Edge) (less more : ℕ) → less ≤ more → IsWithinRoom state e more →
    IsWithinRoom state e less
within_lesser Undecided e less more le within = omega arith
within_lesser Inside e less more le within = omega arith
within_lesser Outside e less more le within = tt

-- a member of a feasible packing may stand behind those before it
member_packs : (g : Graph) (d : Decided) (done : List Cut) (c : Cut) (due : List Cut) →
    IsFeasible g d (done ++ c ∷ due) → PacksCut g d done c
member_packs g d done c due feasible = record {
  cut = let is = feasible.cuts (length done) c (omega (arith, length-append done (c ∷ due))) in
      subst (λ (x : Cut). IsCut g d x.members) (get_or_at done c due c (length done) refl) is.1;
  room = λ n e state at decided. (
    within_lesser state e (load (done ++ c ∷ []) e.a e.b) (load (done ++ c ∷ due) e.a e.b)
        (load-front done c due e.a e.b) (feasible.room n e state at decided).0,
    within_lesser state e (load (done ++ c ∷ []) e.b e.a) (load (done ++ c ∷ due) e.b e.a)
        (load-front done c due e.b e.a) (feasible.room n e state at decided).1,
  );
}

-- the steps of as many cuts as are due pass
cuts_pass : (g : Graph) (s : SoFar) (done : List Cut) (c : Cut) (due : List Cut) →
    IsFeasible g (decision_due g s) (done ++ c ∷ due) → s.cuts ≡ done →
    s.cuts_due ≡ suc (length due) → Runs g s (map cut_step (c ∷ due)) (leaf_read g s (done ++ c ∷ due))
cuts_pass g s done c [] feasible are count =
    let none : s.cuts_due - 1 ≡ 0 = omega arith in
    let packs = subst (λ xs. PacksCut g (decision_due g s) xs c) (sym are)
    (member_packs g (decision_due g s) done c [] feasible) in
    let is : with_cut g s c ≡ leaf_read g s (done ++ c ∷ []) =
    ap (with_cuts_due g (record s { cuts = s.cuts ++ c ∷ [] })) none ∙ ap (λ xs. leaf_read g s (xs ++ c ∷ [])) are in
    (with_cut g s c, (packs, refl), sym is)
cuts_pass g s done c (c' ∷ due) feasible are count =
    let more : s.cuts_due - 1 ≡ suc (length due) = omega arith in
    let packs = subst (λ xs. PacksCut g (decision_due g s) xs c) (sym are)
    (member_packs g (decision_due g s) done c (c' ∷ due) feasible) in
    let next : with_cut g s c ≡ record s { cuts = s.cuts ++ c ∷ []; cuts_due = suc (length due) } = ap
    (with_cuts_due g (record s { cuts = s.cuts ++ c ∷ [] })) more in
    let m : SoFar = record s { cuts = s.cuts ++ c ∷ []; cuts_due = suc (length due) } in
    let joined = append_assoc done (c ∷ []) (c' ∷ due) in
    let rest : Runs g m (map cut_step (c' ∷ due)) (leaf_read g m ((done ++ c ∷ []) ++ c' ∷ due)) =
    cuts_pass g m (done ++ c ∷ []) c' due (subst (IsFeasible g (decision_due g s)) (sym joined) feasible)
    (ap (λ xs. xs ++ c ∷ []) are) refl in
    let ending : Runs g m (map cut_step (c' ∷ due)) (leaf_read g s (done ++ c ∷ c' ∷ due)) =
    subst (λ xs. Runs g m (map cut_step (c' ∷ due)) (leaf_read g s xs)) joined rest in (
      with_cut g s c,
      (packs, refl),
      subst (λ x. Runs g x (map cut_step (c' ∷ due))
          (leaf_read g s (done ++ c ∷ c' ∷ due))) (sym next) ending,
    )

-- the steps of a leaf pass
pub leaf_passes : (g : Graph) (s : SoFar) (cuts : List Cut) → IsFeasible g (decision_due g s) cuts → s.cuts ≡ [] →
    Runs g s ((step.Leaf (length cuts), None) ∷ map cut_step cuts) (leaf_read g s cuts)
leaf_passes g s [] feasible are = (with_cuts_due g s 0, refl, sym (ap (leaf_read g s) are))
leaf_passes g s (c ∷ cuts) feasible are =
    let m : SoFar = record s { cuts_due = suc (length cuts) } in
    (m, refl, cuts_pass g m [] c cuts feasible are refl)
