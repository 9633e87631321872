-- What a step does to a search that is under way.
use Rattle.std.specs.Prelude.{slice_set}
use Rattle.std.proofs.Common.{ℕ, suc, ◌≡◌, ◌+◌, ◌<◌, ◌≤◌, ◌⊎◌, List, [], ◌∷◌, ◌++◌, All, length, min, reverse, ap, sym, subst, ◌∙◌, inl, inr, ⊎_elim, length-set, Result, Ok, Err, OnOk, arith}
use Rattle.std.proofs.lemmas.Bool.{cases_order}
use Rattle.std.proofs.lemmas.List.{reverse-append}
use Rattle.full_tree.specs.declared.code.Tree.{Tree}
use Rattle.concatenation.specs.declared.choice.Choice.{Choice}
use Rattle.concatenation.specs.declared.choice.Choice.TheVariants.{Taken, LeftOut}
use Rattle.concatenation.specs.Concatenation.{total_of}
use Rattle.concatenation.specs.Choices.{taken_of, IsLeastUnder}
use Rattle.concatenation.specs.Trails.{IsOpenPlace, CanGoOn, IsNoBetter}
use Rattle.fst_concat.specs.declared.trail.Step.TheVariants.{Close, Fork}
use Rattle.fst_concat.specs.declared.trail_search.Way.{Way}
use Rattle.fst_concat.specs.declared.judge.Verdict.{Verdict}
use Rattle.fst_concat.specs.declared.judge.Verdict.TheVariants.{Done, Undecided}
use Rattle.fst_concat.specs.Verdict.{VerdictHolds}
use Rattle.fst_concat.specs.UnderWay.{EndsWell, IsOpenUpTo, CompletesAll, IsUnderWay}
use Rattle.fst_concat.proofs.lemmas.Levels.{all_cons}
use Rattle.fst_concat.proofs.lemmas.Steps.{CompletesAll-close, CompletesAll-fork}

-- all but the first one
all_rest : {X : Type 0} (P : X → Type 0) (x : X) (xs : List X) → All P (x ∷ xs) → All P xs
all_rest P x xs all = λ k d within. all (suc k) d (omega arith)

-- the list of pending choices from its end, with two more
reverse_two : {X : Type 0} (xs : List X) (a b : X) → reverse (xs ++ a ∷ b ∷ []) ≡ b ∷ a ∷ reverse xs
reverse_two xs a b = reverse-append xs (a ∷ b ∷ [])

-- the choices to be judged next are taken from the list
pub IsUnderWay-pop : (n : ℕ) (trees : List Tree) (allowed total : ℕ) (way after : Way) (choices : List Choice)
    → IsUnderWay n trees allowed total way (reverse way.pending.items) → way.pending.items ≡ after.pending.items ++ choices ∷ []
    → after.steps.items ≡ way.steps.items → after.used ≡ way.used → after.low ≡ way.low
    → IsUnderWay n trees allowed total after (choices ∷ reverse after.pending.items)
IsUnderWay-pop n trees allowed total way after choices before pending steps used low =
    let shape : reverse way.pending.items ≡ choices ∷ reverse after.pending.items =
    ap reverse pending ∙ reverse-append after.pending.items (choices ∷ []) in
    let here : IsUnderWay n trees allowed total way (choices ∷ reverse after.pending.items) =
    subst (IsUnderWay n trees allowed total way) shape before in
    record {
      completes = rw (steps, used, low) here.completes;
      sizes = here.sizes;
      within = omega (arith, used, here.within);
      spent = λ below. used ∙ here.spent (omega (arith, low));
    }

-- a split is opened
pub IsUnderWay-fork : (n : ℕ) (trees : List Tree) (allowed total later : ℕ) (way after : Way) (choices : List Choice) (place : ℕ)
    → IsUnderWay n trees allowed total way (choices ∷ reverse way.pending.items) → later ≤ total → IsOpenPlace choices place
    → CanGoOn n trees choices → way.used < allowed
    → after.steps.items ≡ way.steps.items ++ Fork place ∷ []
    → after.pending.items ≡ way.pending.items ++ slice_set choices place LeftOut ∷ slice_set choices place Taken ∷ []
    → after.used ≡ way.used + 1 → after.low ≡ way.low → IsUnderWay n trees allowed later after (reverse after.pending.items)
IsUnderWay-fork n trees allowed total later way after choices place before lower is_open can room steps pending used low =
    let with_it : List Choice = slice_set choices place Taken in
    let without : List Choice = slice_set choices place LeftOut in
    let Size : List Choice → Type 0 = λ c. length c ≡ length trees in
    let here : length choices ≡ length trees = before.sizes 0 choices (omega arith) in
    let shape : reverse after.pending.items ≡ with_it ∷ without ∷ reverse way.pending.items =
    ap reverse pending ∙ reverse_two way.pending.items without with_it in
    let forked : CompletesAll n trees later way.low (way.used + 1) (way.steps.items ++ Fork place ∷ []) (with_it ∷ without ∷ reverse way.pending.items) =
    CompletesAll-fork n trees total later way.low way.used way.steps.items choices (reverse way.pending.items) place
    before.completes lower is_open can in
    subst (IsUnderWay n trees allowed later after) (sym shape) (record {
      completes = rw (steps, used, low) forked;
      sizes = all_cons Size with_it (without ∷ reverse way.pending.items) (length-set choices place Taken ∙ here)
          (all_cons Size without (reverse way.pending.items) (length-set choices place LeftOut ∙ here)
          (all_rest Size choices (reverse way.pending.items) before.sizes));
      within = omega arith;
      spent = λ below. absurd (omega (arith, before.spent (omega arith)));
    })

-- an end is left
pub IsUnderWay-leave : (n : ℕ) (trees : List Tree) (allowed total later : ℕ) (way after : Way) (choices : List Choice)
    → IsUnderWay n trees allowed total way (choices ∷ reverse way.pending.items) → later ≤ total
    → after.steps.items ≡ way.steps.items ++ Close ∷ [] → after.pending.items ≡ way.pending.items → after.used ≡ way.used
    → after.low ≤ way.low → EndsWell n trees later after.low choices
    → (after.low ≡ way.low) ⊎ (IsOpenUpTo n trees after.low choices × (way.used ≡ allowed))
    → IsUnderWay n trees allowed later after (reverse after.pending.items)
IsUnderWay-leave n trees allowed total later way after choices before lower steps pending used low well left =
    let Size : List Choice → Type 0 = λ c. length c ≡ length trees in
    let closed : CompletesAll n trees later after.low way.used (way.steps.items ++ Close ∷ []) (reverse way.pending.items) =
    CompletesAll-close n trees total later way.low after.low way.used way.steps.items choices (reverse way.pending.items)
    before.completes lower low well (⊎_elim (λ same. inl same) (λ (opened, all). inr opened) left) in
    subst (IsUnderWay n trees allowed later after) (sym (ap reverse pending)) (record {
      completes = rw (steps, used) closed;
      sizes = all_rest Size choices (reverse way.pending.items) before.sizes;
      within = omega (arith, before.within);
      spent = λ below. used ∙ ⊎_elim (λ same. before.spent (omega (arith, same))) (λ (opened, all). all) left;
    })

-- .. where nothing that respects the choices is below the best total
pub IsUnderWay-done : (n : ℕ) (trees : List Tree) (allowed total later : ℕ) (way after : Way) (choices : List Choice)
    → IsUnderWay n trees allowed total way (choices ∷ reverse way.pending.items) → later ≤ total
    → after.steps.items ≡ way.steps.items ++ Close ∷ [] → after.pending.items ≡ way.pending.items → after.used ≡ way.used
    → after.low ≡ way.low → IsNoBetter n trees later choices → IsLeastUnder n trees choices later
    → IsUnderWay n trees allowed later after (reverse after.pending.items)
IsUnderWay-done n trees allowed total later way after choices before lower steps pending used low no_better least =
    IsUnderWay-leave n trees allowed total later way after choices before lower steps pending used (omega arith)
    (record { no_better = no_better; least = λ set joins respects. omega (arith, least set joins respects) })
    (inl low)

-- .. where a search could go on, and no split is left
pub IsUnderWay-left : (n : ℕ) (trees : List Tree) (allowed total later : ℕ) (way after : Way) (choices : List Choice) (least : ℕ)
    → IsUnderWay n trees allowed total way (choices ∷ reverse way.pending.items) → later ≤ total
    → after.steps.items ≡ way.steps.items ++ Close ∷ [] → after.pending.items ≡ way.pending.items → after.used ≡ way.used
    → after.low ≡ min way.low least → CanGoOn n trees choices → IsLeastUnder n trees choices least
    → total_of trees (taken_of choices) ≤ least → allowed ≤ way.used
    → IsUnderWay n trees allowed later after (reverse after.pending.items)
IsUnderWay-left n trees allowed total later way after choices least before lower steps pending used low can bounded taken full =
    let all : way.used ≡ allowed = omega (arith, before.within) in
    IsUnderWay-leave n trees allowed total later way after choices before lower steps pending used (omega arith)
    (record { no_better = λ joins. absurd (can.taken joins); least = λ set joins respects. omega (arith, bounded set joins respects) })
    (elim (cases_order way.low least) [
      | inl same ↦ inl (omega (arith, low, same))
      | inr (inl lower_low) ↦ inl (omega (arith, low, lower_low))
      | inr (inr higher) ↦ inr (record { can_go_on = can; taken = omega (arith, low, higher, taken) }, all)
    ])

-- ---- what a verdict says of choices

pub undecided : (n : ℕ) (trees : List Tree) (shown choices : List Choice) (total : ℕ) (verdict : Verdict) (least place : ℕ)
    → VerdictHolds n trees shown total verdict → verdict ≡ Undecided least place → shown ≡ choices
    → VerdictHolds n trees choices total (Undecided least place)
undecided n trees shown choices total verdict least place holds is same =
    subst (λ cs. VerdictHolds n trees cs total (Undecided least place)) same (subst (VerdictHolds n trees shown total) is holds)

pub done_with : (n : ℕ) (trees : List Tree) (shown choices : List Choice) (total : ℕ) (verdict : Verdict)
    → VerdictHolds n trees shown total verdict → verdict ≡ Done → shown ≡ choices → VerdictHolds n trees choices total Done
done_with n trees shown choices total verdict holds is same =
    subst (λ cs. VerdictHolds n trees cs total Done) same (subst (VerdictHolds n trees shown total) is holds)

-- four facts of an answer give a fifth
pub on_ok : {T E : Type 0} (answer : Result T E) (A B C D F : Type 0) → OnOk answer A → OnOk answer B → OnOk answer C → OnOk answer D
    → (A → B → C → D → F) → OnOk answer F
on_ok (Ok x) A B C D F a b c d gives = gives a b c d
on_ok (Err e) A B C D F a b c d gives = tt
