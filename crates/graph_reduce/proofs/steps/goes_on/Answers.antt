use Rattle.std.specs.Prelude.{ℕ, ◌≡◌, Result, IfOk}
use Rattle.std.specs.Bool.{OnFalse}
use Rattle.std.proofs.Common.{◌∙◌, sym, subst, Ok, Err}
use Rattle.std.proofs.lemmas.Bool.{OnFalse_from, OnFalse_at}
use Rattle.graph_reduce.specs.State.{State}
use Rattle.graph_reduce.specs.Step.{Applies}
use Rattle.graph_reduce.specs.Step.Rule.{Leaf, Passed, TerminalLeaf}
use Rattle.graph_reduce.specs.Clear.{IsTidy}
use Rattle.graph_reduce.proofs.lemmas.Stepping.{all_done}
use Rattle.graph_reduce.proofs.steps.goes_on.Goals as goal

-- what does not apply in a state does not in the same state
still_none : (old new : State) → new ≡ old → ((v : ℕ) → ¬ Applies old Leaf v) → (v : ℕ) → ¬ Applies new Leaf v
still_none old new same none = subst (λ s. (v : ℕ) → ¬ Applies s Leaf v) (sym same) none

still_passed : (old new : State) → new ≡ old → ((v : ℕ) → ¬ Applies old Passed v) → (v : ℕ) → ¬ Applies new Passed v
still_passed old new same none = subst (λ s. (v : ℕ) → ¬ Applies s Passed v) (sym same) none

-- what follows from two clauses of a call that went well
both_if_ok : {T E : Type 0} (r : Result T E) (P Q R : T → Type 0) → ((x : T) → P x → Q x → R x) → IfOk r P →
    IfOk r Q → IfOk r R
both_if_ok (Ok x) P Q R both p q = both x p q
both_if_ok (Err e) P Q R both p q = tt

pub takes_terminal-requires-clause-leaves : goal.takes_terminal-requires-clause-leaves
takes_terminal-requires-clause-leaves c = still_none c.takes_leaf.new.work c.takes_passed.new.work
    (OnFalse_at c.if-branch-2.false c.in_ok-takes_passed.ensures.same)
    (OnFalse_at c.if-branch.false c.in_ok-takes_leaf.ensures.none)

pub returns-clause-done : goal.returns-clause-done
returns-clause-done c =
    let leaf_same = OnFalse_at c.if-branch.false c.in_ok-takes_leaf.ensures.same in
    let leaf_none = OnFalse_at c.if-branch.false c.in_ok-takes_leaf.ensures.none in
    let passed_same = OnFalse_at c.if-branch-2.false c.in_ok-takes_passed.ensures.same in
    let passed_none = OnFalse_at c.if-branch-2.false c.in_ok-takes_passed.ensures.none in
    both_if_ok c.takes_terminal.result (λ more. OnFalse more (c.takes_terminal.new.work ≡ c.takes_passed.new.work))
    (λ more. OnFalse more ((v : ℕ) → ¬ Applies c.takes_terminal.new.work TerminalLeaf v)) _
    (λ more same none. OnFalse_from more _ (λ no.
    let last = OnFalse_at no same in
    all_done c.takes_terminal.new.work
    (subst IsTidy (sym (last ∙ passed_same ∙ leaf_same)) c.requires.tidy)
    (still_none c.takes_leaf.new.work c.takes_terminal.new.work (last ∙ passed_same) leaf_none)
    (still_passed c.takes_passed.new.work c.takes_terminal.new.work last passed_none) (OnFalse_at no none)))
    c.takes_terminal.ensures.same c.takes_terminal.ensures.none
