-- Where no earlier rule applies, and what stays so where edges are dropped.
use Rattle.std.specs.Prelude.{ℕ, zero, suc, ◌≡◌, ◌+◌, length, Some, if◌then◌else◌, nat_lt}
use Rattle.std.proofs.Common.{refl, inl, inr, subst, arith}
use Rattle.std.proofs.lemmas.Bool.{cases_eq}
use Rattle.std.proofs.lemmas.Option.{slice_get_within}
use Rattle.graph_reduce.specs.State.{Bundle, State, HasEdge}
use Rattle.graph_reduce.specs.Rules.{AreParallel, without_edge}
use Rattle.graph_reduce.specs.Step.{Applies, IsStep, AreSteps}
use Rattle.graph_reduce.specs.Step.Rule.{OneTerminal, Loop, Parallel, Leaf, Passed, TerminalLeaf}
use Rattle.graph_reduce.specs.Clear.{LeadsTo, HasSomeEdge, IsClearTo, IsWithin}
use Rattle.graph_reduce.proofs.lemmas.Keeping.{found_before}
use Rattle.graph_reduce.proofs.lemmas.Steps.{NoneBefore}

-- ---- steps one after another

pub no_steps : (s : State) → LeadsTo s s
no_steps s = record { count = 0; steps = refl }

pub one_step : (old new : State) → IsStep old new → LeadsTo old new
one_step old new step = record { count = 1; steps = (old, refl, step) }

more_steps : (one two three : State) (n m : ℕ) → AreSteps n one two → AreSteps m two three → LeadsTo one three
more_steps one two three n zero first rest = record { count = n; steps = subst (AreSteps n one) rest first }
more_steps one two three n (suc m) first (mid, rest, step) =
    let before = more_steps one two mid n m first rest in
    record { count = suc before.count; steps = (mid, before.steps, step) }

pub then_steps : (one two three : State) → LeadsTo one two → LeadsTo two three → LeadsTo one three
then_steps one two three first rest = more_steps one two three first.count rest.count first.steps rest.steps

-- ---- fewer edges

pub within_then : (one two three : State) → IsWithin one two → IsWithin two three → IsWithin one three
within_then one two three first rest = grind arith

pub parallel_within : (new old : State) → IsWithin new old → (n m : ℕ) (x y : Bundle) → AreParallel new n m x y →
    AreParallel old n m x y
parallel_within new old within n m x y are = grind arith

pub clear_within : (new old : State) (end pair later : ℕ) → IsWithin new old → new.terminals ≡ old.terminals →
    IsClearTo old end pair later → IsClearTo new end pair later
clear_within new old end pair later within terminals clear = grind (arith, parallel_within)

-- the place is empty afterwards
pub none_at : (s : State) (place : ℕ) (x : Bundle) → ¬ HasEdge (without_edge s place) place x
none_at s place x at = (found_before s.edges place place x at).0 refl

-- ---- the first rule

pub not_idle : (s : State) → (length s.terminals ≡ 1 → ¬ HasSomeEdge s) → (at : ℕ) → ¬ Applies s OneTerminal at
not_idle s idle at (new, drops) = idle drops.one drops.some

-- ---- parallel edges

pub drops_parallel : (s : State) (place later : ℕ) (x y : Bundle) → IsClearTo s (length s.edges) place later →
    AreParallel s place later x y →
    IsStep s (without_edge s (if nat_lt y.edge.length x.edge.length then place else later))
drops_parallel s place later x y clear are = record {
  rule = Parallel;
  at = place;
  takes = record {
    later = later;
    x = x;
    y = y;
    parallel = are;
    becomes = refl;
    next = λ between z below other. clear.parallels place between x z (inr (refl, below)) other;
  };
  first = none;
}
  where
    none : NoneBefore s Parallel place
    none OneTerminal there before = not_idle s clear.idle there
    none Loop there before = λ (new, drops). clear.loops there drops.loop
        (slice_get_within s.edges there (Some drops.loop) drops.at) drops.at drops.is_loop
    none Parallel there (inl before) = absurd (omega arith)
    none Parallel there (inr before) = λ (new, drops).
        clear.parallels there drops.later drops.x drops.y (inl (omega arith)) drops.parallel
    none Leaf there (inl before) = absurd (omega arith)
    none Leaf there (inr before) = absurd (omega arith)
    none Passed there (inl before) = absurd (omega arith)
    none Passed there (inr before) = absurd (omega arith)
    none TerminalLeaf there (inl before) = absurd (omega arith)
    none TerminalLeaf there (inr before) = absurd (omega arith)

-- one later place more
pub clear_later : (s : State) (end place later : ℕ) → IsClearTo s end place later →
    ((x y : Bundle) → ¬ AreParallel s place later x y) → IsClearTo s end place (later + 1)
clear_later s end place later clear here = grind arith

-- the next place
pub clear_next : (s : State) (end place : ℕ) → IsClearTo s end place (length s.edges) → IsClearTo s end (place + 1) 0
clear_next s end place clear = grind (arith, cases_eq, slice_get_within)

-- the next place, where this one holds no edge
pub clear_gone : (s : State) (end place later : ℕ) → ((x : Bundle) → ¬ HasEdge s place x) →
    IsClearTo s end place later → IsClearTo s end (place + 1) 0
clear_gone s end place later none clear = search arith
