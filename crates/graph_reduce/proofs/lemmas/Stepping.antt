-- Steps by the rules at nodes, and what is tidy after them.
use Rattle.std.specs.Prelude.{ℕ, ◌≡◌, ◌≢◌, length, None}
use Rattle.std.proofs.Common.{refl, sym, ap, ◌∙◌, inl, inr, ⊎_elim, subst, arith, length-set}
use Rattle.graph_reduce.specs.declared.node_rules.NodeRule.TheVariants as node
use Rattle.graph_reduce.specs.State.{Bundle, State, HasEdge}
use Rattle.graph_reduce.specs.Rules.{JoinsEdges, ForcesEdge, without_edge, without_node}
use Rattle.graph_reduce.specs.Step.{Rule, Takes, Applies, IsStep}
use Rattle.graph_reduce.specs.Step.Rule.{OneTerminal, Loop, Parallel, Leaf, Passed, TerminalLeaf}
use Rattle.graph_reduce.specs.NodeRules.{IsLowest}
use Rattle.graph_reduce.specs.Clear.{HasSomeEdge, IsTidy, IsTidyBut, IsWithin}
use Rattle.graph_reduce.proofs.lemmas.Clearing.{not_idle, parallel_within}
use Rattle.graph_reduce.proofs.lemmas.JoinedPlaces.{one, after, found, one_at}
use Rattle.graph_reduce.proofs.lemmas.Keeping.{found_before}
use Rattle.graph_reduce.proofs.lemmas.Steps.{NoneBefore}

-- ---- no earlier rule applies

module _ (s : State) (tidy : IsTidy s) where
  not_loop : (at : ℕ) → ¬ Applies s Loop at
  not_loop at (new, drops) = tidy.loops at drops.loop drops.at drops.is_loop

  not_parallel : (at : ℕ) → ¬ Applies s Parallel at
  not_parallel at (new, drops) = tidy.parallels at drops.later drops.x drops.y drops.parallel

  pub leaf_step : (v : ℕ) (new : State) → IsLowest s node.Leaf v → Takes Leaf v s new → IsStep s new
  leaf_step v new lowest takes = record { rule = Leaf; at = v; takes = takes; first = none }
    where
      none : NoneBefore s Leaf v
      none OneTerminal there before = not_idle s tidy.idle there
      none Loop there before = not_loop there
      none Parallel there before = not_parallel there
      none Leaf there (inl before) = absurd (omega arith)
      none Leaf there (inr before) = lowest.none there before.1
      none Passed there (inl before) = absurd (omega arith)
      none Passed there (inr before) = absurd (omega arith)
      none TerminalLeaf there (inl before) = absurd (omega arith)
      none TerminalLeaf there (inr before) = absurd (omega arith)

  module _ (leaves : (v : ℕ) → ¬ Applies s Leaf v) where
    pub passed_step : (v : ℕ) (new : State) → IsLowest s node.Passed v → JoinsEdges v s new → IsStep s new
    passed_step v new lowest takes = record { rule = Passed; at = v; takes = takes; first = none }
      where
        none : NoneBefore s Passed v
        none OneTerminal there before = not_idle s tidy.idle there
        none Loop there before = not_loop there
        none Parallel there before = not_parallel there
        none Leaf there before = leaves there
        none Passed there (inl before) = absurd (omega arith)
        none Passed there (inr before) = lowest.none there before.1
        none TerminalLeaf there (inl before) = absurd (omega arith)
        none TerminalLeaf there (inr before) = absurd (omega arith)

    module _ (passed : (v : ℕ) → ¬ Applies s Passed v) where
      pub forced_step : (v : ℕ) (new : State) → IsLowest s node.TerminalLeaf v → ForcesEdge v s new → IsStep s new
      forced_step v new lowest takes = record { rule = TerminalLeaf; at = v; takes = takes; first = none }
        where
          none : NoneBefore s TerminalLeaf v
          none OneTerminal there before = not_idle s tidy.idle there
          none Loop there before = not_loop there
          none Parallel there before = not_parallel there
          none Leaf there before = leaves there
          none Passed there before = passed there
          none TerminalLeaf there (inl before) = absurd (omega arith)
          none TerminalLeaf there (inr before) = lowest.none there before.1

      pub all_done : ((v : ℕ) → ¬ Applies s TerminalLeaf v) → (rule : Rule) (at : ℕ) → ¬ Applies s rule at
      all_done forced OneTerminal at = not_idle s tidy.idle at
      all_done forced Loop at = not_loop at
      all_done forced Parallel at = not_parallel at
      all_done forced Leaf at = leaves at
      all_done forced Passed at = passed at
      all_done forced TerminalLeaf at = forced at

-- ---- what is tidy afterwards

-- fewer edges
pub tidy_within : (old new : State) → IsTidy old → IsWithin new old →
    (length new.terminals ≡ 1 → ¬ HasSomeEdge new) → IsTidy new
tidy_within old new tidy within idle = grind (arith, parallel_within)

-- .. with the same terminals
pub tidy_fewer : (old new : State) → IsTidy old → IsWithin new old → new.terminals ≡ old.terminals → IsTidy new
tidy_fewer old new tidy within same = tidy_within old new tidy within
    (λ alone (n, x, at). tidy.idle (ap length (sym same) ∙ alone) (n, x, within.edges n x at))

pub tidy_leaf : (v : ℕ) (old new : State) → IsTidy old → Takes Leaf v old new → IsTidy new
tidy_leaf v old new tidy (inl drops) = grind (arith, tidy_fewer)
tidy_leaf v old new tidy (inr drops) = subst IsTidy (sym drops.becomes)
    (tidy_fewer old (without_edge (without_node old v) drops.place) tidy (record {
      places = length-set old.edges drops.place None;
      edges = λ n x at. (found_before old.edges drops.place n x at).1;
    }) refl)

pub within_forced : (v : ℕ) (old new : State) → ForcesEdge v old new → IsWithin new old
within_forced v old new forces = grind (arith, length-set old.edges forces.place None, found_before)

module _ (v : ℕ) (old new : State) (tidy : IsTidy old) (joins : JoinsEdges v old new) where
  abbrev then : State
  then = after v old new joins

  -- an edge at another place was there before
  old_at : (n : ℕ) (x : Bundle) → n ≢ joins.earlier → HasEdge then n x → HasEdge old n x
  old_at n x apart at = grind (arith, one v old new joins, found v old new joins n x)

  tidy_then : IsTidyBut then joins.earlier
  tidy_then = record {
    idle = λ alone some. tidy.idle alone (joins.earlier, joins.x, joins.earlier_at);
    loops = λ n x at same. ⊎_elim
        (λ (p : (n ≡ joins.earlier) × (one v old new joins ≡ x)).
        (grind arith))
        (λ (p : (n ≢ joins.earlier) × (n ≢ joins.later) × HasEdge old n x). tidy.loops n x p.2 same)
        (found v old new joins n x at);
    parallels = λ n m x y n_apart m_apart are. tidy.parallels n m x y (record {
      order = are.order;
      same_ends = are.same_ends;
      first_at = old_at n x n_apart are.first_at;
      second_at = old_at m y m_apart are.second_at;
    });
  }

  pub tidy_joined : IsTidyBut new joins.earlier
  tidy_joined = subst (λ s. IsTidyBut s joins.earlier) (sym joins.becomes) tidy_then

  pub joined_at : HasEdge new joins.earlier (one v old new joins)
  joined_at = subst (λ s. HasEdge s joins.earlier (one v old new joins)) (sym joins.becomes) (one_at v old new joins)
