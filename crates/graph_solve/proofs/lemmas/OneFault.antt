-- A file has one first fault at most, and none where it is a Steiner problem of the suite.
use Rattle.std.specs.Prelude.{ℕ, ◌≡◌, ◌⊎◌, ◌+◌, ◌<◌, ◌≤◌, ◌^◌, [], length, All, Result, Ok, Err}
use Rattle.std.specs.Prelude.{IfErr, IfOk, OnOk}
use Rattle.std.proofs.Common.{refl, sym, ap, ◌∙◌, inl, inr, subst, arith}
use Rattle.std.proofs.lemmas.Option.{same_Some, slice_get_within, get_or_from_slice_get}
use Rattle.stp_format.specs.Value.{StpValue}
use Rattle.net_graph.specs.Graph.{Graph}
use Rattle.net_graph.specs.Network.{Reaches}
use Rattle.graph_solve.specs.Task.{all_edges, graph_of_stp, terminals_of, total_of_stp}
use Rattle.graph_solve.specs.Fault.{Answers, HasFirstFault, IsFirstApartNode, IsFirstFault}
use Rattle.graph_solve.specs.Fault.{IsFirstWithoutLength, IsTask}
use Rattle.graph_solve.specs.FirstLaws.{one_apart, one_first}
use Rattle.graph_solve.specs.declared.fault.TaskFault.{TaskFault}
use Rattle.graph_solve.specs.declared.fault.TaskFault.TheVariants.{TooManyNodes, TooManyEdges, TooManyTerminals}
use Rattle.graph_solve.specs.declared.fault.TaskFault.TheVariants.{NoTerminals, ZeroLength, TooLong, Apart, Memory}

-- ---- the numbers that faults tell

one_without_length : (file : StpValue) (n m : ℕ) → IsFirstWithoutLength file n → IsFirstWithoutLength file m → n ≡ m
one_without_length file n m (place, is, first) (place', is', first') =
    is ∙ ap (λ k. k + 1) (one_first (λ e. e.length ≡ 0) file.edges place place' first first') ∙ sym is'

-- ---- the faults, one condition after another

-- a fault of the first kind, or the condition that rules that kind out, and a later fault
abbrev Stage : (TaskFault → Type 0) → Type 0 → (TaskFault → Type 0) → TaskFault → Type 0
Stage Here Past Later f = Here f ⊎ (Past × Later f)

abbrev One : (TaskFault → Type 0) → Type 0
One Kind = (f g : TaskFault) → Kind f → Kind g → f ≡ g

one_stage : (Here : TaskFault → Type 0) (Past : Type 0) (Later : TaskFault → Type 0) → One Here →
    ((f : TaskFault) → Here f → Past → ⊥) → One Later → One (Stage Here Past Later)
one_stage Here Past Later here apart later f g (inl a) (inl b) = here f g a b
one_stage Here Past Later here apart later f g (inl a) (inr b) = absurd (apart f a b.0)
one_stage Here Past Later here apart later f g (inr a) (inl b) = absurd (apart g b a.0)
one_stage Here Past Later here apart later f g (inr a) (inr b) = later f g a.1 b.1

-- a condition under which a fault is this one
abbrev Where : Type 0 → TaskFault → TaskFault → Type 0
Where P fault f = P × (f ≡ fault)

one_where : (P : Type 0) (fault : TaskFault) → One (Where P fault)
one_where P fault f g a b = a.1 ∙ sym b.1

module _ (file : StpValue) where
  abbrev apart_stage : TaskFault → Type 0
  apart_stage f = (node : ℕ) × IsFirstApartNode (graph_of_stp file) node × (f ≡ Apart node)

  abbrev total_stage : TaskFault → Type 0
  total_stage = Stage (Where (2 ^ 63 ≤ total_of_stp file) (TooLong (total_of_stp file))) (total_of_stp file < 2 ^ 63)
      apart_stage

  abbrev WithoutLength : TaskFault → Type 0
  WithoutLength f = (n : ℕ) × IsFirstWithoutLength file n × (f ≡ ZeroLength n)

  abbrev length_stage : TaskFault → Type 0
  length_stage = Stage WithoutLength (All (λ e. 0 < e.length) file.edges) total_stage

  abbrev terminal_stage : TaskFault → Type 0
  terminal_stage = Stage (Where (file.terminals ≡ []) NoTerminals) (0 < length file.terminals) length_stage

  abbrev terminals_stage : TaskFault → Type 0
  terminals_stage = Stage (Where (255 < length (terminals_of file)) TooManyTerminals) (length (terminals_of file) ≤ 255)
      terminal_stage

  abbrev edges_stage : TaskFault → Type 0
  edges_stage = Stage (Where (4900 < length file.edges) TooManyEdges) (length file.edges ≤ 4900) terminals_stage

  abbrev nodes_stage : TaskFault → Type 0
  nodes_stage = Stage (Where (2500 < file.nodes) TooManyNodes) (file.nodes ≤ 2500) edges_stage

  -- a first fault is at its stage
  staged : (f : TaskFault) → HasFirstFault file f → nodes_stage f
  staged TooManyNodes many = inl (many, refl)
  staged TooManyEdges (nodes, many) = inr (nodes, inl (many, refl))
  staged TooManyTerminals (nodes, edges, many) = inr (nodes, inr (edges, inl (many, refl)))
  staged NoTerminals (small, none) = inr (small.nodes, inr (small.edges, inr (small.terminals, inl (none, refl))))
  staged (ZeroLength n) (some, first) = grind arith
  staged (TooLong total) (lengths, is, long) = grind arith
  staged (Apart node) (lengths, short, first) = grind arith
  staged (Memory error) has = absurd has

  -- each stage has one fault
  one_at_apart : One apart_stage
  one_at_apart f g (n, first, is) (m, other, is') =
      is ∙ ap Apart (grind (arith, one_apart (graph_of_stp file) (all_edges (graph_of_stp file)) first.place other.place first.first other.first, same_Some)) ∙ sym is'

  one_at_total : One total_stage
  one_at_total = one_stage _ _ _ (one_where _ _) (λ f here past. (let many = here.0 in omega arith)) one_at_apart

  one_zero : One WithoutLength
  one_zero f g (n, first, is) (m, other, is') = is ∙ ap ZeroLength (one_without_length file n m first other) ∙ sym is'

  not_all : (f : TaskFault) → WithoutLength f → All (λ e. 0 < e.length) file.edges → ⊥
  not_all f (n, (place, named, first), is) all =
      grind (arith, get_or_from_slice_get file.edges place (first.here.0) (first.here.0) first.here.1, all place (first.here.0) (slice_get_within file.edges place (first.here.0) first.here.1))

  one_at_length : One length_stage
  one_at_length = one_stage _ _ _ one_zero not_all one_at_total

  one_at_terminal : One terminal_stage
  one_at_terminal = grind (arith, one_stage, one_where, one_at_length)

  one_at_terminals : One terminals_stage
  one_at_terminals = one_stage _ _ _ (one_where _ _) (λ f here past. (let many = here.0 in omega arith)) one_at_terminal

  one_at_edges : One edges_stage
  one_at_edges = one_stage _ _ _ (one_where _ _) (λ f here past. (let many = here.0 in omega arith)) one_at_terminals

  one_at_nodes : One nodes_stage
  one_at_nodes = one_stage _ _ _ (one_where _ _) (λ f here past. (let many = here.0 in omega arith)) one_at_edges

  one_fault : (f g : TaskFault) → HasFirstFault file f → HasFirstFault file g → f ≡ g
  one_fault f g has other = one_at_nodes f g (staged f has) (staged g other)

  -- ---- a problem of the suite has none

  no_fault : (f : TaskFault) → IsTask file → HasFirstFault file f → ⊥
  no_fault TooManyNodes task many = (let few = task.lengths.terminal.small.nodes in omega (arith, few, many))
  no_fault TooManyEdges task has =
      let few = task.lengths.terminal.small.edges in
      let many = has.1 in
      omega (arith, few, many)
  no_fault TooManyTerminals task has =
      let few = task.lengths.terminal.small.terminals in
      let many = has.2 in
      omega (arith, few, many)
  no_fault NoTerminals task has =
      let some = task.lengths.terminal.terminal in
      let none = ap length has.1 in
      omega (arith, some, none)
  no_fault (ZeroLength n) task has = not_all (ZeroLength n) (n, has.1, refl) task.lengths.lengths
  no_fault (TooLong total) task has =
      let short = task.total in
      let is = has.1 in
      let long = has.2 in
      omega (arith, short, is, long)
  no_fault (Apart node) task (lengths, short, apart) =
      let first = apart.first in
      let v = first.terminal in
      let here = get_or_from_slice_get (graph_of_stp file).terminals apart.place v v first.at in
      let within = slice_get_within (graph_of_stp file).terminals apart.place v first.at in
      first.apart (subst (Reaches (graph_of_stp file) (all_edges (graph_of_stp file))) here
      (task.joined apart.place v within))
  no_fault (Memory error) task has = has

  -- ---- what was answered

  module _ (outcome : Result Graph TaskFault) where
    answers_err : (fault : TaskFault) → IsFirstFault file fault →
        (HasFirstFault file fault → Err fault ≡ outcome) → Answers (Err fault) outcome
    answers_err TooManyNodes first is = is first
    answers_err TooManyEdges first is = is first
    answers_err TooManyTerminals first is = is first
    answers_err NoTerminals first is = is first
    answers_err (ZeroLength n) first is = is first
    answers_err (TooLong total) first is = is first
    answers_err (Apart node) first is = is first
    answers_err (Memory error) first is = tt

  -- a problem's graph
  pub answers_graph : (r : Result Graph TaskFault) → IfOk r (λ g. g ≡ graph_of_stp file) → IfErr r (IsFirstFault file) →
      IsTask file → Answers r (Ok (graph_of_stp file))
  answers_graph (Ok g) is fault task = ap Ok is
  answers_graph (Err f) is fault task =
      answers_err (Ok (graph_of_stp file)) f fault (λ has. absurd (no_fault f task has))

  -- a first fault
  pub answers_fault : (r : Result Graph TaskFault) → OnOk r (IsTask file) → IfErr r (IsFirstFault file) →
      (f : TaskFault) → HasFirstFault file f → Answers r (Err f)
  answers_fault (Ok g) task fault f has = absurd (no_fault f task has)
  answers_fault (Err e) task fault f has = answers_err (Err f) e fault (λ first. ap Err (one_fault e f first has))
