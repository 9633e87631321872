-- A step of a reduction is determined: each rule at its place leads to one state, and one rule at one place is first.
use Rattle.std.specs.Prelude.{ℕ, ◌≡◌, ◌==◌, ◌<◌, if◌then◌else◌}
use Rattle.std.proofs.Common.{refl, sym, ap, ◌∙◌, inl, inr, arith}
use Rattle.graph_reduce.specs.State.{Bundle, State, EndsIn, HasOneEdge}
use Rattle.graph_reduce.specs.Rules.{DropsParallel, JoinsEdges}
use Rattle.graph_reduce.specs.Step.{Rule, Takes, IsStep, order_of}
use Rattle.graph_reduce.specs.Step.Rule.{OneTerminal, Loop, Parallel, Leaf, Passed, TerminalLeaf}
use Rattle.graph_reduce.proofs.lemmas.Ends.{first_end, other_is, same_edge}

-- a number that is neither below nor above another is that one
pub neither_less : (n m : ℕ) → (n < m → ⊥) → (m < n → ⊥) → n ≡ m
neither_less n m not_below not_above = omega arith

-- ---- the rules, each at its place

-- the next parallel edge is one
not_earlier : (at : ℕ) (old new new' : State) (d : DropsParallel at old new) (d' : DropsParallel at old new') →
    d.later < d'.later → ⊥
not_earlier at old new new' d d' below = grind arith

one_parallel : (at : ℕ) (old new new' : State) → DropsParallel at old new → DropsParallel at old new' → new ≡ new'
one_parallel at old new new' d d' = grind arith

-- an edge of a node ends there
ends_there : (s : State) (v place : ℕ) (x : Bundle) (other : ℕ) → HasOneEdge s v place x other → EndsIn s v place
ends_there s v place x other e = (x, e.at, first_end x v other e.ends)

-- the one edge of a node is one
one_place : (s : State) (v p p' : ℕ) (x x' : Bundle) (o o' : ℕ) → HasOneEdge s v p x o → HasOneEdge s v p' x' o' →
    p ≡ p'
one_place s v p p' x x' o o' e e' = e'.only p (ends_there s v p x o e)

one_leaf : (v : ℕ) (old new new' : State) → Takes Leaf v old new → Takes Leaf v old new' → new ≡ new'
one_leaf v old new new' (inl d) (inl d') = d.becomes ∙ sym d'.becomes
one_leaf v old new new' (inl d) (inr d') = absurd (d.none d'.place (ends_there old v d'.place d'.x d'.other d'.edge))
one_leaf v old new new' (inr d) (inl d') = absurd (d'.none d.place (ends_there old v d.place d.x d.other d.edge))
one_leaf v old new new' (inr d) (inr d') =
    grind (arith, one_place old v d.place d'.place d.x d'.x d.other d'.other d.edge d'.edge)

one_joined : (v : ℕ) (old new new' : State) → JoinsEdges v old new → JoinsEdges v old new' → new ≡ new'
one_joined v old new new' j k =
    grind (
      arith,
      k.only j.earlier (j.x, j.earlier_at, first_end j.x v j.u j.earlier_ends),
      first_end j.x v j.u j.earlier_ends,
      k.only j.later (j.y, j.later_at, first_end j.y v j.w j.later_ends),
      first_end j.y v j.w j.later_ends,
      same_edge,
      other_is,
    )

one_taken : (rule : Rule) (at : ℕ) (old new new' : State) → Takes rule at old new → Takes rule at old new' →
    new ≡ new'
one_taken OneTerminal at old new new' d d' = d.becomes ∙ sym d'.becomes
one_taken Loop at old new new' d d' = d.becomes ∙ sym d'.becomes
one_taken Parallel at old new new' d d' = one_parallel at old new new' d d'
one_taken Leaf at old new new' d d' = one_leaf at old new new' d d'
one_taken Passed at old new new' d d' = one_joined at old new new' d d'
one_taken TerminalLeaf at old new new' d d' = grind (arith, one_place old at d.place d'.place d.x d'.x d.other d'.other d.edge d'.edge, same_edge, other_is)

-- ---- the first rule, at its lowest place

-- a rule is told by its place in their order
abbrev rule_at : ℕ → Rule
rule_at n =
    if n == 1 then OneTerminal
    else if n == 2 then Loop
    else if n == 3 then Parallel else if n == 4 then Leaf else if n == 5 then Passed else TerminalLeaf

rule_again : (rule : Rule) → rule_at (order_of rule) ≡ rule
rule_again OneTerminal = refl
rule_again Loop = refl
rule_again Parallel = refl
rule_again Leaf = refl
rule_again Passed = refl
rule_again TerminalLeaf = refl

same_rule : (rule rule' : Rule) → order_of rule ≡ order_of rule' → rule ≡ rule'
same_rule rule rule' is = sym (rule_again rule) ∙ ap rule_at is ∙ rule_again rule'

-- a step leads to one state
pub one_step : (old new new' : State) → IsStep old new → IsStep old new' → new ≡ new'
one_step old new new' s t =
    let order = neither_less (order_of s.rule) (order_of t.rule)
    (λ below. t.first s.rule s.at (inl below) (new, s.takes))
    (λ above. s.first t.rule t.at (inl above) (new', t.takes)) in
    let place = neither_less s.at t.at
    (λ below. t.first s.rule s.at (inr (order, below)) (new, s.takes))
    (λ above. s.first t.rule t.at (inr (sym order, above)) (new', t.takes)) in
    let rule = same_rule s.rule t.rule order in
    grind (arith, one_taken)
