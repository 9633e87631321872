-- What is known beside a state, after a step.
use Rattle.std.specs.Prelude.{ℕ, ◌≡◌, ◌≢◌, ◌⊎◌, ◌<◌, Bool, true, false, List, length, slice_get, slice_set, Some, None}
use Rattle.std.specs.BTreeSet.{BTreeSet}
use Rattle.std.specs.List.{Contains}
use Rattle.std.proofs.Common.{refl, sym, ap, ◌∙◌, inl, inr, ⊎_elim, subst, arith, length-set}
use Rattle.std.proofs.lemmas.Bool.{cases_eq}
use Rattle.std.proofs.lemmas.List.{get_or-set_same, get_or-set_other}
use Rattle.net_graph.specs.Flags.{has}
use Rattle.net_graph.specs.declared.edge.Edge.{Edge}
use Rattle.net_graph.specs.Network.{HasEnds}
use Rattle.graph_reduce.specs.declared.due.Due.{Due}
use Rattle.graph_reduce.specs.declared.survey.Survey.{Survey}
use Rattle.graph_reduce.specs.declared.node_edges.NodeEdges.{NodeEdges}
use Rattle.graph_reduce.specs.declared.node_edges.NodeEdges.TheVariants.{NoEdge, OneEdge, TwoEdges, More}
use Rattle.graph_reduce.specs.declared.node_rules.NodeRule.{NodeRule}
use Rattle.graph_reduce.specs.declared.node_rules.NodeRule.TheVariants.{Leaf, Passed, TerminalLeaf}
use Rattle.graph_reduce.specs.State.{Bundle, State, HasEdge, IsTerminal, EndsIn}
use Rattle.graph_reduce.specs.Rules.{JoinsEdges, ForcesEdge, moved}
use Rattle.graph_reduce.specs.Step.{Applies, Takes}
use Rattle.graph_reduce.specs.NodeRules.{rule_of}
use Rattle.graph_reduce.specs.Survey.{IsNumbered, IsSeenTo, IsListed, AreListedTo, AreMarked, IsSurvey}
use Rattle.graph_reduce.specs.Due.{StaysDue, HasAllAt, AreDue, AreEndsDue}
use Rattle.graph_reduce.specs.UpToDate.{IsUpToDate}
use Rattle.graph_reduce.specs.Clear.{IsWithin, AreAlike}
use Rattle.graph_reduce.proofs.lemmas.Agreeing.{AreBothDue, due_leaf, due_alike}
use Rattle.graph_reduce.proofs.lemmas.Ends.{same_edge, first_end, other_is}
use Rattle.graph_reduce.proofs.lemmas.Longer.{HoldsEdge}
use Rattle.graph_reduce.proofs.lemmas.JoinedPlaces.{one, after, found}
use Rattle.graph_reduce.proofs.lemmas.NodeKinds.{below_end, leaf_not_more, passed_not_more, forced_not_more}
use Rattle.graph_reduce.proofs.lemmas.Keeping.{found_before}
use Rattle.graph_reduce.proofs.lemmas.Stepping.{within_forced}
use Rattle.graph_reduce.proofs.lemmas.Terminals.{In-from_Contains, Contains-from_In, In, In-moved, In-moved_from, In-moved_to}

-- ---- the edges of a node that a rule wants

-- no rule applies at a node with more than two edges
not_more : (s : State) (v : ℕ) (rule : NodeRule) → Applies s (rule_of rule) v →
    IsSeenTo s v (length s.edges) More → ⊥
not_more s v Leaf applies has = leaf_not_more s v has applies
not_more s v Passed applies has = passed_not_more s v has applies
not_more s v TerminalLeaf applies has = forced_not_more s v has applies

-- the ends of a node's edges are due, where a rule applies at the node and the ends of those that it wants are
pub all_told : (s : State) (v : ℕ) (rule : NodeRule) (edges : NodeEdges) (due : Due) → Applies s (rule_of rule) v →
    IsSeenTo s v (length s.edges) edges → AreEndsDue s edges due →
    (n : ℕ) (x : Bundle) → EndsIn s v n → HasEdge s n x → AreBothDue due x
all_told s v rule NoEdge due applies seen told n x ends at = absurd (seen n (below_end s v n ends) ends)
all_told s v rule (OneEdge place) due applies seen told n x ends at =
    told n x (seen.only n (below_end s v n ends) ends) at
all_told s v rule (TwoEdges p q) due applies seen told n x ends at = told n x (elim (cases_eq n p) [
  | inl is ↦ inl is
  | inr apart ↦ inr (seen.only n (below_end s v n ends) ends apart)
]) at
all_told s v rule More due applies seen told n x ends at = absurd (not_more s v rule applies seen)

-- ---- the nodes that are due

pub due_more : (s : State) (old new : Due) → AreDue s old → StaysDue old new → AreDue s new
due_more s old new are stays rule v applies = stays rule v (are rule v applies)

pub due_leaves : (s : State) (due : Due) (set : BTreeSet ℕ) → AreDue s due → HasAllAt s Leaf set →
    AreDue s (record due { leaves = set })
due_leaves s due set are has Leaf = has
due_leaves s due set are has Passed = are Passed
due_leaves s due set are has TerminalLeaf = are TerminalLeaf

pub due_passed : (s : State) (due : Due) (set : BTreeSet ℕ) → AreDue s due → HasAllAt s Passed set →
    AreDue s (record due { passed = set })
due_passed s due set are has Leaf = are Leaf
due_passed s due set are has Passed = has
due_passed s due set are has TerminalLeaf = are TerminalLeaf

pub due_terminals : (s : State) (due : Due) (set : BTreeSet ℕ) → AreDue s due → HasAllAt s TerminalLeaf set →
    AreDue s (record due { terminals = set })
due_terminals s due set are has Leaf = are Leaf
due_terminals s due set are has Passed = are Passed
due_terminals s due set are has TerminalLeaf = has

-- ---- the places that are listed

module _ (old new : State) (listed : List (BTreeSet ℕ)) (are : AreListedTo old (length old.edges) listed)
    (nodes : length new.nodes ≡ length old.nodes) where
  pub listed_within : IsWithin new old → AreListedTo new (length new.edges) listed
  listed_within within = grind arith

-- .. where two edges become one
module _ (v : ℕ) (old new : State) (joins : JoinsEdges v old new) (listed : List (BTreeSet ℕ))
    (are : AreListedTo old (length old.edges) listed) (more : IsListed listed joins.w joins.earlier) where
  end_u : EndsIn old joins.u joins.earlier
  end_u = grind arith

  listed_after : AreListedTo (after v old new joins) (length (after v old new joins).edges) listed
  listed_after = record {
    size = are.size ∙ sym (length-set old.nodes v false);
    listed = λ u n below (z, at, ends). ⊎_elim
        (λ (p : (n ≡ joins.earlier) × (one v old new joins ≡ z)). subst (IsListed listed u) (sym p.0) (⊎_elim
        (λ (is : joins.u ≡ u). subst (λ k. IsListed listed k joins.earlier) is
        (are.listed joins.u joins.earlier (below_end old joins.u joins.earlier end_u) end_u))
        (λ (is : joins.w ≡ u). subst (λ k. IsListed listed k joins.earlier) is more)
        (subst (λ (b : Bundle). (b.edge.a ≡ u) ⊎ (b.edge.b ≡ u)) (sym p.1) ends)))
        (λ (p : (n ≡ joins.earlier → ⊥) × (n ≡ joins.later → ⊥) × (slice_get old.edges n ≡ Some (Some z))).
        are.listed u n (below_end old u n (z, p.2, ends)) (z, p.2, ends))
        (found v old new joins n z at);
  }

  pub listed_joined : AreListedTo new (length new.edges) listed
  listed_joined = subst (λ s. AreListedTo s (length s.edges) listed) (sym joins.becomes) listed_after

-- ---- the terminals that are marked

pub marked_same : (old new : State) (marks : List Bool) → AreMarked old marks →
    length new.nodes ≡ length old.nodes → new.terminals ≡ old.terminals → AreMarked new marks
marked_same old new marks are nodes same = grind arith

-- a terminal moved to another node
module _ (s : State) (marks : List Bool) (are : AreMarked s marks) (from to : ℕ) (terminal : IsTerminal s from)
    (apart : to ≢ from) (from_below : from < length s.nodes) (to_below : to < length s.nodes) where
  abbrev without_from : List Bool
  without_from = slice_set marks from false

  abbrev pub moved_marks : List Bool
  moved_marks = slice_set without_from to true

  to_within : to < length without_from
  to_within = omega (arith, to_below, are.size, length-set marks from false)

  pub marked_moved : (new : State) → length new.nodes ≡ length s.nodes → new.terminals ≡ moved s.terminals from to →
      AreMarked new moved_marks
  marked_moved new nodes becomes = record {
    size = length-set without_from to true ∙ length-set marks from false ∙ are.size ∙ sym nodes;
    marked = λ v is. subst (λ ts. Contains ts v) (sym becomes) (Contains-from_In (moved s.terminals from to) v (⊎_elim
        (λ (here : v ≡ to). grind (arith, In-moved_to, In-from_Contains))
        (λ (p : (v ≢ from) × (has marks v ≡ true)).
        In-moved_from s.terminals from to v (In-from_Contains s.terminals v (are.marked v p.1)) p.0)
        (grind (arith, cases_eq, without_from, get_or-set_same, get_or-set_other))));
    terminals = λ v is. ⊎_elim
        (λ (here : v ≡ to). ap (has moved_marks) here ∙ get_or-set_same without_from to true false to_within)
        (λ (p : In s.terminals v × (v ≡ from → ⊥)). elim (cases_eq v to) [
          | inl here ↦ (ap (has moved_marks) here ∙ get_or-set_same without_from to true false to_within)
          | inr other ↦ (get_or-set_other without_from to v true false other
              ∙ get_or-set_other marks from v false false p.1 ∙ are.terminals v (Contains-from_In s.terminals v p.0))
        ])
        (In-moved s.terminals from to v (In-from_Contains s.terminals from terminal)
        (In-from_Contains (moved s.terminals from to) v (subst (λ ts. Contains ts v) becomes is)));
  }

-- ---- after a step

-- a node is dropped with its edge, where it has one
within_leaf : (v : ℕ) (old new : State) → Takes (rule_of Leaf) v old new → IsWithin new old
within_leaf v old new (inl drops) = grind arith
within_leaf v old new (inr drops) = grind (arith, length-set old.edges drops.place None, found_before)

nodes_leaf : (v : ℕ) (old new : State) → Takes (rule_of Leaf) v old new → length new.nodes ≡ length old.nodes
nodes_leaf v old new (inl drops) = ap (λ s. length s.nodes) drops.becomes ∙ length-set old.nodes v false
nodes_leaf v old new (inr drops) = ap (λ s. length s.nodes) drops.becomes ∙ length-set old.nodes v false

terminals_leaf : (v : ℕ) (old new : State) → Takes (rule_of Leaf) v old new → new.terminals ≡ old.terminals
terminals_leaf v old new (inl drops) = ap (λ s. s.terminals) drops.becomes
terminals_leaf v old new (inr drops) = ap (λ s. s.terminals) drops.becomes

pub renewed_leaf : (v : ℕ) (old new : State) (survey : Survey) (due : Due) →
    IsSurvey old survey.places.items survey.terminals → AreDue old due → Takes (rule_of Leaf) v old new →
    ((n : ℕ) (x : Bundle) → EndsIn old v n → HasEdge old n x → AreBothDue due x) → IsUpToDate new survey due
renewed_leaf v old new survey due is are takes told =
    search (listed_within, nodes_leaf, within_leaf, marked_same, terminals_leaf, due_leaf)

-- an edge is forced
pub renewed_forced : (v : ℕ) (old new : State) (forces : ForcesEdge v old new) (listed : List (BTreeSet ℕ))
    (marks : List Bool) → IsSurvey old listed marks → forces.other ≢ v → v < length old.nodes →
    forces.other < length old.nodes →
    IsSurvey new listed (slice_set (slice_set marks v false) forces.other true)
renewed_forced v old new forces listed marks is apart below other_below = record {
  places = listed_within old new listed is.places nodes (within_forced v old new forces);
  terminals = marked_moved old marks is.terminals v forces.other forces.terminal apart below other_below new nodes
      (ap (λ s. s.terminals) forces.becomes);
}
  where
    nodes : length new.nodes ≡ length old.nodes
    nodes = ap (λ s. length s.nodes) forces.becomes ∙ length-set old.nodes v false

-- the other end of an edge that is forced is that of the node's edge
pub forced_other : (v : ℕ) (old new : State) (forces : ForcesEdge v old new) (place : ℕ) (e : Edge) (o : ℕ) →
    HoldsEdge old place e → HasEnds e v o → forces.other ≡ o
forced_other v old new forces place e o (x, at, is) ends =
    let ends_x = subst (λ (d : Edge). HasEnds d v o) (sym is) ends in
    let here = forces.edge.only place (x, at, first_end x v o ends_x) in
    let same = same_edge old forces.place x forces.x (subst (λ n. HasEdge old n x) here at) forces.edge.at in
    other_is forces.x.edge v forces.other o forces.edge.ends (subst (λ (b : Bundle). HasEnds b.edge v o) same ends_x)

-- .. and another node, where no edge is a loop
pub forced_apart : (v : ℕ) (old new : State) (forces : ForcesEdge v old new) → forces.x.edge.a ≢ forces.x.edge.b →
    forces.other ≢ v
forced_apart v old new forces no_loop same = omega arith

-- the other end of an edge is the number of a node
pub other_below : (s : State) (v u place : ℕ) (e : Edge) → IsNumbered s → HoldsEdge s place e → HasEnds e v u →
    u < length s.nodes
other_below s v u place e numbered (x, at, is) ends = grind arith

-- fewer edges
pub survey_within : (old new : State) (listed : List (BTreeSet ℕ)) (marks : List Bool) → IsSurvey old listed marks →
    IsWithin new old → new.nodes ≡ old.nodes → new.terminals ≡ old.terminals → IsSurvey new listed marks
survey_within old new listed marks is within nodes terminals = grind arith

-- the same survey
pub survey_as : (s : State) (before after : Survey) (marks : List Bool) → after.places ≡ before.places →
    after.terminals ≡ marks → IsSurvey s before.places.items marks → IsSurvey s after.places.items after.terminals
survey_as s before later marks places terminals is = grind arith

-- one of two edges with the same ends is dropped
pub renewed_dropped : (old new : State) (place other : ℕ) (alike : AreAlike old place other) (survey : Survey)
    (due : Due) → IsSurvey old survey.places.items survey.terminals → AreDue old due →
    AreEndsDue old (OneEdge place) due → IsWithin new old →
    ((n : ℕ) (z : Bundle) → n ≢ place → n ≢ other → HasEdge old n z → HasEdge new n z) →
    new.nodes ≡ old.nodes → new.terminals ≡ old.terminals → IsUpToDate new survey due
renewed_dropped old new place other alike survey due is are told within others nodes terminals =
    grind (arith, survey_within old new survey.places.items survey.terminals is within nodes terminals, due_alike old new place other alike within others nodes terminals due are (told place alike.x refl alike.at))

-- more places are listed
pub survey_more : (s : State) (before after : Survey) →
    length after.places.items ≡ length before.places.items →
    ((u n : ℕ) → IsListed before.places.items u n → IsListed after.places.items u n) →
    after.terminals ≡ before.terminals → IsSurvey s before.places.items before.terminals →
    IsSurvey s after.places.items after.terminals
survey_more s before later size kept terminals is = grind arith

-- the other end of the later of two edges that become one
pub joined_other : (v : ℕ) (old new : State) (joins : JoinsEdges v old new) (later : ℕ) (e : Edge) (o : ℕ) →
    joins.later ≡ later → HoldsEdge old later e → HasEnds e v o → joins.w ≡ o
joined_other v old new joins later e o here (x, at, is) ends = grind arith

-- an end of an edge is the number of a node
pub end_below : (s : State) (place : ℕ) (e : Edge) (v : ℕ) → IsNumbered s → HoldsEdge s place e →
    (v ≡ e.a) ⊎ (v ≡ e.b) → v < length s.nodes
end_below s place e v numbered (x, at, is) end = grind arith
