-- Nodes at which two states agree, so that no rule applies in the one alone.
use Rattle.std.specs.Prelude.{ℕ, ◌≡◌, ◌≢◌, ◌⊎◌, ◌+◌, Bool, true, false, List, slice_get, slice_set, Some, None}
use Rattle.std.proofs.Common.{refl, sym, ◌∙◌, inl, inr, ⊎_elim, subst, arith}
use Rattle.net_graph.specs.Network.{HasEnds}
use Rattle.net_graph.specs.EntryLaws.{slice_get-set_other}
use Rattle.graph_reduce.specs.declared.due.Due.{Due}
use Rattle.graph_reduce.specs.declared.node_rules.NodeRule.{NodeRule}
use Rattle.graph_reduce.specs.declared.node_rules.NodeRule.TheVariants.{Leaf, Passed, TerminalLeaf}
use Rattle.graph_reduce.specs.State.{Bundle, State, HasEdge, HasNode, IsTerminal, EndsIn, HasOneEdge, union}
use Rattle.graph_reduce.specs.Rules.{JoinsEdges, ForcesEdge, joined, moved, without_edge, without_node}
use Rattle.graph_reduce.specs.Step.{Applies, Takes}
use Rattle.graph_reduce.specs.NodeRules.{rule_of}
use Rattle.graph_reduce.specs.Due.{AreDue, IsDue}
use Rattle.graph_reduce.specs.Clear.{IsWithin, AreAlike}
use Rattle.graph_reduce.proofs.lemmas.Choices.{set_cases}
use Rattle.graph_reduce.proofs.lemmas.Ends.{first_end}
use Rattle.graph_reduce.proofs.lemmas.JoinedPlaces.{one, after, found, still}
use Rattle.graph_reduce.proofs.lemmas.Keeping.{found_before}
use Rattle.graph_reduce.proofs.lemmas.Terminals.{In, In-from_Contains, Contains-from_In, In-moved, In-moved_from}

-- where the new state has the node, the old one has it, with the same edges, and it is a terminal of both or of none
pub record AgreesAt (new old : State) (v : ℕ) : Type 0 where
  pub node : HasNode new v → HasNode old v
  pub terminal : IsTerminal new v → IsTerminal old v
  pub still : IsTerminal old v → IsTerminal new v
  pub edges : (n : ℕ) (x : Bundle) → HasEdge new n x → (x.edge.a ≡ v) ⊎ (x.edge.b ≡ v) → HasEdge old n x
  pub ends : (n : ℕ) → EndsIn old v n → EndsIn new v n

module _ (new old : State) (v : ℕ) (agrees : AgreesAt new old v) where
  one_before : (place : ℕ) (x : Bundle) (other : ℕ) → HasOneEdge new v place x other → HasOneEdge old v place x other
  one_before place x other edge = record {
    at = agrees.edges place x edge.at (first_end x v other edge.ends);
    ends = edge.ends;
    only = λ n is. edge.only n (agrees.ends n is);
  }

  -- what applies in the new state did so in the old one
  pub applied : (rule : NodeRule) → Applies new (rule_of rule) v → Applies old (rule_of rule) v
  applied Leaf (next, inl drops) = (
    without_node old v,
    inl (record {
      node = agrees.node drops.node;
      free = λ is. drops.free (agrees.still is);
      none = λ n is. drops.none n (agrees.ends n is);
      becomes = refl;
    }),
  )
  applied Leaf (next, inr drops) = (
    without_edge (without_node old v) drops.place,
    inr (record {
      node = agrees.node drops.node;
      free = λ is. drops.free (agrees.still is);
      place = drops.place;
      x = drops.x;
      other = drops.other;
      edge = one_before drops.place drops.x drops.other drops.edge;
      becomes = refl;
    }),
  )
  applied Passed (next, joins) = (
    record old {
      nodes = slice_set old.nodes v false;
      edges = slice_set (slice_set old.edges joins.earlier (Some (joined joins.x joins.y joins.u joins.w))) joins.later
          None;
    },
    record {
      node = agrees.node joins.node;
      free = λ is. joins.free (agrees.still is);
      earlier = joins.earlier;
      later = joins.later;
      order = joins.order;
      x = joins.x;
      y = joins.y;
      u = joins.u;
      w = joins.w;
      earlier_at = agrees.edges joins.earlier joins.x joins.earlier_at (first_end joins.x v joins.u joins.earlier_ends);
      later_at = agrees.edges joins.later joins.y joins.later_at (first_end joins.y v joins.w joins.later_ends);
      earlier_ends = joins.earlier_ends;
      later_ends = joins.later_ends;
      only = λ n is. joins.only n (agrees.ends n is);
      becomes = refl;
    },
  )
  applied TerminalLeaf (next, forces) = (
    record {
      nodes = slice_set old.nodes v false;
      edges = slice_set old.edges forces.place None;
      terminals = moved old.terminals v forces.other;
      forced = union old.forced forces.x.originals;
      offset = old.offset + forces.x.edge.length;
    },
    record {
      terminal = agrees.terminal forces.terminal;
      place = forces.place;
      x = forces.x;
      other = forces.other;
      edge = one_before forces.place forces.x forces.other forces.edge;
      becomes = refl;
    },
  )

-- where two states agree at each node that is not due, what is due in the old one is all that is so in the new one
pub due_after : (new old : State) (due : Due) → AreDue old due → ((v : ℕ) → IsDue due v ⊎ AgreesAt new old v) →
    AreDue new due
due_after new old due are each rule v applies = ⊎_elim (λ (is : IsDue due v). is rule)
    (λ (agrees : AgreesAt new old v). are rule v (applied new old v agrees rule applies)) (each v)

-- ---- where a node is dropped

pub kept_node : (nodes : List Bool) (w v : ℕ) → slice_get (slice_set nodes w false) v ≡ Some true →
    slice_get nodes v ≡ Some true
kept_node nodes w v is = grind (arith, set_cases)

pub agrees_node : (s : State) (w v : ℕ) → AgreesAt (without_node s w) s v
agrees_node s w v = search kept_node

-- ---- where an edge is dropped

-- the node is no end of the edge
abbrev IsApart : Bundle → ℕ → Type 0
IsApart x v = (v ≢ x.edge.a) × (v ≢ x.edge.b)

-- the ends of an edge are due
abbrev pub AreBothDue : Due → Bundle → Type 0
AreBothDue due x = IsDue due x.edge.a × IsDue due x.edge.b

due_or_apart : (due : Due) (x : Bundle) (v : ℕ) → AreBothDue due x → IsDue due v ⊎ IsApart x v
due_or_apart due x v both = grind arith

module _ (new old : State) (w place : ℕ) (x : Bundle) (at : HasEdge old place x) (v : ℕ) (apart : IsApart x v)
    (nodes : HasNode new v → HasNode old v) (terminal : IsTerminal new v → IsTerminal old v)
    (still : IsTerminal old v → IsTerminal new v) where
  pub agrees_dropped : new.edges ≡ slice_set old.edges place None → AgreesAt new old v
  agrees_dropped edges = grind (arith, still, found_before, slice_get-set_other)

pub due_leaf : (v : ℕ) (old new : State) (due : Due) → AreDue old due → Takes (rule_of Leaf) v old new →
    ((n : ℕ) (x : Bundle) → EndsIn old v n → HasEdge old n x → AreBothDue due x) → AreDue new due
due_leaf v old new due are (inl drops) told = subst (λ s. AreDue s due) (sym drops.becomes)
    (due_after (without_node old v) old due are (λ u. inr (agrees_node old v u)))
due_leaf v old new due are (inr drops) told = subst (λ s. AreDue s due) (sym drops.becomes)
    (due_after (without_edge (without_node old v) drops.place) old due are (λ u. ⊎_elim (λ (is : IsDue due u). inl is)
    (λ (apart : IsApart drops.x u). grind (arith, agrees_dropped, kept_node))
    (due_or_apart due drops.x u (told drops.place drops.x
    (drops.x, drops.edge.at, first_end drops.x v drops.other drops.edge.ends) drops.edge.at))))

-- ---- where a terminal's edge is forced

module _ (v : ℕ) (old new : State) (forces : ForcesEdge v old new) where
  abbrev forced_state : State
  forced_state = record {
    nodes = slice_set old.nodes v false;
    edges = slice_set old.edges forces.place None;
    terminals = moved old.terminals v forces.other;
    forced = union old.forced forces.x.originals;
    offset = old.offset + forces.x.edge.length;
  }

  both_apart : (u : ℕ) → IsApart forces.x u → HasEnds forces.x.edge v forces.other → (u ≢ v) × (u ≢ forces.other)
  both_apart u apart (inl is) = (λ same. apart.0 (same ∙ sym is.0), λ same. apart.1 (same ∙ sym is.1))
  both_apart u apart (inr is) = (λ same. apart.1 (same ∙ sym is.1), λ same. apart.0 (same ∙ sym is.0))

  terminal_before : (u : ℕ) → IsApart forces.x u → IsTerminal forced_state u → IsTerminal old u
  terminal_before u apart is = ⊎_elim
      (λ (same : u ≡ forces.other). absurd ((both_apart u apart forces.edge.ends).1 same))
      (λ (p : In old.terminals u × (u ≡ v → ⊥)). Contains-from_In old.terminals u p.0)
      (In-moved old.terminals v forces.other u (In-from_Contains old.terminals v forces.terminal)
      (In-from_Contains (moved old.terminals v forces.other) u is))

  pub due_forced : (due : Due) → AreDue old due →
      ((n : ℕ) (x : Bundle) → EndsIn old v n → HasEdge old n x → AreBothDue due x) → AreDue new due
  due_forced due are told = subst (λ s. AreDue s due) (sym forces.becomes)
      (due_after forced_state old due are (λ u. ⊎_elim (λ (is : IsDue due u). inl is)
      (λ (apart : IsApart forces.x u). inr (agrees_dropped forced_state old v forces.place forces.x forces.edge.at u apart
      (kept_node old.nodes v u) (terminal_before u apart) (grind (arith, Contains-from_In, In-moved_from, In-from_Contains, both_apart)) refl))
      (due_or_apart due forces.x u (told forces.place forces.x
      (forces.x, forces.edge.at, first_end forces.x v forces.other forces.edge.ends) forces.edge.at))))

-- ---- where two edges become one

pub due_joined : (v : ℕ) (old new : State) (due : Due) → AreDue old due → JoinsEdges v old new →
    ((n : ℕ) (x : Bundle) → EndsIn old v n → HasEdge old n x → AreBothDue due x) → AreDue new due
due_joined v old new due are joins told = subst (λ s. AreDue s due) (sym joins.becomes)
    (due_after (after v old new joins) old due are each)
  where
    end_x : EndsIn old v joins.earlier
    end_x = (joins.x, joins.earlier_at, first_end joins.x v joins.u joins.earlier_ends)

    end_y : EndsIn old v joins.later
    end_y = (joins.y, joins.later_at, first_end joins.y v joins.w joins.later_ends)

    -- an end of the joined edge is one of the two
    not_joined : (u : ℕ) → IsApart joins.x u → IsApart joins.y u → (joins.u ≡ u) ⊎ (joins.w ≡ u) → ⊥
    not_joined u x_apart y_apart (inl is) = by_ends joins.earlier_ends
      where
        by_ends : HasEnds joins.x.edge v joins.u → ⊥
        by_ends (inl p) = x_apart.1 (sym is ∙ sym p.1)
        by_ends (inr p) = x_apart.0 (sym is ∙ sym p.0)
    not_joined u x_apart y_apart (inr is) = by_ends joins.later_ends
      where
        by_ends : HasEnds joins.y.edge v joins.w → ⊥
        by_ends (inl p) = y_apart.1 (sym is ∙ sym p.1)
        by_ends (inr p) = y_apart.0 (sym is ∙ sym p.0)

    agrees : (u : ℕ) → IsApart joins.x u → IsApart joins.y u → AgreesAt (after v old new joins) old u
    agrees u x_apart y_apart = record {
      node = kept_node old.nodes v u;
      terminal = λ is. is;
      still = λ is. is;
      edges = λ n z at ends. ⊎_elim
          (λ (p : (n ≡ joins.earlier) × (one v old new joins ≡ z)). grind arith)
          (λ (p : (n ≡ joins.earlier → ⊥) × (n ≡ joins.later → ⊥) × (slice_get old.edges n ≡ Some (Some z))). p.2)
          (found v old new joins n z at);
      ends = λ n (z, at, ends). (
        z,
        still v old new joins n z
            (λ same. grind arith)
            (λ same. grind arith) at,
        ends,
      );
    }

    each : (u : ℕ) → IsDue due u ⊎ AgreesAt (after v old new joins) old u
    each u = ⊎_elim (λ (is : IsDue due u). inl is)
        (λ (x_apart : IsApart joins.x u). ⊎_elim (λ (is : IsDue due u). inl is)
        (λ (y_apart : IsApart joins.y u). inr (agrees u x_apart y_apart))
        (due_or_apart due joins.y u (told joins.later joins.y end_y joins.later_at)))
        (due_or_apart due joins.x u (told joins.earlier joins.x end_x joins.earlier_at))

-- ---- where one of two edges with the same ends is dropped

module _ (old new : State) (place other : ℕ) (alike : AreAlike old place other) (within : IsWithin new old)
    (others : (n : ℕ) (z : Bundle) → n ≢ place → n ≢ other → HasEdge old n z → HasEdge new n z)
    (nodes : new.nodes ≡ old.nodes) (terminals : new.terminals ≡ old.terminals) where
  agrees_alike : (u : ℕ) → IsApart alike.x u → AgreesAt new old u
  agrees_alike u apart = grind arith

  pub due_alike : (due : Due) → AreDue old due → AreBothDue due alike.x → AreDue new due
  due_alike due are both = due_after new old due are (λ u. grind (arith, agrees_alike, due_or_apart))
