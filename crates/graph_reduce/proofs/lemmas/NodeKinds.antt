-- The edges that a node has where a rule applies at it.
use Rattle.std.specs.Prelude.{ℕ, ◌≡◌, ◌⊎◌, ◌<◌, false, length, slice_set, Some, None, ◌+◌}
use Rattle.std.proofs.Common.{refl, inl, inr, arith}
use Rattle.std.proofs.lemmas.Bool.{cases_eq}
use Rattle.std.proofs.lemmas.Option.{slice_get_within}
use Rattle.net_graph.specs.Flags.{has}
use Rattle.net_graph.specs.Network.{HasEnds}
use Rattle.graph_reduce.specs.State.{Bundle, State, HasEdge, HasNode, IsTerminal, EndsIn, HasOneEdge, union}
use Rattle.graph_reduce.specs.Rules.{joined, moved, without_edge, without_node}
use Rattle.graph_reduce.specs.Step.{Applies}
use Rattle.graph_reduce.specs.Step.Rule.{Leaf, Passed, TerminalLeaf}
use Rattle.graph_reduce.specs.Survey.{HasOneBelow, HasTwoBelow, HasThree}

-- the other end of an edge of the node
pub record OtherEnd (x : Bundle) (v : ℕ) : Type 0 where
  pub other : ℕ
  pub ends : HasEnds x.edge v other

pub other_end_of : (x : Bundle) (v : ℕ) → (x.edge.a ≡ v) ⊎ (x.edge.b ≡ v) → OtherEnd x v
other_end_of x v (inl is) = record { other = x.edge.b; ends = inl (is, refl) }
other_end_of x v (inr is) = record { other = x.edge.a; ends = inr (refl, is) }

-- an end of an edge
pub end_of : (s : State) (v other place : ℕ) (x : Bundle) → HasEdge s place x → HasEnds x.edge v other →
    EndsIn s v place
end_of s v other place x at (inl is) = (x, at, inl is.0)
end_of s v other place x at (inr is) = (x, at, inr is.1)

module _ (s : State) (v : ℕ) where
  abbrev end : ℕ
  end = length s.edges

  pub below_end : (n : ℕ) → EndsIn s v n → n < end
  below_end n (x, at, ends) = slice_get_within s.edges n (Some x) at

  -- ---- one edge at most

  two_at_one : (one two place : ℕ) → one < two → EndsIn s v one → EndsIn s v two →
      ((n : ℕ) → EndsIn s v n → n ≡ place) → ⊥
  two_at_one one two place order first second only =
      let a = only one first in let b = only two second in let bad : ⊥ = omega arith in bad

  pub leaf_not_two : (one two : ℕ) → HasTwoBelow s v end one two → ¬ Applies s Leaf v
  leaf_not_two one two has (new, inl drops) = drops.none one has.first
  leaf_not_two one two has (new, inr drops) =
      two_at_one one two drops.place has.order has.first has.second drops.edge.only

  pub leaf_not_more : HasThree s v → ¬ Applies s Leaf v
  leaf_not_more has (new, inl drops) = drops.none has.one has.first
  leaf_not_more has (new, inr drops) =
      two_at_one has.one has.two drops.place has.order has.first has.second drops.edge.only

  -- ---- two edges

  abbrev TwoPlaces : ℕ → ℕ → Type 0
  TwoPlaces earlier later = (n : ℕ) → EndsIn s v n → (n ≡ earlier) ⊎ (n ≡ later)

  pub passed_not_none : ((n : ℕ) → n < end → ¬ EndsIn s v n) → ¬ Applies s Passed v
  passed_not_none none (new, joins) =
      let ends = end_of s v joins.u joins.earlier joins.x joins.earlier_at joins.earlier_ends in
      none joins.earlier (below_end joins.earlier ends) ends

  pub passed_not_one : (place : ℕ) → HasOneBelow s v end place → ¬ Applies s Passed v
  passed_not_one place has (new, joins) =
      let ends = end_of s v joins.u joins.earlier joins.x joins.earlier_at joins.earlier_ends in
      let ends' = end_of s v joins.w joins.later joins.y joins.later_at joins.later_ends in
      let a = has.only joins.earlier (below_end joins.earlier ends) ends in
      let b = has.only joins.later (below_end joins.later ends') ends' in
      let order = joins.order in let bad : ⊥ = omega arith in bad

  pub passed_not_more : HasThree s v → ¬ Applies s Passed v
  passed_not_more has (new, joins) = grind (arith, joins.only has.one has.first, joins.only has.two has.second, joins.only has.three has.third)

  -- ---- a terminal with one edge

  pub forced_not_none : ((n : ℕ) → n < end → ¬ EndsIn s v n) → ¬ Applies s TerminalLeaf v
  forced_not_none none (new, forces) =
      let ends = end_of s v forces.other forces.place forces.x forces.edge.at forces.edge.ends in
      none forces.place (below_end forces.place ends) ends

  pub forced_not_two : (one two : ℕ) → HasTwoBelow s v end one two → ¬ Applies s TerminalLeaf v
  forced_not_two one two has (new, forces) =
      two_at_one one two forces.place has.order has.first has.second forces.edge.only

  pub forced_not_more : HasThree s v → ¬ Applies s TerminalLeaf v
  forced_not_more has (new, forces) =
      two_at_one has.one has.two forces.place has.order has.first has.second forces.edge.only

  -- ---- where they apply

  pub one_edge : (place : ℕ) → HasOneBelow s v end place →
      (x : Bundle) × (other : ℕ) × HasOneEdge s v place x other
  one_edge place has =
      let (x, at, is) = has.ends in let o = other_end_of x v is in (
        x,
        o.other,
        record { at = at; ends = o.ends; only = λ n ends. has.only n (below_end n ends) ends },
      )

  pub lone_applies : HasNode s v → ¬ IsTerminal s v → ((n : ℕ) → n < end → ¬ EndsIn s v n) → Applies s Leaf v
  lone_applies node free none = (
    without_node s v,
    inl (record { node = node; free = free; none = λ n ends. none n (below_end n ends) ends; becomes = refl }),
  )

  pub leaf_applies : HasNode s v → ¬ IsTerminal s v → (place : ℕ) → HasOneBelow s v end place → Applies s Leaf v
  leaf_applies node free place has = let (x, other, edge) = one_edge place has in (
    without_edge (without_node s v) place,
    inr (record { node = node; free = free; place = place; x = x; other = other; edge = edge; becomes = refl }),
  )

  pub two_only : (one two : ℕ) → HasTwoBelow s v end one two → TwoPlaces one two
  two_only one two has n ends = elim (cases_eq n one) [
    | inl is ↦ inl is
    | inr apart ↦ inr (has.only n (below_end n ends) ends apart)
  ]

  pub passed_applies : HasNode s v → ¬ IsTerminal s v → (one two : ℕ) → HasTwoBelow s v end one two → Applies s Passed v
  passed_applies node free one two has =
      let (x, x_at, x_is) = has.first in let o = other_end_of x v x_is in
      let (y, y_at, y_is) = has.second in let p = other_end_of y v y_is in (
        record s {
          nodes = slice_set s.nodes v false;
          edges = slice_set (slice_set s.edges one (Some (joined x y o.other p.other))) two None;
        },
        record {
          node = node;
          free = free;
          earlier = one;
          later = two;
          order = has.order;
          x = x;
          y = y;
          u = o.other;
          w = p.other;
          earlier_at = x_at;
          later_at = y_at;
          earlier_ends = o.ends;
          later_ends = p.ends;
          only = two_only one two has;
          becomes = refl;
        },
      )

  pub forced_applies : IsTerminal s v → (place : ℕ) → HasOneBelow s v end place → Applies s TerminalLeaf v
  forced_applies terminal place has = let (x, other, edge) = one_edge place has in (
    record {
      nodes = slice_set s.nodes v false;
      edges = slice_set s.edges place None;
      terminals = moved s.terminals v other;
      forced = union s.forced x.originals;
      offset = s.offset + x.edge.length;
    },
    record { terminal = terminal; place = place; x = x; other = other; edge = edge; becomes = refl },
  )

  -- ---- what applies at it is a node that is left, and is or is no terminal

  pub leaf_node : Applies s Leaf v → HasNode s v × ¬ IsTerminal s v
  leaf_node (new, inl drops) = (drops.node, drops.free)
  leaf_node (new, inr drops) = (drops.node, drops.free)

  pub passed_node : Applies s Passed v → HasNode s v × ¬ IsTerminal s v
  passed_node (new, joins) = (joins.node, joins.free)

  pub forced_node : Applies s TerminalLeaf v → IsTerminal s v
  forced_node (new, forces) = forces.terminal
