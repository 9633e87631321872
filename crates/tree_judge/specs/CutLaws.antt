-- A cut may stand behind those before it, or its line is wrong for one cause.
use Rattle.std.proofs.Common.{ℕ, ◌≡◌, Bool, true, false, not, ◌&&◌, List, [], ◌∷◌, ◌++◌, slice_get, Some, ◌⊎◌, inl}
use Rattle.std.proofs.Common.{inr, sym, ap, ◌∙◌, subst, ◌<◌, ◌≤◌, arith}
use Rattle.std.proofs.lemmas.Bool.{cases_lt}
use Rattle.std.proofs.lemmas.Option.{same_Some}
use Rattle.net_graph.specs.declared.edge.Edge.{Edge}
use Rattle.net_graph.specs.declared.packing.Cut.{Cut}
use Rattle.net_graph.specs.declared.state.EdgeState.{EdgeState}
use Rattle.net_graph.specs.Flags.{has}
use Rattle.net_graph.specs.Graph.{Graph, root_of}
use Rattle.net_graph.specs.Decision.{Decided, states_of}
use Rattle.net_graph.specs.Packing.{IsCut, IsWithinRoom, room_of}
use Rattle.net_graph.specs.Feasible.{KeepsRoom}
use Rattle.tree_judge.specs.declared.cause.Cause.{Cause}
use Rattle.tree_judge.specs.declared.cause.Cause.TheVariants.{RootInCut, IdleCut, Overload}
use Rattle.tree_judge.specs.Cuts.{PacksCut, IsIdle, IsEntered, IsFirstOverload, CutFault}

-- a line's cut overloads an edge
record Overloads (g : Graph) (d : Decided) (cuts : List Cut) (c : Cut) (n : ℕ) (cause : Cause) : Type 0 where
  edge : ℕ
  amount : ℕ
  room : ℕ
  is : cause ≡ Overload n edge amount room
  cut : IsCut g d c.members
  first : IsFirstOverload g d (cuts ++ c ∷ []) c.members edge amount room

-- the three causes
cut_causes : (g : Graph) (d : Decided) (cuts : List Cut) (c : Cut) (n : ℕ) (cause : Cause) →
    CutFault g d cuts c n cause →
    ((cause ≡ RootInCut n) × (has c.members (root_of g) ≡ true)) ⊎
    (((cause ≡ IdleCut n) × IsIdle g d c.members) ⊎ Overloads g d cuts c n cause)
cut_causes g d cuts c n (RootInCut line) (is, rooted) = inl (cc, rooted)
cut_causes g d cuts c n (IdleCut line) (is, idle) = inr (inl (cc, idle))
cut_causes g d cuts c n (Overload line edge amount room) (is, cut, first) =
    inr (inr (record { edge = edge; amount = amount; room = room; is = cc; cut = cut; first = first }))
cut_causes g d cuts c n cause fault = absurd fault

-- ---- loads

-- a load above the room is not within it
out_of_room : (state : EdgeState) (e : Edge) (amount room : ℕ) → room_of state e ≡ Some room → room < amount →
    IsWithinRoom state e amount → ⊥
out_of_room state e amount room is above within = let le : amount ≤ room = rw is at within in omega arith

-- an overloaded edge does not keep its room
overload_out_of_room : (g : Graph) (d : Decided) (packing : List Cut) (members : List Bool)
    (edge amount room : ℕ) → IsFirstOverload g d packing members edge amount room → KeepsRoom g d packing edge → ⊥
overload_out_of_room g d packing members edge amount room over keeps =
    grind (arith, keeps over.is over.state over.at over.state_is, out_of_room)

-- an edge has one arc at most that enters a set
one_way : (p q : Bool) → p && not q ≡ true → q && not p ≡ true → ⊥
one_way true true there back = absurd cc
one_way true false there back = absurd cc
one_way false true there back = absurd cc
one_way false false there back = absurd cc

-- so its load is determined
same_amount : (packing : List Cut) (members : List Bool) (u v amount amount' : ℕ) →
    IsEntered packing members u v amount ⊎ IsEntered packing members v u amount →
    IsEntered packing members u v amount' ⊎ IsEntered packing members v u amount' → amount ≡ amount'
same_amount packing members u v amount amount' (inl there) (inl there') = there.1 ∙ sym there'.1
same_amount packing members u v amount amount' (inl there) (inr back') =
    absurd (one_way (has members v) (has members u) there.0 back'.0)
same_amount packing members u v amount amount' (inr back) (inl there') =
    absurd (one_way (has members v) (has members u) there'.0 back.0)
same_amount packing members u v amount amount' (inr back) (inr back') = back.1 ∙ sym back'.1

-- the first overloaded edge has one number
same_first : (g : Graph) (d : Decided) (packing : List Cut) (members : List Bool)
    (edge edge' amount amount' room room' : ℕ) → IsFirstOverload g d packing members edge amount room →
    IsFirstOverload g d packing members edge' amount' room' → edge ≡ edge'
same_first g d packing members edge edge' amount amount' room room' over over' =
    elim (cases_lt edge edge') [
      | inl sooner ↦ absurd (overload_out_of_room g d packing members edge amount room over (over'.first edge sooner))
      | inr later ↦ elim (cases_lt edge' edge) [
        | inl sooner ↦
            absurd (overload_out_of_room g d packing members edge' amount' room' over' (over.first edge' sooner))
        | inr no_later ↦ omega arith
      ]
    ]

-- and one load and one room
same_overload : (g : Graph) (d : Decided) (packing : List Cut) (members : List Bool)
    (edge edge' amount amount' room room' : ℕ) → IsFirstOverload g d packing members edge amount room →
    IsFirstOverload g d packing members edge' amount' room' → (edge ≡ edge') × (amount ≡ amount') × (room ≡ room')
same_overload g d packing members edge edge' amount amount' room room' over over' =
    let same = same_first g d packing members edge edge' amount amount' room room' over over' in
    let at' : slice_get g.edges edge ≡ Some over'.is = rw same over'.at in
    let state_at' : slice_get (states_of g d) edge ≡ Some over'.state = rw same over'.state_is in
    let is : over'.is ≡ over.is = same_Some over'.is over.is (sym at' ∙ over.at) in
    let state_is : over'.state ≡ over.state = same_Some over'.state over.state (sym state_at' ∙ over.state_is) in
    let entered' = subst
    (λ (e : Edge). IsEntered packing members e.a e.b amount' ⊎ IsEntered packing members e.b e.a amount') is
    over'.entered in
    let rooms : Some room ≡ Some room' = sym over.room_is ∙ sym (ap (λ s. room_of s over.is) state_is)
    ∙ sym (ap (λ e. room_of over'.state e) is) ∙ over'.room_is in (
      same,
      same_amount packing members over.is.a over.is.b amount amount' over.entered entered',
      same_Some room room' rooms,
    )

-- ---- faults

-- a cut is not idle
cut_not_idle : {P : Type 0} (g : Graph) (d : Decided) (members : List Bool) → IsCut g d members → IsIdle g d members → P
cut_not_idle g d members cut idle =
    let v = cut.required.0 in
    let out : has members v ≡ false = idle.idle v cut.required.1 in
    let within = cut.required.2 in
    absurd cc

-- nor holds it the root
root_out : {P : Type 0} (g : Graph) (members : List Bool) → has members (root_of g) ≡ false →
    has members (root_of g) ≡ true → P
root_out g members out within = absurd cc

-- a cut that may stand there has no fault
pub packs_without_fault : {P : Type 0} (g : Graph) (d : Decided) (cuts : List Cut) (c : Cut) (n : ℕ)
    (cause : Cause) → PacksCut g d cuts c → CutFault g d cuts c n cause → P
packs_without_fault g d cuts c n cause packs fault =
    elim (cut_causes g d cuts c n cause fault) [
      | inl (_, rooted) ↦ root_out g c.members packs.cut.rootless rooted
      | inr (inl (_, idle)) ↦ cut_not_idle g d c.members packs.cut idle
      | inr (inr over) ↦
          absurd (overload_out_of_room g d (cuts ++ c ∷ []) c.members over.edge over.amount over.room over.first
          (packs.room over.edge))
    ]

-- a cut overloads an edge in one way
same_overloads : (g : Graph) (d : Decided) (cuts : List Cut) (c : Cut) (n : ℕ) (cause cause' : Cause) →
    Overloads g d cuts c n cause → Overloads g d cuts c n cause' → cause ≡ cause'
same_overloads g d cuts c n cause cause' over over' =
    grind (
      arith,
      same_overload g d (cuts ++ c ∷ []) c.members over.edge over'.edge over.amount over'.amount over.room
          over'.room over.first over'.first,
    )

-- the line of one that may not has one
pub same_cut_fault : (g : Graph) (d : Decided) (cuts : List Cut) (c : Cut) (n : ℕ) (cause cause' : Cause) →
    CutFault g d cuts c n cause → CutFault g d cuts c n cause' → cause ≡ cause'
same_cut_fault g d cuts c n cause cause' fault fault' =
    elim (cut_causes g d cuts c n cause fault) [
      | inl (is, rooted) ↦ elim (cut_causes g d cuts c n cause' fault') [
        | inl (is', _) ↦ is ∙ sym is'
        | inr (inl (_, idle')) ↦ root_out g c.members idle'.rootless rooted
        | inr (inr over') ↦ root_out g c.members over'.cut.rootless rooted
      ]
      | inr (inl (is, idle)) ↦ elim (cut_causes g d cuts c n cause' fault') [
        | inl (_, rooted') ↦ root_out g c.members idle.rootless rooted'
        | inr (inl (is', _)) ↦ is ∙ sym is'
        | inr (inr over') ↦ cut_not_idle g d c.members over'.cut idle
      ]
      | inr (inr over) ↦ elim (cut_causes g d cuts c n cause' fault') [
        | inl (_, rooted') ↦ root_out g c.members over.cut.rootless rooted'
        | inr (inl (_, idle')) ↦ cut_not_idle g d c.members over.cut idle'
        | inr (inr over') ↦ same_overloads g d cuts c n cause cause' over over'
      ]
    ]
