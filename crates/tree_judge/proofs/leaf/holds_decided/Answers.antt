use Rattle.std.proofs.Common.{◌≡◌, slice_get, inl, inr, sym, subst, ap, ◌∙◌, arith}
use Rattle.std.proofs.lemmas.Bool.{cases_eq, iff_false}
use Rattle.std.proofs.lemmas.Option.{same_Some, slice_get_within}
use Rattle.cert_tree.specs.declared.way.Turn.{Turn}
use Rattle.tree_judge.specs.Ways.{RequiresOn}
use Rattle.tree_judge.proofs.lemmas.WayTurns.{required_by, required_turned, turn_has_state}
use Rattle.tree_judge.proofs.leaf.holds_decided.Goals as goal

pub holds_by-requires-clause-state : goal.holds_by-requires-clause-state
holds_by-requires-clause-state c =
    turn_has_state c.args.g.now c.args.way.now c.loop-place.place c.turn.result c.requires.on_way c.turn.ensures

pub returns-then-holds_by : goal.returns-then-holds_by
returns-then-holds_by c = grind (arith, c.holds_by.ensures.0 c.if-holds_by.true, required_by)

pub loop-place-preserved : goal.loop-place-preserved
loop-place-preserved c k t v below at required held = elim (cases_eq k c.loop-place.place) [
  | inl here ↦
      let is : c.turn.result ≡ t =
      same_Some c.turn.result t (sym c.turn.ensures ∙ sym (ap (slice_get c.args.way.now.path) here) ∙ at) in
      iff_false c.holds_by.ensures c.if-holds_by.false
      (v, subst (λ (x : Turn). RequiresOn c.args.g.now c.args.way.now.decided x.on v) (sym is) required, held)
  | inr apart ↦ c.loop-place.invariant k t v (omega arith) at required held
]

pub returns : goal.returns
returns c = (
  λ never. cc,
  λ (v, required, held).
      let (k, t, turned, by) = required_turned c.args.g.now c.args.way.now v c.requires.on_way required in
      absurd (c.loop-place.invariant k t v (omega (arith, slice_get_within c.args.way.now.path k t turned)) turned by held),
)
