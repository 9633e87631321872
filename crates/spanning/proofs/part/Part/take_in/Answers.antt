use Rattle.std.proofs.Common.{◌≡◌, ◌<◌, ◌∙◌, ◌⊎◌, inl, inr, true, false, get_or, set, sym, ap, arith}
use Rattle.net_graph.specs.Flags.{has}
use Rattle.spanning.specs.declared.pair.Pair.{Pair}
use Rattle.spanning.specs.Part.{IsPart}
use Rattle.spanning.proofs.lemmas.Growing.{taken-in, outside-less}
use Rattle.spanning.proofs.part.Part.take_in.Goals as goal
use Rattle.spanning.proofs.part.Part.take_in.Goals.{then-has, else-has}

-- what the pair's number outside is, and what the part is with it
taken : (c : goal.After-add-2) → IsPart c.args.n c.args.pairs.now (set c.args.self.now.inside c.if-has.outer true) (set c.args.self.now.chosen c.args.place true)
    × (c.if-has.outer < c.args.n) × (has c.args.self.now.inside c.if-has.outer ≡ false)
taken c =
    let d : Pair = record { a = 0; b = 0; length = 0 } in
    let inside = c.args.self.now.inside in
    let pair : Pair = get_or c.args.pairs.now c.args.place d in
    let first : has inside pair.a ≡ c.has.result = ap (has inside) (sym c.from-a.ensures) ∙ sym c.has.ensures.within in
    let either : ((has inside pair.a ≡ true) × (c.if-has.outer ≡ pair.b)) ⊎ ((has inside pair.a ≡ false) × (c.if-has.outer ≡ pair.a)) =
    elim c.if-has.branch [
      | then-has w ↦ inl (first ∙ w.if-has.true, w.outer-is ∙ w.from-outer.ensures)
      | else-has w ↦ inr (first ∙ w.if-has.false, w.outer-is ∙ c.from-a.ensures)
    ] in
    taken-in c.args.n c.args.pairs.now inside c.args.self.now.chosen c.args.place c.if-has.outer d c.requires.part c.requires.shortest c.requires.ends either

pub returns-clause-part : goal.returns-clause-part
returns-clause-part c = rw (c.add.ensures, c.add-2.ensures) (taken c).0

pub returns-clause-less : goal.returns-clause-less
returns-clause-less c = grind (arith, taken c, outside-less)
