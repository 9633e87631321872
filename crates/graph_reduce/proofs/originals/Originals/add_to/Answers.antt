use Rattle.std.specs.Prelude.{take, ◌+◌}
use Rattle.std.proofs.Common.{sym, subst, arith}
use Rattle.std.proofs.lemmas.List.{take_all}
use Rattle.graph_reduce.proofs.lemmas.Originals.{AreAdded, length-flags, none_added, one_added, all_added, numbers_below}
use Rattle.graph_reduce.proofs.originals.Originals.add_to.Goals as goal

pub loop-n-init : goal.loop-n-init
loop-n-init c = none_added c.args.set.now

pub add-requires : goal.add-requires
add-requires c =
    let below = numbers_below c.self.inside.size c.self.inside.numbers.items c.deref-n-items.result.now
    c.args.self.now c.args.set.now c.self.view_is c.requires c.deref-n-items.ensures.value c.self.invariant in
    omega (arith, below c.loop-n.n-index 0 c.loop-n-test.true, c.loop-n.invariant.size)

pub loop-n-preserved : goal.loop-n-preserved
loop-n-preserved c = subst (λ set. AreAdded c.args.set.now set (take (c.loop-n.n-index + 1) c.deref-n-items.result.now))
    (sym c.add.ensures)
    (one_added c.args.set.now c.loop-n.set c.deref-n-items.result.now c.loop-n.n-index 0 c.loop-n-test.true
    (numbers_below c.self.inside.size c.self.inside.numbers.items c.deref-n-items.result.now
    c.args.self.now c.args.set.now c.self.view_is c.requires c.deref-n-items.ensures.value c.self.invariant)
    c.loop-n.invariant)

pub returns : goal.returns
returns c =
    grind (arith, all_added, length-flags (c.self.inside).size (c.self.inside).numbers.items, AreAdded c.args.set.now c.loop-n.set, take_all)
