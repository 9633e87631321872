use Rattle.std.proofs.Common.{get_or, take, ◌∙◌, arith}
use Rattle.std.specs.Prelude.{◌==◌}
use Rattle.std.proofs.lemmas.Bool.Decides.{Decides-eqb, not_from_Decides}
use Rattle.std.proofs.lemmas.List.Elements.{contains_decides, Contains-from_at}
use Rattle.std.proofs.lemmas.List.{take_all, get_or_default}
use Rattle.full_tree.proofs.lemmas.FormTests.{no, distinct_more, not_distinct}
use Rattle.full_tree.proofs.form.are_distinct.Goals as goal

pub returns-then-contains : goal.returns-then-contains
returns-then-contains c =
    let before = take c.loop-n.n c.args.places.now in
    let place = get_or c.args.places.now c.loop-n.n 0 in
    let found = (contains_decides (λ p q. p == q) Decides-eqb before place c.contains.result c.contains.ensures.cases).0 c.if-contains.true in
    no (not_distinct c.args.places.now c.loop-n.n c.loop-n-test.true (Contains-from_at before place found))

pub loop-n-preserved : goal.loop-n-preserved
loop-n-preserved c =
    let before = take c.loop-n.n c.args.places.now in
    let place = get_or c.args.places.now c.loop-n.n 0 in
    let absent = not_from_Decides c.contains.result (contains_decides (λ p q. p == q) Decides-eqb before place c.contains.result c.contains.ensures.cases) c.if-contains.false in
    distinct_more c.args.places.now c.loop-n.n c.loop-n-test.true c.loop-n.invariant (λ held. absent (held.0, held.1, λ d. get_or_default before held.0 d place held.1 ∙ held.2))

pub returns : goal.returns
returns c = grind (arith, take_all c.loop-n.n c.args.places.now c.loop-n-test.false)
