-- Where the remaining trees don't join, nothing respects the choices; where the taken ones do, nothing that does is shorter.
use Rattle.std.proofs.Common.{◌∙◌, sym, arith}
use Rattle.fst_concat.proofs.lemmas.Choices.{none_respects, taken_within}
use Rattle.fst_concat.proofs.lemmas.Parts.{apart_some, apart_none}
use Rattle.fst_concat.proofs.judge.judge.Goals as goal

pub returns-then-is_some-clause-holds : goal.returns-then-is_some-clause-holds
returns-then-is_some-clause-holds c = none_respects c.args.points c.args.trees.now c.args.choices.now c.args.best.now.total
    c.more_trees.ensures.more_trees_join c.requires.size
    (apart_some c.args.points c.args.trees.now _ _ c.first_apart.result c.first_apart.ensures
    (sym c.is_some.ensures ∙ c.if-is_some.true) (c.deref.ensures.value ∙ c.in_ok-remaining.ensures))

pub returns-then-is_none-clause-holds : goal.returns-then-is_none-clause-holds
returns-then-is_none-clause-holds c =
    let set_is = c.deref-then-is_none.ensures.value ∙ c.in_ok-taken.ensures in
    grind (arith, taken_within)

pub weigh-requires-clause-can_go_on : goal.weigh-requires-clause-can_go_on
weigh-requires-clause-can_go_on c =
    grind (arith, apart_none, apart_some, c.first_apart.ensures, c.is_some.ensures, c.if-is_some.false, c.deref.ensures.value, c.in_ok-remaining.ensures, c.first_apart-2.ensures, c.is_none.ensures, c.if-is_none.false, c.deref-2.ensures.value, c.in_ok-taken.ensures)
