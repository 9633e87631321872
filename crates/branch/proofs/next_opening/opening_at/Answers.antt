-- How an open leaf is opened.
use Rattle.branch.proofs.lemmas.OpeningLemmas.{note_decided, note_can_split, next_leaf, choice_can, plain_opening}
use Rattle.branch.proofs.next_opening.opening_at.Goals as goal

pub split_choice-requires-clause-decision : goal.split_choice-requires-clause-decision
split_choice-requires-clause-decision _ c =
    note_decided _ _ _ _ c.requires.search _ (next_leaf _ _ _ _ c.requires.search c.requires.next c.index.ensures).1

pub split_choice-requires-clause-can : goal.split_choice-requires-clause-can
split_choice-requires-clause-can _ c =
    note_can_split _ _ _ _ c.requires.search _ (next_leaf _ _ _ _ c.requires.search c.requires.next c.index.ensures).1

pub opening_on-requires-clause-can : goal.opening_on-requires-clause-can
opening_on-requires-clause-can _ c =
    choice_can _ _ _ _ c.requires.search _ (next_leaf _ _ _ _ c.requires.search c.requires.next c.index.ensures).1
    _ _ c.in_ok-on.ensures

pub returns-clause-plain : goal.returns-clause-plain
returns-clause-plain _ c =
    plain_opening _ _ _ _ c.requires.search _ (next_leaf _ _ _ _ c.requires.search c.requires.next c.index.ensures).1
    _ _ c.in_ok-on.ensures c.opening_on.ensures.leaf c.opening_on.ensures.on c.opening_on.ensures.carried
