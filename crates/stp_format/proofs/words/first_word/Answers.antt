-- The first word ends at the first gap behind it; where there is none, it is the last one.
use Rattle.std.proofs.Common.{sym, ◌∙◌, arith}
use Rattle.stp_format.specs.Lines.{words_of}
use Rattle.stp_format.proofs.lemmas.LineWords.{some_bytes, words_of-word, words_of-last}
use Rattle.stp_format.proofs.words.first_word.Goals as goal

pub returns-then-not-is_empty-clause-found : goal.returns-then-not-is_empty-clause-found
returns-then-not-is_empty-clause-found c =
    grind (arith, words_of, words_of-word, some_bytes c.in-Some.word.now (sym c.is_empty.ensures ∙ c.if-not-is_empty.true), c.in-Some.ensures.parts, c.loop-word.invariant, c.in-Some.ensures.first)

pub returns-else-is_empty-clause-found : goal.returns-else-is_empty-clause-found
returns-else-is_empty-clause-found c =
    grind (arith, words_of-last c.loop-word.left.now c.in_default.ensures.none (some_bytes c.loop-word.left.now (sym c.is_empty-2.ensures ∙ c.if-is_empty.false)), c.loop-word.invariant)
