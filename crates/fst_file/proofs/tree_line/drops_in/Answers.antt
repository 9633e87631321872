-- Each word more is a drop, or no drops are spelled.
use Rattle.std.proofs.Common.{arith}
use Rattle.std.proofs.lemmas.Bool.{false≢true}
use Rattle.fst_file.proofs.lemmas.Drops.{drop_read, drop_passed, no_drop}
use Rattle.fst_file.proofs.tree_line.drops_in.Goals as goal

pub returns-in_err-place-clause-none : goal.returns-in_err-place-clause-none
returns-in_err-place-clause-none c = rw c.from_residual.ensures
    (no_drop c.args.words.now c.loop-words.words c.loop-words.drops c.loop-words.invariant (λ none. false≢true (c.loop-words-test.ensures.1 none)) c.in_err-place.ensures.none)

pub loop-words-preserved-then-len-lt-KEPT_DROPS : goal.loop-words-preserved-then-len-lt-KEPT_DROPS
loop-words-preserved-then-len-lt-KEPT_DROPS c = grind (arith, drop_read)

pub loop-words-preserved : goal.loop-words-preserved
loop-words-preserved c = grind (arith, drop_passed)
