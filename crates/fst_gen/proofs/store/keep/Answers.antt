use Rattle.std.proofs.Common.{ℕ, List, arith, subst, ◌∙◌}
use Rattle.full_tree.specs.Word.{IsWordOf}
use Rattle.fst_gen.proofs.lemmas.Kept.{PutsLeast-worse, PutsLeast-better}
use Rattle.fst_gen.proofs.store.keep.Goals as goal

pub returns-then-not-is_better : goal.returns-then-not-is_better
returns-then-not-is_better c =
    let is = subst (λ (ms : List ℕ). IsWordOf c.word_of-word.result ms) (c.as_slice.ensures ∙ c.members-members.ensures) c.word_of-word.ensures in
    (PutsLeast-worse c.args.tree c.args.trees.now c.word_of-word.result is c.if-not-is_better.ensures, c.requires.room)

pub returns-then-len-gt-MAX_TREES : goal.returns-then-len-gt-MAX_TREES
returns-then-len-gt-MAX_TREES c = grind (arith, PutsLeast-better)

pub returns : goal.returns
returns c = grind (arith, PutsLeast-better)
