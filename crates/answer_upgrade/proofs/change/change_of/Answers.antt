use Rattle.std.proofs.Common.{get_or, length, sym, arith, subst, ◌<◌, ◌≤◌, ◌≡◌}
use Rattle.answer_upgrade.proofs.LineChanges.{short_line, title_line, other_line, bare_line, named_line}
use Rattle.answer_upgrade.proofs.change.change_of.Goals as goal

pub returns-then-line-lt7-clause-change : goal.returns-then-line-lt7-clause-change
returns-then-line-lt7-clause-change c = λ v V l fits told.
    short_line v V l fits (subst (λ x. length x < 7) told c.if-line-lt7.true)

pub returns-then-line-eq114-clause-change : goal.returns-then-line-eq114-clause-change
returns-then-line-eq114-clause-change c = λ v V l fits told.
    title_line v V l fits (subst (λ x. get_or x 0 0 ≡ 114) told c.if-line-eq114.true)

pub returns-then-line-ne105-clause-change : goal.returns-then-line-ne105-clause-change
returns-then-line-ne105-clause-change c = λ v V l fits told.
    other_line v V l fits (λ e. c.if-line-eq114.false (subst (λ x. get_or x 0 0 ≡ 114) (sym told) e)) (λ e. c.if-line-ne105.true (subst (λ x. get_or x 3 0 ≡ 105) (sym told) e))

pub returns-then-line-le57-clause-change : goal.returns-then-line-le57-clause-change
returns-then-line-le57-clause-change c = λ v V l fits told.
    bare_line v V l fits (subst (λ x. get_or x 3 0 ≡ 105) told c.if-line-ne105.false) (subst (λ x. get_or x 6 0 ≤ 57) told c.if-line-le57.true)

pub returns-else-line-le57-clause-change : goal.returns-else-line-le57-clause-change
returns-else-line-le57-clause-change c =
    grind (arith, named_line, c.if-line-eq114.false, c.if-line-le57.false)
