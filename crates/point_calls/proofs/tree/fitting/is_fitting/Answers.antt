use Rattle.std.proofs.Common.{refl}
use Rattle.point_calls.proofs.tree.fitting.is_fitting.Goals as goal

pub returns-clause-members : goal.returns-clause-members
returns-clause-members c = λ yes. c.trees_in_form_have_members.ensures c.args.grid.now c.args.tree.now (c.if-not-in_form.ensures.0 refl)
