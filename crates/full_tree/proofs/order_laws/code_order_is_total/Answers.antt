use Rattle.full_tree.specs.OrderLaws.{code_cmp_total, same_code}
use Rattle.full_tree.proofs.order_laws.code_order_is_total.Goals as goal

pub returns-clause-total : goal.returns-clause-total
returns-clause-total c = code_cmp_total

pub returns-clause-same : goal.returns-clause-same
returns-clause-same c = same_code
