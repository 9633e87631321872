use Rattle.std.proofs.Common.{◌≡◌, ◌+◌, arith}
use Rattle.cert_tree.specs.Preorder.{split_count}
use Rattle.cert_tree.specs.PreorderLaws.{length-packings_of}
use Rattle.cert_tree.proofs.tree.CertTree.splits.Goals as goal

-- there is one leaf more than splits
leaves : (c : goal.After-len) → c.len.result ≡ split_count c.args.self.now + 1
leaves c = grind (arith, length-packings_of c.args.self.now)

pub overflow_sub-result : goal.overflow_sub-result
overflow_sub-result c = omega (arith, leaves c)

pub returns : goal.returns
returns c = omega (arith, leaves c)
