use Rattle.std.proofs.Common.{◌≡◌, ap, sym, ◌∙◌, arith}
use Rattle.cert_tree.specs.Preorder.{nodes_of}
use Rattle.cert_tree.proofs.lemmas.Places.{leaf_passed, split_passed, all_passed}
use Rattle.cert_tree.proofs.tree.CertTree.place_of.Goals as goal
use Rattle.cert_tree.proofs.tree.CertTree.place_of.Goals.{then-is_none+else-passed-leaf, else-is_none}

pub loop-place-preserved : goal.loop-place-preserved
loop-place-preserved c = grind (arith, then-is_none+else-passed-leaf, leaf_passed, else-is_none, split_passed)

pub unreachable-requires : goal.unreachable-requires
unreachable-requires c =
    let nodes = c.deref-node-items.result.now in
    let same : nodes ≡ nodes_of c.args.self.now =
    c.deref-node-items.ensures.value ∙ sym c.self.invariant.nodes_same ∙ ap nodes_of c.self.view_is in
    omega (arith, all_passed c.args.self.now nodes c.loop-place.place same c.loop-place-test.false)
