use Rattle.std.proofs.Common.{◌≡◌, ◌≤◌, take}
use Rattle.cert_tree.specs.Preorder.{leaves_in}
use Rattle.cert_tree.proofs.tree.CertTree.place_of.Given as goal

-- the leaves among the nodes passed were counted, and the one that is sought isn't among them
abbrev pub invariant-loop-place : goal.invariant-loop-place
invariant-loop-place l = record {
  count : l.passed ≡ leaves_in (take l.place l.node-items);
  ahead : l.passed ≤ l.leaf;
}
