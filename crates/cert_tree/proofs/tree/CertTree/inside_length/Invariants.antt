use Rattle.std.proofs.Common.{◌≡◌, ◌+◌, ◌≤◌, length, take, reverse}
use Rattle.std.specs.Prelude.{All}
use Rattle.cert_tree.specs.Preorder.{nodes_of}
use Rattle.cert_tree.specs.Way.{IsTurnIn, inside_parts, turns_up, way_to}
use Rattle.cert_tree.proofs.tree.CertTree.inside_length.Given as goal

-- the sum is that of the turns below the nodes that are left
abbrev pub invariant-loop-place : goal.invariant-loop-place
invariant-loop-place l = record {
  sum : l.sum + inside_parts l.g.edges (turns_up (reverse (take l.place (nodes_of l.self))) l.passed)
      ≡ inside_parts l.g.edges (way_to l.self l.leaf);
  turns : All (IsTurnIn l.g.edges) (turns_up (reverse (take l.place (nodes_of l.self))) l.passed);
  passed : l.passed + l.place ≤ length (nodes_of l.self);
}
