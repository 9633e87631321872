use Rattle.std.proofs.Common.{ℕ, ◌≡◌, ◌<◌, ◌≤◌, List}
use Rattle.net_graph.specs.declared.packing.Cut.{Cut}
use Rattle.net_graph.specs.Decision.{Decided, nothing_decided}
use Rattle.net_graph.specs.Packing.{packing_value}
use Rattle.cert_tree.specs.Decisions.{IsLeafAt}
use Rattle.cert_tree.proofs.tree.CertTree.value.Given as goal

-- the value so far is no more than that of each leaf passed, and it is that of some leaf
abbrev pub invariant-loop-leaf : goal.invariant-loop-leaf
invariant-loop-leaf l = record {
  least : (k : ℕ) (own : Decided) (cuts : List Cut) → k < l.leaf → IsLeafAt (nothing_decided l.g) l.self k own cuts →
      l.least ≤ packing_value l.g own cuts;
  some : (k : ℕ) × (own : Decided) × (cuts : List Cut) × IsLeafAt (nothing_decided l.g) l.self k own cuts ×
      (l.least ≡ packing_value l.g own cuts);
}
