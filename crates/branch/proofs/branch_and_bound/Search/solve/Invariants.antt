use Rattle.std.proofs.Common.{◌≡◌}
use Rattle.cert_tree.specs.Preorder.{split_count}
use Rattle.branch.specs.PlainOpenings.{LeadsByOpenings}
use Rattle.branch.proofs.branch_and_bound.Search.solve.Given as goal

-- each turn so far made a split by a plain opening
abbrev pub invariant-loop-made : goal.invariant-loop-made
invariant-loop-made g l = record {
  graph : l.self.graph ≡ l.fn.self.graph;
  first_length : l.self.first_length ≡ l.fn.self.first_length;
  count : split_count l.self.tree ≡ l._made;
  kind : l.self.kind ≡ l.fn.self.kind;
  leads : LeadsByOpenings l.fn.self.kind l.fn.self.graph l.fn.self.network l.fn.self.tree l.self.network l.self.tree;
}
