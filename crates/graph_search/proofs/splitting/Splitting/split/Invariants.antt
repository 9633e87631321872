use Rattle.std.proofs.Common.{◌≤◌, All}
use Rattle.branch.specs.Kinds.{SplitsVertices}
use Rattle.cert_tree.specs.Preorder.{split_count}
use Rattle.graph_search.specs.Plans.{IsPlanIn}
use Rattle.graph_search.specs.Raised.{IsSameSearch}
use Rattle.graph_search.proofs.splitting.Splitting.split.Given as goal

-- each turn so far made a split on a vertex at most, and the plans are of the graph
abbrev pub invariant-loop-made : goal.invariant-loop-made
invariant-loop-made g l = IsSameSearch l.fn.search l.search × (split_count l.search.tree ≤ l._made)
    × SplitsVertices l.search.tree × All (IsPlanIn l.search.graph) l.plans.items
