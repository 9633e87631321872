use Rattle.std.proofs.Common.{◌≤◌}
use Rattle.cert_tree.specs.Preorder.{split_count}
use Rattle.graph_search.specs.Anew.{IsAhead}
use Rattle.graph_search.proofs.chains.split_in_turn.Given as goal

-- each turn so far made a plain opening at most
abbrev pub invariant-loop-made : goal.invariant-loop-made
invariant-loop-made g l = IsAhead l.fn.search l.search × (split_count l.search.tree ≤ l.made)
