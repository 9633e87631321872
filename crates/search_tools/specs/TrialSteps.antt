-- The steps of `trial`, before it writes.
use Rattle.std.specs.Prelude.{ℕ, List, length}
use Rattle.points_in.specs.declared.point.Point.{Point}
use Rattle.full_tree.specs.declared.code.Tree.{Tree as FullTree}
use Rattle.cert_tree.specs.Preorder.{split_count}
use Rattle.search_rules.specs.declared.options.SearchOptions.{SearchOptions}
use Rattle.graph_search.specs.declared.solution.Solution.{Solution}
use Rattle.search_tools.specs.Steps.{IsFor}
use Rattle.search_tools.specs.declared.trial_line.TrialLine.{TrialLine}

-- it is an answer for some points and full trees, under some options
abbrev pub IsSomeAnswer : Solution (List Point) → Type 0
IsSomeAnswer s = (options : SearchOptions) × (ps : List Point) × (trees : List FullTree) × IsFor options ps trees s

-- what is told of an answer for the distinct ones of so many points of a seed
abbrev pub line_of : ℕ → ℕ → Solution (List Point) → TrialLine
line_of n seed s = record {
  count = n;
  seed = seed;
  points = length s.instance;
  length = s.answer.head.length;
  bound = s.answer.head.bound;
  optimal = s.answer.head.optimal;
  splits = split_count s.answer.tree;
}
