-- What the rule of `--split` splits the leaves of a search on.
use Rattle.branch.specs.declared.split_kind.SplitKind.{SplitKind}
use Rattle.branch.specs.declared.split_kind.SplitKind.TheVariants as kind
use Rattle.search_rules.specs.declared.rules.SplitRule.{SplitRule}
use Rattle.search_rules.specs.declared.rules.SplitRule.TheVariants.{Longest, First, Vertex}

abbrev pub kind_of : SplitRule → SplitKind
kind_of Longest = kind.Edges
kind_of First = kind.Edges
kind_of Vertex = kind.Vertices
