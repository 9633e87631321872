-- What the tools that search tell of a network of points, of a tree that bounds every network from below, and of the
-- concatenation that the network is made of.
use Rattle.std.specs.Prelude.{ℕ, Bool, List}
use Rattle.points_in.specs.declared.point.Point.{Point}
use Rattle.net_graph.specs.Network.{length_of}
use Rattle.net_graph.specs.Members.{members_of}
use Rattle.hanan_grid.specs.Grid.{hanan_grid_of}
use Rattle.answer_text.specs.declared.head.ConcatNote.{ConcatNote}
use Rattle.answer_text.specs.declared.version.Version.TheVariants as version
use Rattle.answer_text.specs.Value.{WrittenAnswer}
use Rattle.answer_text.specs.Answers.{named, names_of}
use Rattle.cert_tree.specs.declared.split.SplitOn.{SplitOn}
use Rattle.cert_tree.specs.Tree.{Tree}
use Rattle.graph_search.specs.Searched.{value_on}
use Rattle.graph_search.specs.Answering.{head_with}

-- the answer that tells the network, the tree and the concatenation, in version 2
abbrev pub solution : ℕ → List Point → List Bool → Tree SplitOn → ConcatNote → WrittenAnswer
solution openings ps network tree note = record {
  version = version.Two;
  head = head_with openings (length_of (hanan_grid_of ps) network) (value_on (hanan_grid_of ps) tree) note;
  edges = names_of ps (members_of network);
  tree = named ps tree;
}
