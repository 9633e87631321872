-- What a line of an answer's text tells.
use Rattle.std.specs.Prelude.{ℕ, Bool}
use Rattle.net_graph.specs.declared.packing.Cut.{Cut as WeightedCut}
use Rattle.answer_text.specs.declared.head.ConcatNote.{ConcatNote}
use Rattle.answer_text.specs.declared.label.EdgeLabel.{EdgeLabel}
use Rattle.answer_text.specs.declared.label.VertexLabel.{VertexLabel}
use Rattle.answer_text.specs.declared.version.Version.{Version}

-- The openings are the last line of a head that has no note on the concatenation. The split of version 1 is on an
-- edge; one of another version says whether it is on an edge or on a vertex.
pub data Line : Type 0 where
  Title : Version → Line
  Length : ℕ → Line
  Bound : ℕ → Line
  Status : Bool → Line
  Openings : ℕ → Line
  LastOpenings : ℕ → Line
  Concat : ConcatNote → Line
  Count : ℕ → Line
  Edge : EdgeLabel → Line
  Tree : Line
  Split : EdgeLabel → Line
  SplitEdge : EdgeLabel → Line
  SplitVertex : VertexLabel → Line
  Leaf : ℕ → Line
  Cut : WeightedCut → Line
  End : Line
