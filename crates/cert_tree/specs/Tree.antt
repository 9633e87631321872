-- Certificate trees: packings of cuts at the leaves, and splits on an edge or a vertex above them.
use Rattle.std.specs.Prelude.{List}
use Rattle.net_graph.specs.declared.packing.Cut.{Cut}

-- A leaf has the cuts of its packing. A split has an edge or a vertex, the child where that is outside (missed, for a
-- vertex) and the child where it is inside (met). What a split is on is told in some way S, as by numbers or by names.
pub data Tree (S : Type 0) : Type 0 where
  Leaf : (cuts : List Cut) → Tree S
  Split : (on : S) → (outside : Tree S) → (inside : Tree S) → Tree S

-- the split with two leaves of these packings
abbrev pub split_with : {S : Type 0} → S → List Cut → List Cut → Tree S
split_with on outside inside = Split on (Leaf outside) (Leaf inside)
