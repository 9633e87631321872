-- Lists of what is kept beside leaves, and what splits are on.
use Rattle.std.proofs.Common.{ℕ, arith}
use Rattle.cert_tree.specs.declared.split.SplitOn.TheVariants as split
use Rattle.cert_tree.specs.Tree.{split_with}
use Rattle.branch.specs.KindLaws.{SplitsVertices-replaced}
use Rattle.branch.specs.Kinds.{SplitsVertices}
use Rattle.branch.specs.Searching.{SearchState, IsSplitAt}

-- a split on a vertex leaves only splits on vertices, where there were no others
pub split_on_vertex : (place v : ℕ) (old new : SearchState) → IsSplitAt place v old new → SplitsVertices old.tree →
    SplitsVertices new.tree
split_on_vertex place v old new is were =
    grind (arith, SplitsVertices-replaced place (split_with (split.Vertex v) is.outside is.inside) old.tree (tt, tt) were)
