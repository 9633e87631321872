-- What stays as it was while a search is raised.
use Rattle.std.specs.Prelude.{◌≡◌}
use Rattle.cert_tree.specs.Preorder.{split_count}
use Rattle.branch.specs.Searching.{SearchState}

-- the search is the same: one in its graph, of its kind, that began with a network of its first length
pub record IsSameSearch (old new : SearchState) : Type 0 where
  pub graph : new.graph ≡ old.graph
  pub kind : new.kind ≡ old.kind
  pub first_length : new.first_length ≡ old.first_length

-- it is the same, and its tree is still one leaf
pub record IsUnsplit (old new : SearchState) : Type 0 where
  pub same : IsSameSearch old new
  pub leaf : split_count new.tree ≡ 0
