-- A tree with another tree in place of one of its leaves.
use Rattle.std.specs.Prelude.{ℕ, ◌-◌, ltb, length, if◌then◌else◌}
use Rattle.cert_tree.specs.Tree.{Tree}
use Rattle.cert_tree.specs.Tree.Tree.{Leaf, Split}
use Rattle.cert_tree.specs.Preorder.{packings_of}

-- the tree with another one in place of the leaf, which is given by its place among the leaves in preorder
abbrev pub replaced : {S : Type 0} → ℕ → Tree S → Tree S → Tree S
replaced leaf new (Leaf cuts) = new
replaced leaf new (Split on outside inside) =
    if ltb leaf (length (packings_of outside)) then Split on (replaced leaf new outside) inside
    else Split on outside (replaced (leaf - length (packings_of outside)) new inside)
