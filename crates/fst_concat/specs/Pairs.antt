-- Trees of two members as pairs.
use Rattle.std.specs.Prelude.{◌==◌, length, slice_index, if◌then◌else◌}
use Rattle.full_tree.specs.declared.code.Tree.{Tree}
use Rattle.full_tree.specs.Code.{members_of}
use Rattle.spanning.specs.declared.pair.Pair.{Pair}

-- a tree as a pair: of its two members, or of its first member and itself, where it has more
abbrev pub pair_of : Tree → Pair
pair_of tree = record {
  a = slice_index (members_of tree.code) 0;
  b = (if length (members_of tree.code) == 2 then slice_index (members_of tree.code) 1
      else slice_index (members_of tree.code) 0);
  length = tree.length;
}
