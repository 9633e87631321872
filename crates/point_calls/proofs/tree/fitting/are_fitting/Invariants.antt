use Rattle.std.proofs.Common.{ℕ, ◌<◌, ◌≡◌, length}
use Rattle.std.specs.Prelude.{slice_index_or}
use Rattle.full_tree.specs.declared.code.Tree.{Tree}
use Rattle.full_tree.specs.Form.{IsInForm}
use Rattle.full_tree.specs.Pieces.{code_length}
use Rattle.fst_concat.specs.Chosen.{HasMembersBelow}
use Rattle.point_calls.proofs.tree.fitting.are_fitting.Given as goal

abbrev pub invariant-loop-tree : goal.invariant-loop-tree
invariant-loop-tree l = record {
  form : (k : ℕ) (d : Tree) → k < l.tree-index → IsInForm l.grid (slice_index_or l.trees k d).code;
  lengths : (k : ℕ) (d : Tree) → k < l.tree-index → (slice_index_or l.trees k d).length ≡ code_length l.grid (slice_index_or l.trees k d).code;
  members : (k : ℕ) (d : Tree) → k < l.tree-index → HasMembersBelow (length l.grid) (slice_index_or l.trees k d);
}
