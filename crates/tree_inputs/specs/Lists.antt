-- The lists of full trees that points give: of those of up to so many members, and of those of up to eight.
use Rattle.std.specs.Prelude.{ℕ, ◌≤◌, ◌⊎◌, Bool, List, Option, Some, None, Result, Ok, Err, filter, length, nat_le}
use Rattle.points_in.specs.declared.point.Point.{Point}
use Rattle.full_tree.specs.declared.code.Tree.{Tree}
use Rattle.full_tree.specs.Code.{members_of}
use Rattle.fst_file.specs.Value.{AreTreesOf}
use Rattle.fst_gen.specs.Trees.{HasMoreSets}
use Rattle.tree_inputs.specs.declared.generation_fault.GenerationFault.{GenerationFault}
use Rattle.tree_inputs.specs.declared.tree_lists.TreeLists.{TreeLists}
use Rattle.tree_inputs.specs.Generation.{GeneratesTrees, IsTreeList}

-- whether a tree has up to k members
abbrev pub has_up_to : ℕ → Tree → Bool
has_up_to k tree = nat_le (length (members_of tree.code)) k

-- the trees of a list that have up to k members, in their order
abbrev pub trees_up_to : ℕ → List Tree → List Tree
trees_up_to k trees = filter (has_up_to k) trees

-- The list of the trees of points of up to 8 members, which are trees of a file. There is none only where 8 is not
-- more than k, or where there are more than 20,000 such trees.
abbrev pub IsLongerList : ℕ → List Point → Option (List Tree) → Type 0
IsLongerList k ps None = (8 ≤ k) ⊎ HasMoreSets ps 8 20000
IsLongerList k ps (Some trees) = IsTreeList ps 8 trees × AreTreesOf ps trees

-- The file of terminals and their trees of up to k members, with that list; or there are more than 20,000 of these.
abbrev pub GeneratesLists : ℕ → List Point → Result TreeLists GenerationFault → Type 0
GeneratesLists k ps (Ok lists) = GeneratesTrees k ps (Ok lists.file) × IsLongerList k ps lists.longer
GeneratesLists k ps (Err fault) = GeneratesTrees k ps (Err fault)
