-- The file of full trees that points give.
use Rattle.std.specs.Prelude.{ℕ, ◌≡◌, ◌≤◌, List, length, Result, Ok, Err}
use Rattle.points_in.specs.declared.point.Point.{Point}
use Rattle.points_in.specs.Terminals.{terminals_of}
use Rattle.fst_file.specs.Value.{FstValue}
use Rattle.full_tree.specs.declared.code.Tree.{Tree}
use Rattle.fst_gen.specs.Trees.{AreTreesOf, HasMoreSets}
use Rattle.fst_gen.specs.Joins.{JoinsAll}
use Rattle.tool_frame.specs.Points.{ListsPoints, IsListFault}
use Rattle.tree_inputs.specs.declared.generation_fault.GenerationFault.{GenerationFault}
use Rattle.tree_inputs.specs.declared.generation_fault.GenerationFault.TheVariants.{List as InList, TooManyTrees}

-- how many members a tree has at most, where no word asks for another number
abbrev pub most_members : ℕ
most_members = 6

-- The list of the trees of points for k: of exactly these trees, no more than 20,000, which join all points.
pub record IsTreeList (ps : List Point) (k : ℕ) (trees : List Tree) : Type 0 where
  pub exact : AreTreesOf ps k trees
  pub few : length trees ≤ 20000
  pub joins : JoinsAll (length ps) trees

-- The file of the points that the bytes list, each once, and of their trees of up to k members. Or they list none, or
-- there are more than 20,000 such trees.
abbrev pub GeneratesFst : ℕ → List ℕ → Result FstValue GenerationFault → Type 0
GeneratesFst k bytes (Ok file) = (ps : List Point) × ListsPoints bytes ps × (file.points ≡ terminals_of ps)
    × IsTreeList file.points k file.trees
GeneratesFst k bytes (Err (InList fault)) = IsListFault bytes fault
GeneratesFst k bytes (Err TooManyTrees) =
    (ps : List Point) × ListsPoints bytes ps × HasMoreSets (terminals_of ps) k 20000

-- The same of terminals, whose list has no fault.
abbrev pub GeneratesTrees : ℕ → List Point → Result FstValue GenerationFault → Type 0
GeneratesTrees k terminals (Ok file) = (file.points ≡ terminals) × IsTreeList terminals k file.trees
GeneratesTrees k terminals (Err (InList fault)) = ⊥
GeneratesTrees k terminals (Err TooManyTrees) = HasMoreSets terminals k 20000
