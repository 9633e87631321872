-- What is found of trees where a shorter network stands in place of theirs.
use Rattle.std.proofs.Common.{ℕ, List, Result, Ok, Err, IfOk, subst, arith}
use Rattle.points_in.specs.declared.point.Point.{Point}
use Rattle.hanan_grid.specs.Grid.{hanan_grid_of}
use Rattle.full_tree.specs.declared.code.Tree.{Tree as FullTree}
use Rattle.fst_file.specs.Value.{FstValue}
use Rattle.tree_inputs.specs.Pruning.{IsPruned}
use Rattle.search_rules.specs.declared.options.SearchOptions.{SearchOptions}
use Rattle.search_tools.specs.declared.network.Found.{Found}
use Rattle.graph_search.specs.declared.solution.Solution.{Solution}
use Rattle.search_tools.specs.Steps.{IsFor, IsMadeOf, IsNoLonger, SolvesPruned}

-- A network that may stand in place of one of trees is one of these trees.
pub made_no_longer : (allowed : ℕ) (ps : List Point) (trees : List FullTree) (found later : Found) → IsMadeOf allowed ps trees found →
    IsNoLonger (hanan_grid_of ps) found later → IsMadeOf allowed ps trees later
made_no_longer allowed ps trees found later made is = grind arith

-- An answer for the kept trees of a file is one for the file, where memory is not wanting.
pub solves_or_not : {E : Type 0} (options : SearchOptions) (file kept : FstValue) (found : Found) (answer : Result (Solution (List Point)) E) →
    IsPruned file kept → IsMadeOf options.concat kept.points kept.trees found →
    IfOk answer (λ s. (trees : List FullTree) → IsMadeOf options.concat kept.points trees found → IsFor options kept.points trees s) →
    IfOk answer (SolvesPruned options file)
solves_or_not options file kept found (Ok s) pruned made is =
    (kept.trees, pruned.trees, subst (λ ps. IsFor options ps kept.trees s) pruned.points (is kept.trees made))
solves_or_not options file kept found (Err memory) pruned made is = tt
