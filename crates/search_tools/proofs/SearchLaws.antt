-- From the answer that a tool found to what is due to the text.
use Rattle.std.proofs.Common.{ℕ, ◌≡◌, List, Result, Ok, Err, subst, arith}
use Rattle.points_in.specs.declared.point.Point.{Point}
use Rattle.points_in.specs.Terminals.{terminals_of}
use Rattle.fst_file.specs.Value.{FstValue}
use Rattle.fst_file.specs.Text.{SpellsFstFile}
use Rattle.fst_gen.specs.Trees.{AreTreesOf, HasMoreSets}
use Rattle.tool_frame.specs.Points.{ReadsGrid}
use Rattle.tool_frame.specs.declared.stop.Stop.{Stop}
use Rattle.tool_frame.specs.declared.stop.Stop.TheVariants.{Fault, Memory}
use Rattle.tool_frame.specs.Stops.{FindsDue, IfFound, IsWithin}
use Rattle.tree_inputs.specs.declared.generation_fault.GenerationFault.{GenerationFault}
use Rattle.tree_inputs.specs.declared.generation_fault.GenerationFault.TheVariants.{List as InList, TooManyTrees}
use Rattle.tree_inputs.specs.Generation.{GeneratesFst}
use Rattle.search_rules.specs.declared.options.SearchOptions.{SearchOptions}
use Rattle.search_tools.specs.declared.build_fault.BuildFault.{BuildFault}
use Rattle.search_tools.specs.declared.build_fault.BuildFault.TheVariants.{Apart}
use Rattle.graph_search.specs.declared.solution.Solution.{Solution}
use Rattle.search_tools.specs.Solve.{Solves}
use Rattle.search_tools.specs.Build.{Builds}
use Rattle.search_tools.specs.Steps.{IsFor, SolvesFile, SolvesPoints, solution_text}
use Rattle.graph_search.specs.Status.{solution_status}
use Rattle.search_tools.specs.SolutionLaws.{permitted_answer, printed_answer}

-- An answer for the points that a text lists is due to the text.
solved_answer : (options : SearchOptions) (k : ℕ) (bytes : List ℕ) (grid : List Point) (s : Solution (List Point)) →
    ReadsGrid bytes (Ok grid) → SolvesPoints options k grid (Ok s) →
    Solves options k bytes (Ok (record { text = solution_text s; status = solution_status s }))
solved_answer options k bytes grid s (ps, lists, same) (generated, trees, are, kept, of_grid) =
    let is = subst (λ (qs : List Point). IsFor options qs trees s) same of_grid in (
      ps,
      s.answer.network,
      s.answer.tree,
      s.answer.head.concat,
      record {
        generated = generated;
        trees = trees;
        points = lists;
        are_generated = subst (λ (qs : List Point). AreTreesOf qs k generated) same are;
        are_kept = kept;
        permitted = permitted_answer options (terminals_of ps) trees s is;
      },
      printed_answer options (terminals_of ps) trees s is,
    )

-- That its points have too many trees is a fault of the text.
solved_fault : (options : SearchOptions) (k : ℕ) (bytes : List ℕ) (grid : List Point) (fault : GenerationFault) →
    ReadsGrid bytes (Ok grid) → SolvesPoints options k grid (Err fault) → GeneratesFst k bytes (Err fault)
solved_fault options k bytes grid (InList fault) reads none = absurd none
solved_fault options k bytes grid TooManyTrees (ps, lists, same) more =
    (ps, lists, subst (λ (qs : List Point). HasMoreSets qs k 20000) same more)

-- An answer for the file that a text spells is due to the text.
built_answer : (options : SearchOptions) (bytes : List ℕ) (file : FstValue) (s : Solution (List Point)) →
    SpellsFstFile bytes file → IsFor options file.points file.trees s →
    Builds options bytes (Ok (record { text = solution_text s; status = solution_status s }))
built_answer options bytes file s spelled is =
    grind (arith, permitted_answer options file.points file.trees s is, printed_answer options file.points file.trees s is)

-- What was found of the file that a text spells is due to the text.
pub built_due : (options : SearchOptions) (bytes : List ℕ) (file : FstValue) (read : Result (Solution (List Point)) (Stop ℕ))
    (found : Result (Solution (List Point)) (Stop BuildFault)) (Is : ℕ → BuildFault → Type 0) →
    ((place : ℕ) (fault : BuildFault) → Is place fault → fault ≡ Apart place) → SpellsFstFile bytes file →
    IfFound read (SolvesFile options file) → IsWithin Is read found →
    FindsDue solution_text solution_status (Builds options bytes) found
built_due options bytes file read (Ok s) Is each spelled finds same =
    built_answer options bytes file s spelled (subst (λ r. IfFound r (SolvesFile options file)) same finds)
built_due options bytes file read (Err (Fault fault)) Is each spelled finds (place, same, is) =
    grind (arith, each place fault is)
built_due options bytes file read (Err (Memory error)) Is each spelled finds same = tt

-- What was found of the points that a text lists is due to the text.
pub solved_due : (options : SearchOptions) (k : ℕ) (bytes : List ℕ) (grid : List Point)
    (found : Result (Solution (List Point)) (Stop GenerationFault)) → ReadsGrid bytes (Ok grid) →
    IfFound found (SolvesPoints options k grid) →
    FindsDue solution_text solution_status (Solves options k bytes) found
solved_due options k bytes grid (Ok s) reads finds = solved_answer options k bytes grid s reads finds
solved_due options k bytes grid (Err (Fault fault)) reads finds = solved_fault options k bytes grid fault reads finds
solved_due options k bytes grid (Err (Memory error)) reads finds = tt
