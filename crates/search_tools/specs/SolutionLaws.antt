-- An answer for points and trees is one that may be printed.
use Rattle.std.proofs.Common.{ℕ, ◌≡◌, ◌<◌, ◌^◌, Bool, List, length, All, ◌≤◌, subst, arith}
use Rattle.points_in.specs.declared.point.Point.{Point}
use Rattle.hanan_grid.specs.Grid.{hanan_grid_of}
use Rattle.full_tree.specs.declared.code.Tree.{Tree as FullTree}
use Rattle.cert_tree.specs.declared.split.SplitOn.{SplitOn}
use Rattle.cert_tree.specs.Tree.{Tree}
use Rattle.cert_tree.specs.Preorder.{nodes_of, split_count}
use Rattle.branch.specs.declared.split_kind.SplitKind.{SplitKind}
use Rattle.answer_text.specs.Answers.{IsAnswerOn, IsNodeOn, value_of}
use Rattle.answer_text.specs.declared.head.ConcatNote.{ConcatNote}
use Rattle.answer_text.specs.Value.{WrittenAnswer}
use Rattle.answer_text.specs.Text.{answer_text}
use Rattle.answer_text.specs.declared.form.Form.TheVariants as form
use Rattle.answer_text.specs.Spelling.{SpellsAnswer}
use Rattle.cert_check.specs.Accepted.{IsAccepted}
use Rattle.tool_frame.specs.Ends.{Print}
use Rattle.search_rules.specs.declared.options.SearchOptions.{SearchOptions}
use Rattle.graph_search.specs.declared.solution.Solution.{Solution}
use Rattle.graph_search.specs.Kinds.{kind_of}
use Rattle.graph_search.specs.Searched.{IsSearched}
use Rattle.search_tools.specs.Solution.{solution}
use Rattle.search_tools.specs.Permitted.{IsPermitted, search_text, search_print}
use Rattle.search_tools.specs.Steps.{IsFor, solution_text}
use Rattle.graph_search.specs.Status.{solution_status}

-- a text that spells the answer of a network and a tree is accepted
accepted_solution : (asked : SplitKind) (openings first_length : ℕ) (ps : List Point) (set : List Bool)
    (tree : Tree SplitOn) (note : ConcatNote) →
    let g = hanan_grid_of ps in
    SpellsAnswer (form.OnGrid g.vertices) (search_text openings ps set tree note) (solution openings ps set tree note) →
    IsSearched g asked openings first_length set tree → All (IsNodeOn g) (nodes_of tree) → split_count tree ≤ 255 →
    IsAccepted ps (search_text openings ps set tree note)
accepted_solution asked openings first_length ps set tree note spells searched nodes few = grind arith

-- what the answer for points and trees tells
pub told_value : (options : SearchOptions) (ps : List Point) (trees : List FullTree) (s : Solution (List Point)) →
    IsFor options ps trees s →
    value_of s.instance s.answer ≡ solution options.openings ps s.answer.network s.answer.tree s.answer.head.concat
told_value options ps trees s is = grind arith

-- The answer for points and trees is one that may be printed.
pub permitted_answer : (options : SearchOptions) (ps : List Point) (trees : List FullTree) (s : Solution (List Point)) →
    IsFor options ps trees s → IsPermitted options ps trees s.answer.network s.answer.tree s.answer.head.concat
permitted_answer options ps trees s is =
    let told = told_value options ps trees s is in
    let note = s.answer.head.concat in
    let fits : IsAnswerOn (hanan_grid_of ps) s.answer =
    subst (λ (h : List Point). IsAnswerOn (hanan_grid_of h) s.answer) is.grid is.fits in record {
      accepted =
          accepted_solution (kind_of options.split) options.openings note.total ps s.answer.network s.answer.tree note
          (subst (λ (w : WrittenAnswer). SpellsAnswer (form.OnGrid (hanan_grid_of ps).vertices) (answer_text w) w) told
          is.spelled)
          is.searched fits.nodes fits.few;
      searched = is.searched;
      concat = is.concat;
      short = is.short;
      few_bytes = subst (λ (w : WrittenAnswer). length (answer_text w) < 2 ^ 32) told is.few_bytes;
    }

-- It is printed as the answer of the points.
pub printed_answer : (options : SearchOptions) (ps : List Point) (trees : List FullTree) (s : Solution (List Point)) →
    IsFor options ps trees s →
    let print : Print = record { text = solution_text s; status = solution_status s } in
    print ≡ search_print options.openings ps s.answer.network s.answer.tree s.answer.head.concat
printed_answer options ps trees s is = grind (arith, told_value options ps trees s is)
