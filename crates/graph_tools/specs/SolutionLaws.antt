-- What a search found in a graph is an answer in it, and one that may be printed.
use Rattle.std.proofs.Common.{ℕ, ◌≡◌, ◌<◌, ◌≤◌, ◌^◌, Bool, List, length, All, subst, sym, arith}
use Rattle.net_graph.specs.Graph.{Graph, total_of}
use Rattle.cert_tree.specs.declared.split.SplitOn.{SplitOn}
use Rattle.cert_tree.specs.Tree.{Tree}
use Rattle.cert_tree.specs.Preorder.{nodes_of, split_count}
use Rattle.branch.specs.declared.solved.Solved.{Solved}
use Rattle.branch.specs.declared.split_kind.SplitKind.{SplitKind}
use Rattle.answer_text.specs.declared.form.Form.TheVariants as form
use Rattle.answer_text.specs.Notes.{no_note}
use Rattle.answer_text.specs.Text.{answer_text}
use Rattle.answer_text.specs.Spelling.{SpellsAnswer}
use Rattle.answer_text.specs.Answers.{IsAnswerOn, IsNodeOn, graph_value_of}
use Rattle.tool_frame.specs.Ends.{Print}
use Rattle.graph_search.specs.Kinds.{kind_of}
use Rattle.graph_search.specs.Searched.{IsSearched, IsTold}
use Rattle.graph_search.specs.Answering.{answer_with}
use Rattle.graph_search.specs.AnsweringLaws.{told_fits, told_head, searched_longer}
use Rattle.search_rules.specs.declared.options.GraphOptions.{GraphOptions}
use Rattle.graph_solve.specs.Accepted.{IsGraphAccepted}
use Rattle.graph_search.specs.declared.solution.Solution.{Solution}
use Rattle.graph_search.specs.Status.{solution_status}
use Rattle.graph_tools.specs.Solution.{IsFor, IsPermittedGraphAnswer, IsPrintable, graph_solution, graph_text}
use Rattle.graph_tools.specs.Solution.{graph_print, solution_text}
use Rattle.graph_tools.specs.Solve.{PrintsAnswer}

-- The answer of a search that began with a network no longer than all edges together.
pub is_for : (options : GraphOptions) (first_length : ℕ) (g : Graph) (s : Solved) → options.openings ≤ 255 →
    first_length ≤ total_of g → IsTold g (kind_of options.split) options.openings first_length s →
    (let value = graph_value_of g (answer_with options.openings no_note s) in
    SpellsAnswer (form.OfGraph (length g.edges) g.vertices) (answer_text value) value) →
    length (answer_text (graph_value_of g (answer_with options.openings no_note s))) < 2 ^ 32 →
    IsFor options g (record { instance = g; answer = answer_with options.openings no_note s })
is_for options first_length g s small short is spelled few =
    grind (
      arith,
      searched_longer g (kind_of options.split) options.openings first_length (total_of g) s.network s.tree
          short is.searched,
      told_head g (kind_of options.split) options.openings first_length no_note s is,
      told_fits g (kind_of options.split) options.openings first_length no_note s small is,
    )

-- it can be written
pub for_fits : (options : GraphOptions) (g : Graph) (s : Solution Graph) → IsFor options g s → IsPrintable s
for_fits options g s is = subst (λ (h : Graph). IsAnswerOn h s.answer) (sym is.graph) is.fits

-- what it tells
told_value : (options : GraphOptions) (g : Graph) (s : Solution Graph) → IsFor options g s →
    graph_value_of g s.answer ≡ graph_solution options.openings g s.answer.network s.answer.tree
told_value options g s is = grind arith

-- a text that spells the answer of a network and a tree is accepted
accepted_solution : (asked : SplitKind) (openings first_length : ℕ) (g : Graph) (set : List Bool)
    (tree : Tree SplitOn) →
    SpellsAnswer (form.OfGraph (length g.edges) g.vertices) (graph_text openings g set tree)
    (graph_solution openings g set tree) →
    IsSearched g asked openings first_length set tree → All (IsNodeOn g) (nodes_of tree) → split_count tree ≤ 255 →
    IsGraphAccepted g (graph_text openings g set tree)
accepted_solution asked openings first_length g set tree spells searched nodes few = grind arith

-- The answer is one that may be printed in the graph.
pub permitted_answer : (options : GraphOptions) (g : Graph) (s : Solution Graph) → IsFor options g s →
    IsPermittedGraphAnswer options g s.answer.network s.answer.tree
permitted_answer options g s is = grind (arith, accepted_solution, told_value options g s is)

-- It is printed as the answer of the network and the tree.
printed_answer : (options : GraphOptions) (g : Graph) (s : Solution Graph) → IsFor options g s →
    let print : Print = record { text = solution_text s; status = solution_status s } in
    print ≡ graph_print options.openings g s.answer.network s.answer.tree
printed_answer options g s is = grind (arith, told_value options g s is)

-- An answer in a graph is printed as one that may be printed there.
pub answer_printed : (options : GraphOptions) (g : Graph) (s : Solution Graph) → IsFor options g s →
    PrintsAnswer options g (record { text = solution_text s; status = solution_status s })
answer_printed options g s is =
    (s.answer.network, s.answer.tree, permitted_answer options g s is, printed_answer options g s is)
