-- The answer of the tool in a graph.
use Rattle.std.specs.Prelude.{ℕ, ◌≡◌, ◌<◌, ◌^◌, Bool, List, length}
use Rattle.net_graph.specs.Graph.{Graph, total_of}
use Rattle.net_graph.specs.Members.{members_of}
use Rattle.net_graph.specs.Network.{length_of}
use Rattle.cert_tree.specs.declared.split.SplitOn.{SplitOn}
use Rattle.cert_tree.specs.Tree.{Tree}
use Rattle.answer_text.specs.declared.form.Form.TheVariants as form
use Rattle.answer_text.specs.declared.version.Version.TheVariants as version
use Rattle.answer_text.specs.declared.answer.Answer.{Answer}
use Rattle.answer_text.specs.Notes.{no_note}
use Rattle.answer_text.specs.Text.{answer_text}
use Rattle.answer_text.specs.Spelling.{SpellsAnswer}
use Rattle.answer_text.specs.Value.{WrittenAnswer}
use Rattle.answer_text.specs.Answers.{IsAnswerOn, edge_labels, graph_value_of, labelled, number_labels}
use Rattle.tool_frame.specs.Ends.{Print}
use Rattle.graph_search.specs.declared.solution.Solution.{Solution}
use Rattle.graph_search.specs.Kinds.{kind_of}
use Rattle.graph_search.specs.Searched.{IsSearched, bound_of, value_on}
use Rattle.graph_search.specs.Answering.{head_with}
use Rattle.graph_search.specs.Status.{status_of_bound}
use Rattle.search_rules.specs.declared.options.GraphOptions.{GraphOptions}
use Rattle.graph_solve.specs.Accepted.{IsGraphAccepted}

-- what the answer of a network and a tree tells, with so many openings allowed
abbrev pub graph_solution : ℕ → Graph → List Bool → Tree SplitOn → WrittenAnswer
graph_solution openings g network tree = record {
  version = version.Graph;
  head = head_with openings (length_of g network) (value_on g tree) no_note;
  edges = edge_labels number_labels (members_of network);
  tree = labelled number_labels tree;
}

-- its text
abbrev pub graph_text : ℕ → Graph → List Bool → Tree SplitOn → List ℕ
graph_text openings g network tree = answer_text (graph_solution openings g network tree)

-- A network and a tree of cuts that an answer may tell in a graph under these options. The text that tells both is
-- accepted as an answer in the graph. The tree has at most as many splits as openings are allowed, and exactly as many
-- where its value is below the network's length; each of its leaves has few cuts, and is maximal where its value is
-- below the length. Network and tree end a run of openings whose first network is no longer than all edges together;
-- behind splits on vertices they are plain ones of the kind that the rule for splits asks for. The text has fewer than
-- 2^32 bytes.
pub record IsPermittedGraphAnswer (options : GraphOptions) (g : Graph) (network : List Bool) (tree : Tree SplitOn)
    : Type 0 where
  pub accepted : IsGraphAccepted g (graph_text options.openings g network tree)
  pub searched : IsSearched g (kind_of options.split) options.openings (total_of g) network tree
  pub few_bytes : length (graph_text options.openings g network tree) < 2 ^ 32

-- what is printed of them
abbrev pub graph_print : ℕ → Graph → List Bool → Tree SplitOn → Print
graph_print openings g network tree = record {
  text = graph_text openings g network tree;
  status = status_of_bound (bound_of g network tree) (length_of g network);
}

-- the text of an answer in its graph
abbrev pub solution_text : Solution Graph → List ℕ
solution_text s = answer_text (graph_value_of s.instance s.answer)

-- the answer can be written
abbrev pub IsPrintable : Solution Graph → Type 0
IsPrintable s = IsAnswerOn s.instance s.answer

-- The answer tells a network of the graph and a tree of cuts, as a search from a network ends with them that is no
-- longer than all edges together. Its text spells it, and has fewer than 2^32 bytes.
pub record IsFor (options : GraphOptions) (g : Graph) (s : Solution Graph) : Type 0 where
  pub graph : s.instance ≡ g
  pub searched : IsSearched g (kind_of options.split) options.openings (total_of g) s.answer.network s.answer.tree
  pub head : s.answer.head
      ≡ head_with options.openings (length_of g s.answer.network) (value_on g s.answer.tree) no_note
  pub fits : IsAnswerOn g s.answer
  pub spelled : SpellsAnswer (form.OfGraph (length g.edges) g.vertices) (solution_text s) (graph_value_of g s.answer)
  pub few_bytes : length (solution_text s) < 2 ^ 32

-- The answer is one in this graph.
abbrev pub IsAnswerFor : GraphOptions → Graph → Answer → Type 0
IsAnswerFor options g a = IsFor options g (record { instance = g; answer = a })
