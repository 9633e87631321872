-- The lines of an answer's text, each without its line feed, and which lines may follow which.
use Rattle.std.specs.Prelude.{ℕ, suc, zero, List, [], ◌∷◌, ◌++◌, length, map, flat_map, codes, Option, Some, None}
use Rattle.std.specs.Prelude.{option_and_then}
use Rattle.std.specs.Fmt.{decimal}
use Rattle.net_graph.specs.declared.packing.Cut.{Cut}
use Rattle.answer_text.specs.declared.label.EdgeLabel.{EdgeLabel}
use Rattle.answer_text.specs.declared.head.AnswerHead.{AnswerHead}
use Rattle.answer_text.specs.declared.split.SplitName.{SplitName}
use Rattle.answer_text.specs.declared.split.SplitName.TheVariants as name
use Rattle.answer_text.specs.declared.version.Version.{Version}
use Rattle.answer_text.specs.declared.version.Version.TheVariants as version
use Rattle.answer_text.specs.AnswerLine.{Line}
use Rattle.answer_text.specs.LineKinds as line
use Rattle.answer_text.specs.declared.line.Stage.{Stage}
use Rattle.answer_text.specs.declared.line.Stage.TheVariants as stage
use Rattle.answer_text.specs.Value.{WrittenAnswer}
use Rattle.cert_tree.specs.Tree.{Tree}
use Rattle.cert_tree.specs.Tree.Tree.{Leaf, Split}
use Rattle.answer_text.specs.Words.{title_words, status_word, concat_word, edge_words, vertex_words, set_text}

-- the bytes of a line
abbrev pub line_bytes : Line → List ℕ
line_bytes (line.Title v) = title_words v
line_bytes (line.Length n) = codes "length " ++ decimal n
line_bytes (line.Bound n) = codes "bound " ++ decimal n
line_bytes (line.Status optimal) = codes "status " ++ status_word optimal
line_bytes (line.Openings n) = codes "openings " ++ decimal n
line_bytes (line.LastOpenings n) = codes "openings " ++ decimal n
line_bytes (line.Concat c) = codes "concat " ++ concat_word c.least ++ codes " " ++ decimal c.total
line_bytes (line.Count n) = codes "edges " ++ decimal n
line_bytes (line.Edge e) = edge_words e
line_bytes line.Tree = codes "tree"
line_bytes (line.Split e) = codes "split " ++ edge_words e
line_bytes (line.SplitEdge e) = codes "split edge " ++ edge_words e
line_bytes (line.SplitVertex p) = codes "split vertex " ++ vertex_words p
line_bytes (line.Leaf n) = codes "leaf " ++ decimal n
line_bytes (line.Cut c) = codes "cut " ++ decimal c.weight ++ codes " " ++ set_text c.members
line_bytes line.End = codes "end"

-- a line with its line feed, and lines one after another
abbrev pub line_text : Line → List ℕ
line_text l = line_bytes l ++ 10 ∷ []

abbrev pub lines_text : List Line → List ℕ
lines_text ls = flat_map line_text ls

-- the line of a split in a text of a version; version 1 has none for a vertex
abbrev pub split_line : Version → SplitName → Line
split_line v (name.Vertex p) = line.SplitVertex p
split_line version.One (name.Edge e) = line.Split e
split_line version.Two (name.Edge e) = line.SplitEdge e
split_line version.Graph (name.Edge e) = line.SplitEdge e

-- the lines of a leaf: how many cuts it has, and the cuts
abbrev pub leaf_lines : List Cut → List Line
leaf_lines cuts = line.Leaf (length cuts) ∷ map line.Cut cuts

-- the lines of a tree: a leaf, or a split, then its part outside, then its part inside
abbrev pub tree_lines : Version → Tree SplitName → List Line
tree_lines v (Leaf cuts) = leaf_lines cuts
tree_lines v (Split on outside inside) = split_line v on ∷ (tree_lines v outside ++ tree_lines v inside)

-- the lines of a head: the result, and the search, of which a text of a graph has no note on the concatenation
abbrev pub result_lines : Version → AnswerHead → List Line
result_lines v h = line.Title v ∷ line.Length h.length ∷ line.Bound h.bound ∷ line.Status h.optimal ∷ []

abbrev pub search_lines : Version → AnswerHead → List Line
search_lines version.One h = line.Openings h.openings ∷ line.Concat h.concat ∷ []
search_lines version.Two h = line.Openings h.openings ∷ line.Concat h.concat ∷ []
search_lines version.Graph h = line.LastOpenings h.openings ∷ []

abbrev pub head_lines : Version → AnswerHead → List Line
head_lines v h = result_lines v h ++ search_lines v h

-- the lines of a network: how many edges it has, and the edges
abbrev pub network_lines : List EdgeLabel → List Line
network_lines edges = line.Count (length edges) ∷ map line.Edge edges

-- the lines of a tree between the line before it and the line that ends the text
abbrev pub proof_lines : Version → Tree SplitName → List Line
proof_lines v tree = line.Tree ∷ (tree_lines v tree ++ line.End ∷ [])

-- the lines of an answer
abbrev pub body_lines : WrittenAnswer → List Line
body_lines a = network_lines a.edges ++ proof_lines a.version a.tree

abbrev pub answer_lines : WrittenAnswer → List Line
answer_lines a = head_lines a.version a.head ++ body_lines a

-- what is due behind a split where a node is due: its two parts
abbrev pub split_step : Stage → Option Stage
split_step (stage.Body zero (suc nodes)) = Some (stage.Body 0 (suc (suc nodes)))
split_step s = None

-- what is due behind a line that was due; no other line may stand there
abbrev pub step : Stage → Line → Option Stage
step s (line.Split e) = split_step s
step s (line.SplitEdge e) = split_step s
step s (line.SplitVertex p) = split_step s
step stage.Title (line.Title v) = Some stage.Length
step stage.Length (line.Length n) = Some stage.Bound
step stage.Bound (line.Bound n) = Some stage.Status
step stage.Status (line.Status optimal) = Some stage.Openings
step stage.Openings (line.Openings n) = Some stage.Concat
step stage.Openings (line.LastOpenings n) = Some stage.Count
step stage.Concat (line.Concat c) = Some stage.Count
step stage.Count (line.Count n) = Some (stage.Edges n)
step (stage.Edges zero) line.Tree = Some (stage.Body 0 1)
step (stage.Edges (suc k)) (line.Edge e) = Some (stage.Edges k)
step (stage.Body zero zero) line.End = Some stage.Done
step (stage.Body zero (suc nodes)) (line.Leaf cuts) = Some (stage.Body cuts nodes)
step (stage.Body (suc cuts) nodes) (line.Cut c) = Some (stage.Body cuts nodes)
step s l = None

-- what is due behind lines of which each was due
abbrev pub run : Stage → List Line → Option Stage
run s [] = Some s
run s (l ∷ ls) = option_and_then (λ s'. run s' ls) (step s l)

-- how many nodes are due behind the cuts of a leaf
abbrev pub nodes_due : Stage → ℕ
nodes_due (stage.Body cuts nodes) = nodes
nodes_due s = 0
