-- The texts of lines one after another, and the lengths of lines.
use Rattle.std.proofs.Common.{ℕ, ◌≡◌, ◌+◌, ◌<◌, List, [], ◌∷◌, ◌++◌, length, map, take, get_or, ap, ◌∙◌, arith, length-append}
use Rattle.std.specs.Prelude.{codes}
use Rattle.std.specs.Fmt.{decimal, signed_decimal}
use Rattle.std.proofs.lemmas.List.{append-nil, map-append, take_more}
use Rattle.std.proofs.lemmas.List.Concat.{flat_map-append}
use Rattle.points_in.specs.declared.point.Point.{Point}
use Rattle.answer_text.specs.declared.label.EdgeLabel.{EdgeLabel}
use Rattle.answer_text.specs.declared.label.EdgeLabel.TheVariants as edge
use Rattle.answer_text.specs.declared.label.VertexLabel.TheVariants as vertex
use Rattle.net_graph.specs.declared.packing.Cut.{Cut}
use Rattle.hanan_grid.specs.declared.name.EdgeName.{EdgeName}
use Rattle.answer_text.specs.declared.version.Version.TheVariants as version
use Rattle.answer_text.specs.Value.{WrittenAnswer}
use Rattle.answer_text.specs.AnswerLine.{Line}
use Rattle.answer_text.specs.LineKinds as line
use Rattle.answer_text.specs.Words.{set_text, edge_words}
use Rattle.answer_text.specs.Lines.{line_bytes, line_text, lines_text, head_lines, network_lines, tree_lines, answer_lines}

-- the text of lines and of one more
pub lines_text-push : (ls : List Line) (l : Line) → lines_text (ls ++ l ∷ []) ≡ lines_text ls ++ line_text l
lines_text-push ls l = flat_map-append line_text ls (l ∷ []) ∙ ap (λ x. lines_text ls ++ x) (append-nil (line_text l))

-- the lines of some cuts and of the next one
pub cut_lines-more : (cuts : List Cut) (i : ℕ) (d : Cut) → i < length cuts → lines_text (map line.Cut (take i cuts)) ++ line_text (line.Cut (get_or cuts i d)) ≡ lines_text (map line.Cut (take (i + 1) cuts))
cut_lines-more cuts i d inside =
    grind (arith, lines_text-push (map line.Cut (take i cuts)) (line.Cut (get_or cuts i d)), map-append line.Cut (take i cuts) (get_or cuts i d ∷ []), take_more cuts i d inside)

-- a word and a number
word_number : (word : List ℕ) (n : ℕ) → length (word ++ decimal n) ≡ length word + length (decimal n)
word_number word n = length-append word (decimal n)

-- the line of an edge's ends
pub length-edge : (e : EdgeName) → length (line_text (line.Edge (edge.Ends e))) ≡ 4 + length (signed_decimal e.x1) + length (signed_decimal e.y1) + length (signed_decimal e.x2) + length (signed_decimal e.y2)
length-edge e = simp length-append (omega arith)

-- the line of a split on an edge
pub length-split_edge : (e : EdgeLabel) → length (line_text (line.SplitEdge e)) ≡ 11 + length (line_text (line.Edge e))
length-split_edge e = omega (arith, length-append (codes "split edge ") (edge_words e), length-append (codes "split edge " ++ edge_words e) (10 ∷ []), length-append (edge_words e) (10 ∷ []))

-- the line of a split on a vertex
pub length-split_vertex : (p : Point) → length (line_text (line.SplitVertex (vertex.At p))) ≡ 15 + length (signed_decimal p.x) + length (signed_decimal p.y)
length-split_vertex p = simp length-append (omega arith)

-- the lines of numbers
pub length-edge_number : (n : ℕ) → length (line_text (line.Edge (edge.Number n))) ≡ 1 + length (decimal n)
length-edge_number n = simp length-append (omega arith)

pub length-vertex_number : (n : ℕ) → length (line_text (line.SplitVertex (vertex.Number n))) ≡ 14 + length (decimal n)
length-vertex_number n = simp length-append (omega arith)

-- the line of a cut
pub length-cut : (c : Cut) → length (line_text (line.Cut c)) ≡ 6 + length (decimal c.weight) + length (set_text c.members)
length-cut c = simp length-append (omega arith)

-- a word's line with a number, and lines behind it
pub length-number : (word : List ℕ) (n : ℕ) (l : Line) (ls : List Line) → line_bytes l ≡ word ++ decimal n → length (lines_text (l ∷ ls)) ≡ length word + 1 + length (decimal n) + length (lines_text ls)
length-number word n l ls is = omega (arith, length-append (line_text l) (lines_text ls), length-append (line_bytes l) (10 ∷ []), ap length is, word_number word n)

-- one more piece adds its length
pub sum_more : (front piece whole : List ℕ) (sum more : ℕ) → sum ≡ length front → more ≡ length piece → front ++ piece ≡ whole → sum + more ≡ length whole
sum_more front piece whole sum more so_far next parts = grind (arith, length-append)

-- a whole answer
pub length-answer_lines : (a : WrittenAnswer) → length (lines_text (answer_lines a))
    ≡ length (lines_text (head_lines a.version a.head)) + length (lines_text (network_lines a.edges)) + 9 + length (lines_text (tree_lines a.version a.tree))
length-answer_lines a = grind (arith, flat_map-append, length-append)
