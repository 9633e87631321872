-- The numbers, labels and cuts of lines that are due.
use Rattle.std.proofs.Common.{ℕ, ◌≡◌, ◌≤◌, List, [], ◌∷◌, ◌++◌, length, refl, sym, ap, subst, ◌∙◌, arith, append_assoc}
use Rattle.std.specs.Prelude.{codes, pos}
use Rattle.std.specs.Fmt.{decimal, signed_decimal}
use Rattle.std.proofs.lemmas.List.{append-nil}
use Rattle.points_in.specs.declared.point.Point.{Point}
use Rattle.net_graph.specs.declared.packing.Cut.{Cut}
use Rattle.hanan_grid.specs.declared.name.EdgeName.{EdgeName}
use Rattle.answer_text.specs.AnswerLine.{Line}
use Rattle.answer_text.specs.LineKinds as line
use Rattle.answer_text.specs.declared.form.Form.{Form}
use Rattle.answer_text.specs.declared.form.Form.TheVariants as form
use Rattle.answer_text.specs.declared.label.EdgeLabel.{EdgeLabel}
use Rattle.answer_text.specs.declared.label.EdgeLabel.TheVariants as edge
use Rattle.answer_text.specs.declared.label.VertexLabel.{VertexLabel}
use Rattle.answer_text.specs.declared.label.VertexLabel.TheVariants as vertex
use Rattle.answer_text.specs.declared.line.Stage.{Stage}
use Rattle.answer_text.specs.declared.scan.Kept.{Kept}
use Rattle.answer_text.specs.declared.scan.Field.{Field}
use Rattle.answer_text.specs.declared.scan.Field.TheVariants as field
use Rattle.answer_text.specs.declared.scan.Corner.TheVariants as corner
use Rattle.answer_text.specs.declared.scan.Scan.TheVariants as scan
use Rattle.answer_text.specs.declared.version.Version.{Version}
use Rattle.answer_text.specs.Words.{name_words, point_words, edge_words, vertex_words, set_text}
use Rattle.answer_text.specs.Forms.{most_edges}
use Rattle.answer_text.specs.Spelling.{FitsName, FitsPoint, FitsEdge, FitsVertex, FitsCut}
use Rattle.answer_text.specs.LineFits.{IsLineRead}
use Rattle.answer_text.specs.Scanning.{IsInField, name_line, BehindNumber, NumberLeft, ValueLeft, ForkLeft, Left, edge_scan, vertex_scan}
use Rattle.answer_text.proofs.lemmas.WordLemmas.{name_pieces, point_pieces}
use Rattle.answer_text.proofs.lemmas.Due.{zero_fits}
use Rattle.answer_text.proofs.lemmas.FormLemmas.{most_edges-few}
use Rattle.answer_text.proofs.lemmas.ScanNumbers.{spelled_of, coordinate_left}

-- a line that was read, under another name
pub read_as : (v : Version) (F : Form) (s s' : Stage) (bytes : List ℕ) (l l' : Line) → l ≡ l' → IsLineRead v F s bytes l' s' → IsLineRead v F s bytes l s'
read_as v F s s' bytes l l' is read = subst (λ x. IsLineRead v F s bytes x s') (sym is) read

-- a number alone
pub number_text : (k : Kept) (f : Field) (rest : List ℕ) (l : Line) (h : NumberLeft k f [] rest l) → h.behind ≡ [] → rest ≡ decimal h.number
number_text k f rest l h none = h.parts ∙ ap (λ x. h.more ++ x) none ∙ append-nil h.more ∙ sym h.spelled

-- a number alone is due
pub number_due : (k : Kept) (f : Field) (n : ℕ) (l : Line) → IsInField f n → BehindNumber k f n [] l → NumberLeft k f [] (decimal n) l
number_due k f n l inside follows = record { number = n; more = decimal n; behind = []; parts = sym (append-nil (decimal n)); spelled = refl; inside = inside; follows = follows }

-- the words of a name are due
name_text : (k : Kept) (rest : List ℕ) (l : Line) → ValueLeft k (scan.Coordinate corner.X1) rest l → (e : EdgeName) × FitsName e × (rest ≡ name_words e) × (l ≡ name_line k.version k.stage (edge.Ends e))
name_text k rest l h = grind (arith, name_pieces)

name_due : (k : Kept) (e : EdgeName) (rest : List ℕ) (l : Line) → FitsName e → rest ≡ name_words e → l ≡ name_line k.version k.stage (edge.Ends e) → ValueLeft k (scan.Coordinate corner.X1) rest l
name_due k e rest l fits text is = grind (arith, coordinate_left, name_pieces)

-- the words of a point are due
point_text : (k : Kept) (rest : List ℕ) (l : Line) → ValueLeft k (scan.Coordinate corner.X) rest l → (p : Point) × FitsPoint p × (rest ≡ point_words p) × (l ≡ line.SplitVertex (vertex.At p))
point_text k rest l h =
    grind (arith, point_pieces (record { x = ((spelled_of k corner.X rest l h).follows).name.x1; y = ((spelled_of k corner.X rest l h).follows).name.y1 }))

point_due : (k : Kept) (p : Point) → FitsPoint p → ValueLeft k (scan.Coordinate corner.X) (point_words p) (line.SplitVertex (vertex.At p))
point_due k p fits =
    let e : EdgeName = record { x1 = p.x; y1 = p.y; x2 = pos 0; y2 = pos 0 } in
    coordinate_left k corner.X p.x (point_words p) (32 ∷ signed_decimal p.y) (line.SplitVertex (vertex.At p)) (point_pieces p) fits.x
    (record { name = e; fits = record { x1 = fits.x; y1 = fits.y; x2 = zero_fits; y2 = zero_fits }; same = refl; text = refl; line = refl })

-- the words of an edge's label are due
pub edge_text : (F : Form) (k : Kept) (rest : List ℕ) (l : Line) → ValueLeft k (edge_scan F) rest l → (e : EdgeLabel) × FitsEdge F e × (rest ≡ edge_words e) × (l ≡ name_line k.version k.stage e)
edge_text (form.OnGrid V) k rest l h = let n = name_text k rest l h in (edge.Ends n.0, n.1, n.2, n.3)
edge_text (form.OfGraph E V) k rest l h = grind (arith, number_text k (field.EdgeNumber E) rest l h h.follows.0)

pub edge_due : (F : Form) (k : Kept) (e : EdgeLabel) (rest : List ℕ) (l : Line) → FitsEdge F e → rest ≡ edge_words e → l ≡ name_line k.version k.stage e → ValueLeft k (edge_scan F) rest l
edge_due (form.OnGrid V) k (edge.Ends e) rest l fits text is = name_due k e rest l fits text is
edge_due (form.OnGrid V) k (edge.Number n) rest l fits text is = absurd fits
edge_due (form.OfGraph E V) k (edge.Ends e) rest l fits text is = absurd fits
edge_due (form.OfGraph E V) k (edge.Number n) rest l fits text is = grind (arith, number_due)

-- the words of a vertex's label are due
pub vertex_text : (F : Form) (k : Kept) (rest : List ℕ) (l : Line) → ValueLeft k (vertex_scan F) rest l → (p : VertexLabel) × FitsVertex F p × (rest ≡ vertex_words p) × (l ≡ line.SplitVertex p)
vertex_text (form.OnGrid V) k rest l h = let n = point_text k rest l h in (vertex.At n.0, n.1, n.2, n.3)
vertex_text (form.OfGraph E V) k rest l h = grind (arith, number_text k (field.VertexNumber V) rest l h h.follows.0)

pub vertex_due : (F : Form) (k : Kept) (p : VertexLabel) → FitsVertex F p → ValueLeft k (vertex_scan F) (vertex_words p) (line.SplitVertex p)
vertex_due (form.OnGrid V) k (vertex.At p) fits = point_due k p fits
vertex_due (form.OnGrid V) k (vertex.Number n) fits = absurd fits
vertex_due (form.OfGraph E V) k (vertex.At p) fits = absurd fits
vertex_due (form.OfGraph E V) k (vertex.Number n) fits = grind (arith, number_due)

-- a count of edges within its field is one that fits
pub count_fits : (F : Form) (n : ℕ) → IsInField (field.Count (most_edges F)) n → n ≤ most_edges F
count_fits F n inside = let limit = inside.limit in omega arith

pub count_inside : (F : Form) (n : ℕ) → n ≤ most_edges F → IsInField (field.Count (most_edges F)) n
count_inside F n few = record { least = omega arith; limit = omega (arith, most_edges-few F) }

-- a cut's words are due
pub cut_text : (V : ℕ) (k : Kept) (rest : List ℕ) (l : Line) → length k.members ≡ V → NumberLeft k field.Weight [] rest l
    → (c : Cut) × (rest ≡ decimal c.weight ++ codes " " ++ set_text c.members) × FitsCut V c × (l ≡ line.Cut c)
cut_text V k rest l vertices h = grind (arith, append_assoc)

-- where an edge is named, neither a word nor one of two is due
pub edge_value : (F : Form) (k : Kept) (rest : List ℕ) (l : Line) → Left k (edge_scan F) rest l → ValueLeft k (edge_scan F) rest l
edge_value F k rest l h = grind arith

pub edge_fork : (F : Form) (k : Kept) (rest : List ℕ) (l : Line) → ForkLeft k (edge_scan F) rest l → ValueLeft k (edge_scan F) rest l
edge_fork F k rest l h = grind arith

pub value_edge : (F : Form) (k : Kept) (rest : List ℕ) (l : Line) → ValueLeft k (edge_scan F) rest l → Left k (edge_scan F) rest l
value_edge F k rest l h = grind arith

pub fork_edge : (F : Form) (k : Kept) (rest : List ℕ) (l : Line) → ValueLeft k (edge_scan F) rest l → ForkLeft k (edge_scan F) rest l
fork_edge F k rest l h = grind arith
