-- The bytes of lines: none holds a line feed, and they tell the line.
use Rattle.std.proofs.Common.{ℕ, suc, zero, ◌≡◌, ◌≢◌, ◌+◌, ◌<◌, ◌≤◌, Bool, true, false, List, [], ◌∷◌, ◌++◌, length, refl, sym, ap, arith, Some, cond, eqb}
use Rattle.std.specs.Prelude.{codes, ◌^◌}
use Rattle.std.specs.Fmt.{decimal, signed_decimal, digit_glyph}
use Rattle.std.proofs.lemmas.Bool.Decides.{nat_tests}
use Rattle.std.proofs.lemmas.List.{append_cancel_left}
use Rattle.std.proofs.lemmas.List.Elements.{All-head, All-tail, All-cons, All-nil, All-append}
use Rattle.text_in.specs.Words.{Lacks}
use Rattle.text_in.specs.Numbers.{signed_decimal-lacks}
use Rattle.net_graph.specs.declared.packing.Cut.{Cut}
use Rattle.points_in.specs.declared.point.Point.{Point}
use Rattle.hanan_grid.specs.declared.name.EdgeName.{EdgeName}
use Rattle.answer_text.specs.declared.form.Form.{Form}
use Rattle.answer_text.specs.declared.form.Form.TheVariants as form
use Rattle.answer_text.specs.declared.label.EdgeLabel.{EdgeLabel}
use Rattle.answer_text.specs.declared.label.EdgeLabel.TheVariants as edge
use Rattle.answer_text.specs.declared.label.VertexLabel.{VertexLabel}
use Rattle.answer_text.specs.declared.label.VertexLabel.TheVariants as vertex
use Rattle.answer_text.specs.AnswerLine.{Line}
use Rattle.answer_text.specs.LineKinds as line
use Rattle.answer_text.specs.declared.line.Stage.{Stage}
use Rattle.answer_text.specs.declared.line.Stage.TheVariants as stage
use Rattle.answer_text.specs.declared.version.Version.{Version}
use Rattle.answer_text.specs.declared.version.Version.TheVariants as version
use Rattle.answer_text.specs.Words.{four_value, four_digit, set_text, status_word, concat_word, name_words, point_words, edge_words, vertex_words}
use Rattle.answer_text.specs.Forms.{set_size}
use Rattle.answer_text.specs.Spelling.{FitsName, FitsPoint, FitsEdge, FitsVertex, FitsCut}
use Rattle.answer_text.specs.Lines.{line_bytes, line_text, lines_text, step}
use Rattle.answer_text.specs.LineFits.{FitsLine, FitsLines, version_with}
use Rattle.answer_text.specs.Reading.{line_feeds}
use Rattle.answer_text.proofs.lemmas.Pieces.{number-lacks, number_one, status_front, first_apart}
use Rattle.answer_text.proofs.lemmas.Steps.{step-done}
use Rattle.answer_text.proofs.lemmas.FormLemmas.{most_edges-few}
use Rattle.answer_text.proofs.lemmas.Lines.{cut_front, edge_front, point_front}

-- ---- no line feed within a line

-- whether a list lacks a byte
abbrev all_apart : ℕ → List ℕ → Bool
all_apart byte [] = true
all_apart byte (b ∷ bytes) = cond (eqb b byte) false (all_apart byte bytes)

-- a list that was tested lacks the byte
lacks_by : (byte : ℕ) (bytes : List ℕ) → all_apart byte bytes ≡ true → Lacks bytes byte
lacks_by byte [] e = All-nil (λ b. b ≢ byte)
lacks_by byte (b ∷ bytes) e = grind (arith, lacks_by byte bytes (grind (arith, nat_tests)))

-- a digit is no line feed
digit_glyph-high : (n : ℕ) → 48 ≤ digit_glyph false n
digit_glyph-high n = grind (arith, nat_tests)

four_digit-apart : (a b c d : Bool) → four_digit a b c d ≢ 10
four_digit-apart a b c d = let high = digit_glyph-high (four_value a b c d) in λ e. omega arith

-- a set has none
set_text-lacks : (set : List Bool) → Lacks (set_text set) 10
set_text-lacks [] = All-nil (λ b. b ≢ 10)
set_text-lacks (a ∷ []) = All-cons (λ b. b ≢ 10) (four_digit a false false false) [] (four_digit-apart a false false false) (All-nil (λ b. b ≢ 10))
set_text-lacks (a ∷ b ∷ []) = All-cons (λ b. b ≢ 10) (four_digit a b false false) [] (four_digit-apart a b false false) (All-nil (λ b. b ≢ 10))
set_text-lacks (a ∷ b ∷ c ∷ []) = All-cons (λ b. b ≢ 10) (four_digit a b c false) [] (four_digit-apart a b c false) (All-nil (λ b. b ≢ 10))
set_text-lacks (a ∷ b ∷ c ∷ d ∷ set) = All-cons (λ b. b ≢ 10) (four_digit a b c d) (set_text set) (four_digit-apart a b c d) (set_text-lacks set)

-- two lists that have none have none together
both_lack : (xs ys : List ℕ) → Lacks xs 10 → Lacks ys 10 → Lacks (xs ++ ys) 10
both_lack xs ys p q = All-append (λ b. b ≢ 10) xs ys p q

-- a word and a number have none
word_number-lacks : (word : List ℕ) (n : ℕ) → Lacks word 10 → n < 2 ^ 128 → Lacks (word ++ decimal n) 10
word_number-lacks word n p fits = both_lack word (decimal n) p (number-lacks n 10 fits (omega arith))

-- the words of a name have none
name_words-lacks : (e : EdgeName) → FitsName e → Lacks (name_words e) 10
name_words-lacks e f =
    let blank : Lacks (codes " ") 10 = lacks_by 10 (codes " ") refl in
    both_lack _ (signed_decimal e.y2) (both_lack _ (codes " ") (both_lack _ (signed_decimal e.x2) (both_lack _ (codes " ") (both_lack _ (signed_decimal e.y1) (both_lack _ (codes " ")
    (signed_decimal-lacks e.x1 10 f.x1 (omega arith)) blank) (signed_decimal-lacks e.y1 10 f.y1 (omega arith))) blank) (signed_decimal-lacks e.x2 10 f.x2 (omega arith))) blank) (signed_decimal-lacks e.y2 10 f.y2 (omega arith))

-- the words of a point have none
point_words-lacks : (p : Point) → FitsPoint p → Lacks (point_words p) 10
point_words-lacks p f =
    both_lack (signed_decimal p.x ++ codes " ") (signed_decimal p.y)
    (both_lack (signed_decimal p.x) (codes " ") (signed_decimal-lacks p.x 10 f.x (omega arith)) (lacks_by 10 (codes " ") refl)) (signed_decimal-lacks p.y 10 f.y (omega arith))

-- the words of a label have none
edge_words-lacks : (F : Form) (e : EdgeLabel) → FitsEdge F e → Lacks (edge_words e) 10
edge_words-lacks (form.OnGrid V) (edge.Ends e) f = name_words-lacks e f
edge_words-lacks (form.OnGrid V) (edge.Number n) f = absurd f
edge_words-lacks (form.OfGraph E V) (edge.Ends e) f = absurd f
edge_words-lacks (form.OfGraph E V) (edge.Number n) f = let width = f.width in number-lacks n 10 (omega arith) (omega arith)

vertex_words-lacks : (F : Form) (p : VertexLabel) → FitsVertex F p → Lacks (vertex_words p) 10
vertex_words-lacks (form.OnGrid V) (vertex.At p) f = point_words-lacks p f
vertex_words-lacks (form.OnGrid V) (vertex.Number n) f = absurd f
vertex_words-lacks (form.OfGraph E V) (vertex.At p) f = absurd f
vertex_words-lacks (form.OfGraph E V) (vertex.Number n) f = let width = f.width in number-lacks n 10 (omega arith) (omega arith)

-- nor has a line that fits
pub line_bytes-lacks : (v : Version) (F : Form) (l : Line) → FitsLine v F l → Lacks (line_bytes l) 10
line_bytes-lacks v F (line.Title version.One) f = lacks_by 10 (codes "rst answer 1") refl
line_bytes-lacks v F (line.Title version.Two) f = lacks_by 10 (codes "rst answer 2") refl
line_bytes-lacks v F (line.Title version.Graph) f = lacks_by 10 (codes "rst graph 1") refl
line_bytes-lacks v F (line.Length n) f = word_number-lacks (codes "length ") n (lacks_by 10 (codes "length ") refl) (omega arith)
line_bytes-lacks v F (line.Bound n) f = word_number-lacks (codes "bound ") n (lacks_by 10 (codes "bound ") refl) (omega arith)
line_bytes-lacks v F (line.Status true) f = lacks_by 10 (codes "status optimal") refl
line_bytes-lacks v F (line.Status false) f = lacks_by 10 (codes "status stopped") refl
line_bytes-lacks v F (line.Openings n) f = let few = f.1 in word_number-lacks (codes "openings ") n (lacks_by 10 (codes "openings ") refl) (omega arith)
line_bytes-lacks v F (line.LastOpenings n) f = let few = f.1 in word_number-lacks (codes "openings ") n (lacks_by 10 (codes "openings ") refl) (omega arith)
line_bytes-lacks v F (line.Concat c) f = both_lack (codes "concat " ++ concat_word c.least ++ codes " ") (decimal c.total) (concat_lacks c.least) (number-lacks c.total 10 f (omega arith))
  where
    concat_lacks : (least : Bool) → Lacks (codes "concat " ++ concat_word least ++ codes " ") 10
    concat_lacks true = lacks_by 10 (codes "concat least ") refl
    concat_lacks false = lacks_by 10 (codes "concat spent ") refl
line_bytes-lacks v F (line.Count n) f = word_number-lacks (codes "edges ") n (lacks_by 10 (codes "edges ") refl) (omega (arith, most_edges-few F))
line_bytes-lacks v F (line.Edge e) f = edge_words-lacks F e f
line_bytes-lacks v F line.Tree f = lacks_by 10 (codes "tree") refl
line_bytes-lacks v F (line.Split e) f = both_lack (codes "split ") (edge_words e) (lacks_by 10 (codes "split ") refl) (edge_words-lacks F e f.1)
line_bytes-lacks v F (line.SplitEdge e) f = both_lack (codes "split edge ") (edge_words e) (lacks_by 10 (codes "split edge ") refl) (edge_words-lacks F e f.1)
line_bytes-lacks v F (line.SplitVertex p) f = both_lack (codes "split vertex ") (vertex_words p) (lacks_by 10 (codes "split vertex ") refl) (vertex_words-lacks F p f.1)
line_bytes-lacks v F (line.Leaf n) f = word_number-lacks (codes "leaf ") n (lacks_by 10 (codes "leaf ") refl) (omega arith)
line_bytes-lacks v F (line.Cut c) f =
    both_lack (codes "cut " ++ decimal c.weight ++ codes " ") (set_text c.members)
    (both_lack (codes "cut " ++ decimal c.weight) (codes " ") (word_number-lacks (codes "cut ") c.weight (lacks_by 10 (codes "cut ") refl) (omega arith)) (lacks_by 10 (codes " ") refl))
    (set_text-lacks c.members)
line_bytes-lacks v F line.End f = lacks_by 10 (codes "end") refl

-- ---- a line is told by its bytes, where another might be due

-- numbers behind one word
same_number : (word : List ℕ) (m n : ℕ) → m < 2 ^ 128 → n < 2 ^ 128 → word ++ decimal m ≡ word ++ decimal n → m ≡ n
same_number word m n p q e = number_one m n p q (append_cancel_left word (decimal m) (decimal n) e)

-- names behind one word
same_name_words : (d e : EdgeName) → FitsName d → FitsName e → name_words d ≡ name_words e → d ≡ e
same_name_words d e f g same = (edge_front d e [] [] f g (ap (λ x. (x ++ codes "\n") ++ []) same)).0

-- labels of edges
same_edge_words : (F : Form) (d e : EdgeLabel) → FitsEdge F d → FitsEdge F e → edge_words d ≡ edge_words e → d ≡ e
same_edge_words (form.OnGrid V) (edge.Ends d) (edge.Ends e) f g same = ap edge.Ends (same_name_words d e f g same)
same_edge_words (form.OnGrid V) (edge.Ends d) (edge.Number n) f g same = absurd g
same_edge_words (form.OnGrid V) (edge.Number n) e f g same = absurd f
same_edge_words (form.OfGraph E V) (edge.Number m) (edge.Number n) f g same = grind (arith, number_one)
same_edge_words (form.OfGraph E V) (edge.Number m) (edge.Ends e) f g same = absurd g
same_edge_words (form.OfGraph E V) (edge.Ends d) e f g same = absurd f

same_edge : (F : Form) (word : List ℕ) (d e : EdgeLabel) → FitsEdge F d → FitsEdge F e → word ++ edge_words d ≡ word ++ edge_words e → d ≡ e
same_edge F word d e f g same = same_edge_words F d e f g (append_cancel_left word (edge_words d) (edge_words e) same)

-- points
same_point_words : (p q : Point) → FitsPoint p → FitsPoint q → point_words p ≡ point_words q → p ≡ q
same_point_words p q f g same = (point_front p q [] [] f g (ap (λ x. (x ++ codes "\n") ++ []) same)).0

-- labels of vertices
same_vertex_words : (F : Form) (p q : VertexLabel) → FitsVertex F p → FitsVertex F q → vertex_words p ≡ vertex_words q → p ≡ q
same_vertex_words (form.OnGrid V) (vertex.At p) (vertex.At q) f g same = ap vertex.At (same_point_words p q f g same)
same_vertex_words (form.OnGrid V) (vertex.At p) (vertex.Number n) f g same = absurd g
same_vertex_words (form.OnGrid V) (vertex.Number n) q f g same = absurd f
same_vertex_words (form.OfGraph E V) (vertex.Number m) (vertex.Number n) f g same = grind (arith, number_one)
same_vertex_words (form.OfGraph E V) (vertex.Number m) (vertex.At q) f g same = absurd g
same_vertex_words (form.OfGraph E V) (vertex.At p) q f g same = absurd f

same_vertex : (F : Form) (p q : VertexLabel) → FitsVertex F p → FitsVertex F q → codes "split vertex " ++ vertex_words p ≡ codes "split vertex " ++ vertex_words q → p ≡ q
same_vertex F p q f g same = same_vertex_words F p q f g (append_cancel_left (codes "split vertex ") (vertex_words p) (vertex_words q) same)

-- a split on an edge and one on a vertex
splits_apart : (e : EdgeLabel) (p : VertexLabel) → codes "split edge " ++ edge_words e ≡ codes "split vertex " ++ vertex_words p → ⊥
splits_apart e p same = first_apart 101 118 (omega arith) (append_cancel_left (codes "split ") (codes "edge " ++ edge_words e) (codes "vertex " ++ vertex_words p) same)

-- cuts
same_cut_words : (V : ℕ) (c d : Cut) → FitsCut V c → FitsCut V d → line_bytes (line.Cut c) ≡ line_bytes (line.Cut d) → c ≡ d
same_cut_words V c d f g same = (cut_front V c d [] [] f g (ap (λ x. (x ++ codes "\n") ++ []) same)).0

-- the status
same_status : (a b : Bool) → codes "status " ++ status_word a ≡ codes "status " ++ status_word b → a ≡ b
same_status a b same = (status_front a b [] [] (ap (λ x. x ++ []) (append_cancel_left (codes "status ") (status_word a) (status_word b) same))).0

-- two lines that are due at one stage of a text and have the same bytes are the same
pub same_line : (v : Version) (F : Form) (s : Stage) (l m : Line) (s' s'' : Stage) → step s l ≡ Some s' → step s m ≡ Some s'' → FitsLine (version_with v l) F l
    → FitsLine (version_with v m) F m → line_bytes l ≡ line_bytes m → l ≡ m
same_line v F stage.Title (line.Title a) (line.Title b) s' s'' d e f g same = ap line.Title (grind arith)
same_line v F stage.Length (line.Length m) (line.Length n) s' s'' d e f g same = ap line.Length (same_number (codes "length ") m n (omega arith) (omega arith) same)
same_line v F stage.Bound (line.Bound m) (line.Bound n) s' s'' d e f g same = ap line.Bound (same_number (codes "bound ") m n (omega arith) (omega arith) same)
same_line v F stage.Status (line.Status a) (line.Status b) s' s'' d e f g same = ap line.Status (same_status a b same)
same_line v F stage.Openings (line.Openings m) (line.Openings n) s' s'' d e f g same = let few = f.1 in let few_too = g.1 in ap line.Openings (same_number (codes "openings ") m n (omega arith) (omega arith) same)
same_line v F stage.Openings (line.LastOpenings m) (line.LastOpenings n) s' s'' d e f g same = let few = f.1 in let few_too = g.1 in ap line.LastOpenings (same_number (codes "openings ") m n (omega arith) (omega arith) same)
same_line v F stage.Openings (line.Openings m) (line.LastOpenings n) s' s'' d e f g same = absurd (grind arith)
same_line v F stage.Openings (line.LastOpenings m) (line.Openings n) s' s'' d e f g same = absurd (grind arith)
same_line v F stage.Concat (line.Concat c) (line.Concat k) s' s'' d e f g same = ap line.Concat (grind (arith, number_one))
same_line v F stage.Count (line.Count m) (line.Count n) s' s'' d e f g same = ap line.Count (same_number (codes "edges ") m n (omega (arith, most_edges-few F)) (omega (arith, most_edges-few F)) same)
same_line v F (stage.Edges zero) line.Tree line.Tree s' s'' d e f g same = refl
same_line v F (stage.Edges (suc k)) (line.Edge a) (line.Edge b) s' s'' d e f g same = ap line.Edge (same_edge_words F a b f g same)
same_line v F (stage.Body zero zero) line.End line.End s' s'' d e f g same = refl
same_line v F (stage.Body zero (suc p)) (line.Leaf m) (line.Leaf n) s' s'' d e f g same = ap line.Leaf (same_number (codes "leaf ") m n (omega arith) (omega arith) same)
same_line v F (stage.Body zero (suc p)) (line.Leaf n) (line.Split a) s' s'' d e f g same = absurd (first_apart 108 115 (omega arith) same)
same_line v F (stage.Body zero (suc p)) (line.Leaf n) (line.SplitEdge a) s' s'' d e f g same = absurd (first_apart 108 115 (omega arith) same)
same_line v F (stage.Body zero (suc p)) (line.Leaf n) (line.SplitVertex a) s' s'' d e f g same = absurd (first_apart 108 115 (omega arith) same)
same_line v F (stage.Body zero (suc p)) (line.Split a) (line.Leaf n) s' s'' d e f g same = absurd (first_apart 115 108 (omega arith) same)
same_line v F (stage.Body zero (suc p)) (line.SplitEdge a) (line.Leaf n) s' s'' d e f g same = absurd (first_apart 115 108 (omega arith) same)
same_line v F (stage.Body zero (suc p)) (line.SplitVertex a) (line.Leaf n) s' s'' d e f g same = absurd (first_apart 115 108 (omega arith) same)
same_line v F (stage.Body zero (suc p)) (line.Split a) (line.Split b) s' s'' d e f g same = ap line.Split (same_edge F (codes "split ") a b f.1 g.1 same)
same_line v F (stage.Body zero (suc p)) (line.Split a) (line.SplitEdge b) s' s'' d e f g same = absurd (grind arith)
same_line v F (stage.Body zero (suc p)) (line.Split a) (line.SplitVertex b) s' s'' d e f g same = absurd (grind arith)
same_line v F (stage.Body zero (suc p)) (line.SplitEdge a) (line.Split b) s' s'' d e f g same = absurd (grind arith)
same_line v F (stage.Body zero (suc p)) (line.SplitVertex a) (line.Split b) s' s'' d e f g same = absurd (grind arith)
same_line v F (stage.Body zero (suc p)) (line.SplitEdge a) (line.SplitEdge b) s' s'' d e f g same = ap line.SplitEdge (same_edge F (codes "split edge ") a b f.1 g.1 same)
same_line v F (stage.Body zero (suc p)) (line.SplitEdge a) (line.SplitVertex b) s' s'' d e f g same = absurd (splits_apart a b same)
same_line v F (stage.Body zero (suc p)) (line.SplitVertex a) (line.SplitEdge b) s' s'' d e f g same = absurd (splits_apart b a (sym same))
same_line v F (stage.Body zero (suc p)) (line.SplitVertex a) (line.SplitVertex b) s' s'' d e f g same = ap line.SplitVertex (same_vertex F a b f.1 g.1 same)
same_line v F (stage.Body (suc c) p) (line.Cut a) (line.Cut b) s' s'' d e f g same = ap line.Cut (same_cut_words (set_size F) a b f g same)
same_line v F stage.Done l m s' s'' d e f g same = let none = step-done l in absurd cc
same_line v F s l m s' s'' d e f g same = absurd cc

-- ---- how many lines there are

-- the line feeds of two lists
pub line_feeds-append : (xs ys : List ℕ) → line_feeds (xs ++ ys) ≡ line_feeds xs + line_feeds ys
line_feeds-append [] ys = omega arith
line_feeds-append (x ∷ xs) ys = let rest = line_feeds-append xs ys in grind (arith, nat_tests)

-- a list that lacks them has none
pub line_feeds-lacks : (xs : List ℕ) → Lacks xs 10 → line_feeds xs ≡ 0
line_feeds-lacks [] p = refl
line_feeds-lacks (x ∷ xs) p =
    let rest = line_feeds-lacks xs (All-tail (λ b. b ≢ 10) x xs p) in
    let apart : x ≢ 10 = All-head (λ b. b ≢ 10) x xs p in
    grind (arith, nat_tests)

-- lines that fit have one each
pub line_feeds-lines : (v : Version) (F : Form) (ls : List Line) → FitsLines v F ls → line_feeds (lines_text ls) ≡ length ls
line_feeds-lines v F [] f = refl
line_feeds-lines v F (l ∷ ls) f =
    let none = line_feeds-lacks (line_bytes l) (line_bytes-lacks (version_with v l) F l f.0) in
    let rest = line_feeds-lines (version_with v l) F ls f.1 in
    omega (arith, line_feeds-append (line_text l) (lines_text ls), line_feeds-append (line_bytes l) (10 ∷ []))
