-- What is due can always be gone on with, up to the end of its line.
use Rattle.std.proofs.Common.{ℕ, ◌≡◌, ◌+◌, ◌/◌, ◌<◌, ◌≤◌, ◌^◌, ℤ, Bool, true, false, List, [], ◌∷◌, ◌++◌, length, drop, refl, sym, subst, arith, inl, inr}
use Rattle.std.specs.Prelude.{◌⊎◌, codes, FitsSigned}
use Rattle.std.specs.Int.{w64}
use Rattle.std.specs.Fmt.{decimal, signed_decimal}
use Rattle.std.proofs.lemmas.List.{append-nil, drop_all, length-drop}
use Rattle.hanan_grid.specs.declared.name.EdgeName.{EdgeName}
use Rattle.answer_text.specs.AnswerLine.{Line}
use Rattle.answer_text.specs.LineKinds as line
use Rattle.answer_text.specs.declared.form.Form.{Form}
use Rattle.answer_text.specs.declared.form.Form.TheVariants as form
use Rattle.answer_text.specs.declared.label.EdgeLabel.TheVariants as edge
use Rattle.answer_text.specs.declared.label.VertexLabel.TheVariants as vertex
use Rattle.answer_text.specs.declared.scan.Kept.{Kept}
use Rattle.answer_text.specs.declared.scan.Word.{Word}
use Rattle.answer_text.specs.declared.scan.Word.TheVariants as word
use Rattle.answer_text.specs.declared.scan.Field.{Field}
use Rattle.answer_text.specs.declared.scan.Field.TheVariants as field
use Rattle.answer_text.specs.declared.scan.Corner.{Corner}
use Rattle.answer_text.specs.declared.scan.Corner.TheVariants as corner
use Rattle.answer_text.specs.declared.scan.Scan.{Scan}
use Rattle.answer_text.specs.declared.scan.Scan.TheVariants as scan
use Rattle.answer_text.specs.declared.version.Version.TheVariants as version
use Rattle.answer_text.specs.Words.{set_text}
use Rattle.answer_text.specs.Forms.{HasVertices}
use Rattle.answer_text.specs.Spelling.{FitsName}
use Rattle.answer_text.specs.Scanning.{least_of, IsInField, signed, name_line, corner_line, behind_x1, behind_y1, word_bytes, behind_word, closed_line, BehindNumber, BehindCoordinate, NumberLeft, SetLeft, ValueLeft, ForkLeft, Left, edge_scan, vertex_scan, IsOpen, IsUnderway, IsSound}
use Rattle.answer_text.specs.SetLaws.{length-set_text}
use Rattle.answer_text.proofs.lemmas.ValuesDue.{fork_edge}

-- ---- what is due can be gone on with

-- a coordinate within its limits
pub signed_fits : (c : Corner) (minus : Bool) (n : ℕ) → IsInField (field.Coordinate c minus) n → FitsSigned w64 (signed minus n)
signed_fits c minus n inside = grind arith

-- some bytes that make it a line
behind_corner_some : (k : Kept) (c : Corner) (z : ℤ) → FitsName k.name → FitsSigned w64 z → (rest : List ℕ) × (l : Line) × BehindCoordinate k c z rest l
behind_corner_some k corner.X1 z name fits =
    let e : EdgeName = record { x1 = z; y1 = k.name.y1; x2 = k.name.x2; y2 = k.name.y2 } in
    (32 ∷ behind_x1 e, name_line k.version k.stage (edge.Ends e), record { name = e; fits = record { x1 = fits; y1 = name.y1; x2 = name.x2; y2 = name.y2 }; same = refl; text = refl; line = refl })
behind_corner_some k corner.Y1 z name fits =
    let e : EdgeName = record { x1 = k.name.x1; y1 = z; x2 = k.name.x2; y2 = k.name.y2 } in
    (32 ∷ behind_y1 e, name_line k.version k.stage (edge.Ends e), record { name = e; fits = record { x1 = name.x1; y1 = fits; x2 = name.x2; y2 = name.y2 }; same = (refl, refl); text = refl; line = refl })
behind_corner_some k corner.X2 z name fits =
    let e : EdgeName = record { x1 = k.name.x1; y1 = k.name.y1; x2 = z; y2 = k.name.y2 } in
    (32 ∷ signed_decimal e.y2, name_line k.version k.stage (edge.Ends e), record { name = e; fits = record { x1 = name.x1; y1 = name.y1; x2 = fits; y2 = name.y2 }; same = (refl, refl, refl); text = refl; line = refl })
behind_corner_some k corner.Y2 z name fits =
    let e : EdgeName = record { x1 = k.name.x1; y1 = k.name.y1; x2 = k.name.x2; y2 = z } in
    ([], name_line k.version k.stage (edge.Ends e), record { name = e; fits = record { x1 = name.x1; y1 = name.y1; x2 = name.x2; y2 = fits }; same = (refl, refl, refl, refl); text = refl; line = refl })
behind_corner_some k corner.X z name fits =
    let e : EdgeName = record { x1 = z; y1 = k.name.y1; x2 = k.name.x2; y2 = k.name.y2 } in
    (32 ∷ signed_decimal e.y1, corner_line k corner.X e, record { name = e; fits = record { x1 = fits; y1 = name.y1; x2 = name.x2; y2 = name.y2 }; same = refl; text = refl; line = refl })
behind_corner_some k corner.Y z name fits =
    let e : EdgeName = record { x1 = k.name.x1; y1 = z; x2 = k.name.x2; y2 = k.name.y2 } in
    ([], corner_line k corner.Y e, record { name = e; fits = record { x1 = name.x1; y1 = fits; x2 = name.x2; y2 = name.y2 }; same = (refl, refl); text = refl; line = refl })

behind_some : (k : Kept) (f : Field) (n : ℕ) → IsInField f n → FitsName k.name → (rest : List ℕ) × (l : Line) × BehindNumber k f n rest l
behind_some k field.Length n inside name = ([], line.Length n, (refl, refl))
behind_some k field.Bound n inside name = ([], line.Bound n, (refl, refl))
behind_some k field.Openings n inside name = ([], line.Openings n, (refl, refl))
behind_some k (field.Total least) n inside name = ([], line.Concat (record { least = least; total = n }), (refl, refl))
behind_some k field.LastOpenings n inside name = ([], line.LastOpenings n, (refl, refl))
behind_some k (field.Count most) n inside name = ([], line.Count n, (refl, refl))
behind_some k (field.EdgeNumber last) n inside name = ([], name_line k.version k.stage (edge.Number n), (refl, refl))
behind_some k (field.VertexNumber last) n inside name = ([], line.SplitVertex (vertex.Number n), (refl, refl))
behind_some k field.Leaf n inside name = ([], line.Leaf n, (refl, refl))
behind_some k field.Weight n inside name = (32 ∷ set_text k.members, line.Cut (record { weight = n; members = k.members }), record { set = k.members; size = refl; text = refl; line = refl })
behind_some k (field.Coordinate c minus) n inside name = behind_corner_some k c (signed minus n) name (signed_fits c minus n inside)

digits_left : (k : Kept) (f : Field) (n : ℕ) (digits more : List ℕ) → IsInField f n → FitsName k.name → decimal n ≡ digits ++ more → (rest : List ℕ) × (l : Line) × NumberLeft k f digits rest l
digits_left k f n digits more inside name spelled =
    let b = behind_some k f n inside name in
    (more ++ b.0, b.1, record { number = n; more = more; behind = b.0; parts = refl; spelled = spelled; inside = inside; follows = b.2 })

due_some : (k : Kept) (f : Field) → IsOpen (scan.Due f) → FitsName k.name → (rest : List ℕ) × (l : Line) × NumberLeft k f [] rest l
due_some k f can name = digits_left k f (least_of f) [] (decimal (least_of f)) (record { least = omega arith; limit = can }) name refl

coordinate_some : (k : Kept) (c : Corner) → FitsName k.name → (rest : List ℕ) × (l : Line) × ValueLeft k (scan.Coordinate c) rest l
coordinate_some k c name = let d = due_some k (field.Coordinate c false) (omega arith) name in (d.0, d.1, inl d.2)

-- some label where one can be named
edge_some : (F : Form) (k : Kept) → IsOpen (edge_scan F) → FitsName k.name → (rest : List ℕ) × (l : Line) × ValueLeft k (edge_scan F) rest l
edge_some (form.OnGrid V) k can name = coordinate_some k corner.X1 name
edge_some (form.OfGraph E V) k can name = due_some k (field.EdgeNumber E) can name

vertex_some : (F : Form) (k : Kept) → IsOpen (vertex_scan F) → FitsName k.name → (rest : List ℕ) × (l : Line) × ValueLeft k (vertex_scan F) rest l
vertex_some (form.OnGrid V) k can name = coordinate_some k corner.X name
vertex_some (form.OfGraph E V) k can name = due_some k (field.VertexNumber V) can name

on_some : (F : Form) (k : Kept) → HasVertices F → FitsName k.name → (rest : List ℕ) × (l : Line) × ForkLeft k (scan.On F) rest l
on_some (form.OnGrid V) k some name =
    let d = coordinate_some k corner.X name in
    (codes "vertex " ++ d.0, d.1, inr (d.0, refl, d.2))
on_some (form.OfGraph E V) k some name =
    let d = due_some k (field.VertexNumber V) (omega arith) name in
    (codes "vertex " ++ d.0, d.1, inr (d.0, refl, d.2))

fork_some : (F : Form) (k : Kept) → (rest : List ℕ) × (l : Line) × ValueLeft k (edge_scan F) rest l → (rest : List ℕ) × (l : Line) × ForkLeft k (edge_scan F) rest l
fork_some F k d = (d.0, d.1, fork_edge F k d.0 d.1 d.2)

fork_vertex : (F : Form) (k : Kept) → (rest : List ℕ) × (l : Line) × ValueLeft k (vertex_scan F) rest l → (rest : List ℕ) × (l : Line) × ForkLeft k (vertex_scan F) rest l
fork_vertex F k d = grind arith

word_some : (k : Kept) (w : Word) → IsOpen (behind_word w) → FitsName k.name → (rest : List ℕ) × (l : Line) × ForkLeft k (behind_word w) rest l
word_some k word.Title can name = (codes "1", line.Title version.One, inl (refl, refl))
word_some k word.GraphTitle can name = ([], line.Title version.Graph, (refl, refl))
word_some k word.Length can name = due_some k field.Length can name
word_some k word.Bound can name = due_some k field.Bound can name
word_some k word.Status can name = (codes "optimal", line.Status true, inl ([], refl, (refl, refl)))
word_some k word.Optimal can name = ([], line.Status true, (refl, refl))
word_some k word.Stopped can name = ([], line.Status false, (refl, refl))
word_some k word.Openings can name = due_some k field.Openings can name
word_some k word.LastOpenings can name = due_some k field.LastOpenings can name
word_some k word.Concat can name = let d = due_some k (field.Total true) (omega arith) name in (codes "least " ++ d.0, d.1, inl (d.0, refl, d.2))
word_some k word.Least can name = due_some k (field.Total true) can name
word_some k word.Spent can name = due_some k (field.Total false) can name
word_some k (word.Edges most) can name = due_some k (field.Count most) can name
word_some k word.Tree can name = ([], line.Tree, (refl, refl))
word_some k (word.Split version.One F) can name = fork_some F k (edge_some F k can name)
word_some k (word.Split version.Two F) can name = on_some F k can name
word_some k (word.Split version.Graph F) can name = on_some F k can name
word_some k (word.Edge F) can name = fork_some F k (edge_some F k can name)
word_some k (word.Vertex F) can name = fork_vertex F k (vertex_some F k can name)
word_some k word.Leaf can name = due_some k field.Leaf can name
word_some k word.Cut can name = due_some k field.Weight can name
word_some k word.End can name = ([], line.End, (refl, refl))

-- more of a line is due, or the text is at its end
pub underway : (k : Kept) (s : Scan) → IsSound k s → (s ≡ scan.Ended) ⊎ IsUnderway k s
underway k s sound = grind arith

pub underway-open : (k : Kept) (s : Scan) → s ≡ scan.Ended → IsUnderway k s → ⊥
underway-open k s is sound = subst (IsUnderway k) is sound

-- some bytes make what was read a line
pub some_left : (k : Kept) (s : Scan) → IsUnderway k s → FitsName k.name → (rest : List ℕ) × (l : Line) × Left k s rest l
some_left k (scan.Word w place) sound name = let b = word_some k w sound.1 name in (drop place (word_bytes w) ++ b.0, b.1, (b.0, refl, b.2))
some_left k scan.Version sound name = (codes "1", line.Title version.One, inl (refl, refl))
some_left k scan.Status sound name = (codes "optimal", line.Status true, inl ([], refl, (refl, refl)))
some_left k scan.Kind sound name = let d = due_some k (field.Total true) (omega arith) name in (codes "least " ++ d.0, d.1, inl (d.0, refl, d.2))
some_left k (scan.On F) sound name = on_some F k sound name
some_left k (scan.Node v F) sound name = let d = due_some k field.Leaf (omega arith) name in (codes "leaf " ++ d.0, d.1, inr (d.0, refl, d.2))
some_left k (scan.Due f) sound name = due_some k f sound name
some_left k (scan.Coordinate c) sound name = coordinate_some k c name
some_left k (scan.Number f n) sound name = digits_left k f n (decimal n) [] sound name (sym (append-nil (decimal n)))
some_left k (scan.Set place) sound name = (
  drop place (set_text k.members),
  line.Cut (record { weight = k.weight; members = k.members }),
  record { set = k.members; size = refl; same = λ v below. refl; text = refl; line = refl; weight = (sound.0, sound.1) },
)
some_left k (scan.LineEnd c) sound name = ([], closed_line c, (refl, refl))
some_left k scan.Ended sound name = absurd sound
some_left k scan.Refused sound name = absurd sound

-- ---- the end of a line

-- a set that ends a line has all its digits
pub set_whole : (k : Kept) (place : ℕ) (l : Line) → SetLeft k place [] l → (length k.members + 3) / 4 ≤ place
set_whole k place l h = grind (arith, length-drop place (set_text h.set), length-set_text h.set)

pub set_left : (k : Kept) (place : ℕ) → (0 < k.weight) → k.weight < 2 ^ 64 → (length k.members + 3) / 4 ≤ place → SetLeft k place [] (line.Cut (record { weight = k.weight; members = k.members }))
set_left k place some fits whole = grind (arith, drop_all, length-set_text)
