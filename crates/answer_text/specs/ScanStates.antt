-- What may be due within a line: the words and fields of the format, and what stands behind them.
use Rattle.std.specs.Prelude.{ℕ, suc, zero, ◌<◌, ◌≤◌, ◌+◌, ◌^◌, min, true, false}
use Rattle.std.specs.Prelude.{List, codes}
use Rattle.answer_text.specs.AnswerLine.{Line}
use Rattle.answer_text.specs.LineKinds as line
use Rattle.answer_text.specs.declared.line.Stage.{Stage}
use Rattle.answer_text.specs.declared.line.Stage.TheVariants as stage
use Rattle.answer_text.specs.declared.scan.Scan.{Scan}
use Rattle.answer_text.specs.declared.scan.Scan.TheVariants as scan
use Rattle.answer_text.specs.declared.scan.Word.{Word}
use Rattle.answer_text.specs.declared.scan.Word.TheVariants as word
use Rattle.answer_text.specs.declared.scan.Field.{Field}
use Rattle.answer_text.specs.declared.scan.Field.TheVariants as field
use Rattle.answer_text.specs.declared.scan.Corner.TheVariants as corner
use Rattle.answer_text.specs.declared.scan.Closed.{Closed}
use Rattle.answer_text.specs.declared.scan.Closed.TheVariants as closed
use Rattle.answer_text.specs.declared.form.Form.{Form}
use Rattle.answer_text.specs.declared.form.Form.TheVariants as form
use Rattle.answer_text.specs.declared.version.Version.{Version}
use Rattle.answer_text.specs.declared.version.Version.TheVariants as version
use Rattle.answer_text.specs.Forms.{HasVertices, IsVersionOf, most_edges}
use Rattle.answer_text.specs.Words.{title_words}

-- the bytes of a word
abbrev pub word_bytes : Word → List ℕ
word_bytes word.Title = codes "rst answer "
word_bytes word.GraphTitle = title_words version.Graph
word_bytes word.Length = codes "length "
word_bytes word.Bound = codes "bound "
word_bytes word.Status = codes "status "
word_bytes word.Optimal = codes "optimal"
word_bytes word.Stopped = codes "stopped"
word_bytes word.Openings = codes "openings "
word_bytes word.LastOpenings = codes "openings "
word_bytes word.Concat = codes "concat "
word_bytes word.Least = codes "least "
word_bytes word.Spent = codes "spent "
word_bytes (word.Edges most) = codes "edges "
word_bytes word.Tree = codes "tree"
word_bytes (word.Split v F) = codes "split "
word_bytes (word.Edge F) = codes "edge "
word_bytes (word.Vertex F) = codes "vertex "
word_bytes word.Leaf = codes "leaf "
word_bytes word.Cut = codes "cut "
word_bytes word.End = codes "end"

-- what is due where an edge's label or a vertex's is
abbrev pub edge_scan : Form → Scan
edge_scan (form.OnGrid V) = scan.Coordinate corner.X1
edge_scan (form.OfGraph E V) = scan.Due (field.EdgeNumber E)

abbrev pub vertex_scan : Form → Scan
vertex_scan (form.OnGrid V) = scan.Coordinate corner.X
vertex_scan (form.OfGraph E V) = scan.Due (field.VertexNumber V)

-- what is due behind a word
abbrev pub behind_word : Word → Scan
behind_word word.Title = scan.Version
behind_word word.GraphTitle = scan.LineEnd (closed.Title version.Graph)
behind_word word.Length = scan.Due field.Length
behind_word word.Bound = scan.Due field.Bound
behind_word word.Status = scan.Status
behind_word word.Optimal = scan.LineEnd (closed.Status true)
behind_word word.Stopped = scan.LineEnd (closed.Status false)
behind_word word.Openings = scan.Due field.Openings
behind_word word.LastOpenings = scan.Due field.LastOpenings
behind_word word.Concat = scan.Kind
behind_word word.Least = scan.Due (field.Total true)
behind_word word.Spent = scan.Due (field.Total false)
behind_word (word.Edges most) = scan.Due (field.Count most)
behind_word word.Tree = scan.LineEnd closed.Tree
behind_word (word.Split version.One F) = edge_scan F
behind_word (word.Split version.Two F) = scan.On F
behind_word (word.Split version.Graph F) = scan.On F
behind_word (word.Edge F) = edge_scan F
behind_word (word.Vertex F) = vertex_scan F
behind_word word.Leaf = scan.Due field.Leaf
behind_word word.Cut = scan.Due field.Weight
behind_word word.End = scan.LineEnd closed.End

-- the line that a last word makes
abbrev pub closed_line : Closed → Line
closed_line (closed.Title v) = line.Title v
closed_line (closed.Status optimal) = line.Status optimal
closed_line closed.Tree = line.Tree
closed_line closed.End = line.End

-- the numbers that may stand in a field: from the first to below the second
abbrev pub least_of : Field → ℕ
least_of field.Weight = 1
least_of (field.EdgeNumber last) = 1
least_of (field.VertexNumber last) = 1
least_of (field.Coordinate c true) = 1
least_of f = 0

abbrev pub limit_of : Field → ℕ
limit_of field.Length = 2 ^ 64
limit_of field.Bound = 2 ^ 64
limit_of field.Openings = 2 ^ 8
limit_of field.LastOpenings = 2 ^ 8
limit_of (field.Total least) = 2 ^ 128
limit_of (field.Count most) = min (most + 1) (2 ^ 32)
limit_of (field.EdgeNumber last) = min (last + 1) (2 ^ 32)
limit_of (field.VertexNumber last) = min (last + 1) (2 ^ 32)
limit_of field.Leaf = 2 ^ 32
limit_of field.Weight = 2 ^ 64
limit_of (field.Coordinate c false) = 2 ^ 63
limit_of (field.Coordinate c true) = 2 ^ 63 + 1

-- the number may stand in the field
pub record IsInField (f : Field) (n : ℕ) : Type 0 where
  pub least : least_of f ≤ n
  pub limit : n < limit_of f

-- what is due at a line's beginning, in a text of a form and a version
abbrev pub first_scan : Form → Version → Stage → Scan
first_scan (form.OnGrid V) v stage.Title = scan.Word word.Title 0
first_scan (form.OfGraph E V) v stage.Title = scan.Word word.GraphTitle 0
first_scan F v stage.Length = scan.Word word.Length 0
first_scan F v stage.Bound = scan.Word word.Bound 0
first_scan F v stage.Status = scan.Word word.Status 0
first_scan (form.OnGrid V) v stage.Openings = scan.Word word.Openings 0
first_scan (form.OfGraph E V) v stage.Openings = scan.Word word.LastOpenings 0
first_scan F v stage.Concat = scan.Word word.Concat 0
first_scan F v stage.Count = scan.Word (word.Edges (most_edges F)) 0
first_scan F v (stage.Edges zero) = scan.Word word.Tree 0
first_scan F v (stage.Edges (suc edges)) = edge_scan F
first_scan F v (stage.Body zero zero) = scan.Word word.End 0
first_scan F v (stage.Body zero (suc nodes)) = scan.Node v F
first_scan F v (stage.Body (suc cuts) nodes) = scan.Word word.Cut 0
first_scan F v stage.Done = scan.Ended

-- something can stand there: the field has a number, there is a vertex that a split may be on, and a node is due in a
-- text that the form has
abbrev pub IsOpen : Scan → Type 0
IsOpen (scan.Due f) = least_of f < limit_of f
IsOpen (scan.On F) = HasVertices F
IsOpen (scan.Node v F) = IsVersionOf F v × HasVertices F
IsOpen s = Unit {0}

-- one of two words is due
abbrev pub IsFork : Scan → Type 0
IsFork scan.Version = Unit {0}
IsFork scan.Status = Unit {0}
IsFork scan.Kind = Unit {0}
IsFork (scan.Node v F) = Unit {0}
IsFork (scan.On F) = Unit {0}
IsFork s = ⊥
