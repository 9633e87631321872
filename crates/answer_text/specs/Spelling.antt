-- Which bytes spell which answer of a form.
use Rattle.std.specs.Prelude.{ℕ, ◌≡◌, ◌<◌, ◌≤◌, ◌^◌, List, ◌++◌, length, All, FitsSigned}
use Rattle.std.specs.Int.{w64}
use Rattle.net_graph.specs.declared.packing.Cut.{Cut}
use Rattle.points_in.specs.declared.point.Point.{Point}
use Rattle.hanan_grid.specs.declared.name.EdgeName.{EdgeName}
use Rattle.answer_text.specs.declared.form.Form.{Form}
use Rattle.answer_text.specs.declared.form.Form.TheVariants as form
use Rattle.answer_text.specs.declared.head.AnswerHead.{AnswerHead}
use Rattle.answer_text.specs.declared.label.EdgeLabel.{EdgeLabel}
use Rattle.answer_text.specs.declared.label.EdgeLabel.TheVariants as edge
use Rattle.answer_text.specs.declared.label.VertexLabel.{VertexLabel}
use Rattle.answer_text.specs.declared.label.VertexLabel.TheVariants as vertex
use Rattle.answer_text.specs.declared.split.SplitName.{SplitName}
use Rattle.answer_text.specs.declared.split.SplitName.TheVariants as name
use Rattle.answer_text.specs.declared.version.Version.{Version}
use Rattle.answer_text.specs.Forms.{IsVersionOf, SaysKind, set_size}
use Rattle.answer_text.specs.Value.{WrittenAnswer}
use Rattle.answer_text.specs.Notes.{no_note}
use Rattle.cert_tree.specs.Tree.{Tree}
use Rattle.cert_tree.specs.Tree.Tree.{Leaf, Split}
use Rattle.answer_text.specs.Text.{answer_text}

-- the numbers of a head are within their widths
pub record FitsHead (h : AnswerHead) : Type 0 where
  pub length : h.length < 2 ^ 64
  pub bound : h.bound < 2 ^ 64
  pub openings : h.openings < 2 ^ 8
  pub total : h.concat.total < 2 ^ 128

-- the coordinates of a name are 64-bit numbers
pub record FitsName (e : EdgeName) : Type 0 where
  pub x1 : FitsSigned w64 e.x1
  pub y1 : FitsSigned w64 e.y1
  pub x2 : FitsSigned w64 e.x2
  pub y2 : FitsSigned w64 e.y2

-- the coordinates of a point are 64-bit numbers
pub record FitsPoint (p : Point) : Type 0 where
  pub x : FitsSigned w64 p.x
  pub y : FitsSigned w64 p.y

-- a number counts from 1 to the last, and 32 bits hold it
pub record FitsNumber (last n : ℕ) : Type 0 where
  pub first : 0 < n
  pub within : n ≤ last
  pub width : n < 2 ^ 32

-- on a grid an edge is named by its ends and a vertex by its point, and in a graph by the number of one of them
abbrev pub FitsEdge : Form → EdgeLabel → Type 0
FitsEdge (form.OnGrid V) (edge.Ends e) = FitsName e
FitsEdge (form.OnGrid V) (edge.Number n) = ⊥
FitsEdge (form.OfGraph E V) (edge.Ends e) = ⊥
FitsEdge (form.OfGraph E V) (edge.Number n) = FitsNumber E n

abbrev pub FitsVertex : Form → VertexLabel → Type 0
FitsVertex (form.OnGrid V) (vertex.At p) = FitsPoint p
FitsVertex (form.OnGrid V) (vertex.Number n) = ⊥
FitsVertex (form.OfGraph E V) (vertex.At p) = ⊥
FitsVertex (form.OfGraph E V) (vertex.Number n) = FitsNumber V n

-- what a split is on is named in the form's way, and version 1 has no splits on vertices
abbrev pub FitsSplit : Version → Form → SplitName → Type 0
FitsSplit v F (name.Edge e) = FitsEdge F e
FitsSplit v F (name.Vertex p) = SaysKind v × FitsVertex F p

-- the weight of a cut is a 64-bit number
abbrev pub FitsWeight : Cut → Type 0
FitsWeight c = c.weight < 2 ^ 64

-- a cut weighs at least 1, and its set is one of V vertices
pub record FitsCut (V : ℕ) (c : Cut) : Type 0 where
  pub some : 0 < c.weight
  pub weight : c.weight < 2 ^ 64
  pub members : length c.members ≡ V

-- the cuts of a leaf can be counted by 32 bits, and each of them fits
pub record FitsLeaf (V : ℕ) (cuts : List Cut) : Type 0 where
  pub count : length cuts < 2 ^ 32
  pub each : All (FitsCut V) cuts

-- every leaf and every split of a tree fits a text of this version and form
abbrev pub FitsTree : Version → Form → Tree SplitName → Type 0
FitsTree v F (Leaf cuts) = FitsLeaf (set_size F) cuts
FitsTree v F (Split on outside inside) = FitsSplit v F on × FitsTree v F outside × FitsTree v F inside

-- in a graph nothing is told of a concatenation
abbrev pub FitsNote : Form → AnswerHead → Type 0
FitsNote (form.OnGrid V) h = Unit {0}
FitsNote (form.OfGraph E V) h = h.concat ≡ no_note

-- every part of an answer fits a text of its version and form
pub record FitsAnswer (F : Form) (a : WrittenAnswer) : Type 0 where
  pub version : IsVersionOf F a.version
  pub head : FitsHead a.head
  pub note : FitsNote F a.head
  pub count : length a.edges < 2 ^ 32
  pub edges : All (FitsEdge F) a.edges
  pub tree : FitsTree a.version F a.tree

-- the bytes spell the answer
pub record SpellsAnswer (F : Form) (bytes : List ℕ) (a : WrittenAnswer) : Type 0 where
  pub fits : FitsAnswer F a
  pub spelled : bytes ≡ answer_text a

-- No spelling is a proper front of another, and bytes spell one answer at most.
abbrev pub OneReading : Type 0
OneReading = (F : Form) (a b p q : List ℕ) (x y : WrittenAnswer) →
    SpellsAnswer F a x → SpellsAnswer F b y → a ++ p ≡ b ++ q → (a ≡ b) × (x ≡ y)
