-- What is still due of a line: the bytes that may follow those that were read of it, and the line that they make.
use Rattle.std.specs.Prelude.{ℕ, suc, zero, ◌≡◌, ◌<◌, ◌≤◌, ◌+◌, ◌*◌, ◌/◌, ◌^◌, ◌⊎◌, ℤ, pos, negsuc, Bool, true, false}
use Rattle.std.specs.Prelude.{List, [], ◌∷◌, ◌++◌, length, drop, codes, Option, Some}
use Rattle.std.specs.Fmt.{decimal, signed_decimal}
use Rattle.text_in.specs.Words.{Lacks}
use Rattle.net_graph.specs.Flags.{has}
use Rattle.hanan_grid.specs.declared.name.EdgeName.{EdgeName}
use Rattle.answer_text.specs.AnswerLine.{Line}
use Rattle.answer_text.specs.LineKinds as line
use Rattle.answer_text.specs.declared.line.Stage.{Stage}
use Rattle.answer_text.specs.declared.line.Stage.TheVariants as stage
use Rattle.answer_text.specs.declared.scan.Kept.{Kept}
use Rattle.answer_text.specs.declared.scan.Scan.{Scan}
use Rattle.answer_text.specs.declared.scan.Scan.TheVariants as scan
use Rattle.answer_text.specs.declared.scan.Word.{Word}
use Rattle.answer_text.specs.declared.scan.Word.TheVariants as word
use Rattle.answer_text.specs.declared.scan.Field.{Field}
use Rattle.answer_text.specs.declared.scan.Field.TheVariants as field
use Rattle.answer_text.specs.declared.scan.Corner.{Corner}
use Rattle.answer_text.specs.declared.scan.Corner.TheVariants as corner
use Rattle.answer_text.specs.declared.label.EdgeLabel.{EdgeLabel}
use Rattle.answer_text.specs.declared.label.EdgeLabel.TheVariants as edge
use Rattle.answer_text.specs.declared.label.VertexLabel.TheVariants as vertex
use Rattle.answer_text.specs.declared.split.SplitName.TheVariants as name
use Rattle.answer_text.specs.declared.version.Version.{Version}
use Rattle.answer_text.specs.declared.version.Version.TheVariants as version
use Rattle.answer_text.specs.Words.{set_text}
use Rattle.answer_text.specs.Spelling.{FitsName}
use Rattle.answer_text.specs.Lines.{split_line, step}
use Rattle.answer_text.specs.LineFits.{version_with}
use Rattle.answer_text.specs.Events.{head_with, line_told, event_at}
use Rattle.answer_text.specs.Given.{given}
use Rattle.answer_text.specs.declared.head.AnswerHead.{AnswerHead}
use Rattle.answer_text.specs.declared.event.Event.{Event}
pub use Rattle.answer_text.specs.ScanStates.{word_bytes, edge_scan, vertex_scan, behind_word, closed_line, least_of}
pub use Rattle.answer_text.specs.ScanStates.{limit_of, IsInField, first_scan, IsOpen, IsFork}

-- a number with its sign
abbrev pub signed : Bool → ℕ → ℤ
signed false n = pos n
signed true zero = pos 0
signed true (suc n) = negsuc n

-- the line of an edge's label in a text of a version, where such a line is due
abbrev pub name_line : Version → Stage → EdgeLabel → Line
name_line v (stage.Edges edges) e = line.Edge e
name_line v s e = split_line v (name.Edge e)

-- the line that a name's coordinates make: a vertex has the first two of them
abbrev pub corner_line : Kept → Corner → EdgeName → Line
corner_line k corner.X e = line.SplitVertex (vertex.At (record { x = e.x1; y = e.y1 }))
corner_line k corner.Y e = line.SplitVertex (vertex.At (record { x = e.x1; y = e.y1 }))
corner_line k c e = name_line k.version k.stage (edge.Ends e)

-- no other coordinate follows
abbrev pub IsLast : Corner → Type 0
IsLast corner.Y2 = Unit {0}
IsLast corner.Y = Unit {0}
IsLast c = ⊥

-- what stands behind the first coordinate of a name, and behind the first two
abbrev pub behind_x1 : EdgeName → List ℕ
behind_x1 e = signed_decimal e.y1 ++ 32 ∷ (signed_decimal e.x2 ++ 32 ∷ signed_decimal e.y2)

abbrev pub behind_y1 : EdgeName → List ℕ
behind_y1 e = signed_decimal e.x2 ++ 32 ∷ signed_decimal e.y2

-- the name agrees with what was read of it: this coordinate and those before it
abbrev pub IsNameWith : EdgeName → Corner → ℤ → EdgeName → Type 0
IsNameWith kept corner.X1 z e = e.x1 ≡ z
IsNameWith kept corner.Y1 z e = (e.x1 ≡ kept.x1) × (e.y1 ≡ z)
IsNameWith kept corner.X2 z e = (e.x1 ≡ kept.x1) × (e.y1 ≡ kept.y1) × (e.x2 ≡ z)
IsNameWith kept corner.Y2 z e = (e.x1 ≡ kept.x1) × (e.y1 ≡ kept.y1) × (e.x2 ≡ kept.x2) × (e.y2 ≡ z)
IsNameWith kept corner.X z e = e.x1 ≡ z
IsNameWith kept corner.Y z e = (e.x1 ≡ kept.x1) × (e.y1 ≡ z)

-- what stands behind a coordinate
abbrev pub behind_corner : Corner → EdgeName → List ℕ
behind_corner corner.X1 e = 32 ∷ behind_x1 e
behind_corner corner.Y1 e = 32 ∷ behind_y1 e
behind_corner corner.X2 e = 32 ∷ signed_decimal e.y2
behind_corner corner.Y2 e = []
behind_corner corner.X e = 32 ∷ signed_decimal e.y1
behind_corner corner.Y e = []

pub record BehindCoordinate (k : Kept) (c : Corner) (z : ℤ) (rest : List ℕ) (l : Line) : Type 0 where
  pub name : EdgeName
  pub fits : FitsName name
  pub same : IsNameWith k.name c z name
  pub text : rest ≡ behind_corner c name
  pub line : l ≡ corner_line k c name

-- behind the weight of a cut stand the digits of a set
pub record BehindWeight (k : Kept) (n : ℕ) (rest : List ℕ) (l : Line) : Type 0 where
  pub set : List Bool
  pub size : length set ≡ length k.members
  pub text : rest ≡ 32 ∷ set_text set
  pub line : l ≡ line.Cut (record { weight = n; members = set })

-- what stands behind a number, and the line that they make
abbrev pub BehindNumber : Kept → Field → ℕ → List ℕ → Line → Type 0
BehindNumber k field.Length n rest l = (rest ≡ []) × (l ≡ line.Length n)
BehindNumber k field.Bound n rest l = (rest ≡ []) × (l ≡ line.Bound n)
BehindNumber k field.Openings n rest l = (rest ≡ []) × (l ≡ line.Openings n)
BehindNumber k field.LastOpenings n rest l = (rest ≡ []) × (l ≡ line.LastOpenings n)
BehindNumber k (field.Total least) n rest l = (rest ≡ []) × (l ≡ line.Concat (record { least = least; total = n }))
BehindNumber k (field.Count most) n rest l = (rest ≡ []) × (l ≡ line.Count n)
BehindNumber k (field.EdgeNumber last) n rest l = (rest ≡ []) × (l ≡ name_line k.version k.stage (edge.Number n))
BehindNumber k (field.VertexNumber last) n rest l = (rest ≡ []) × (l ≡ line.SplitVertex (vertex.Number n))
BehindNumber k field.Leaf n rest l = (rest ≡ []) × (l ≡ line.Leaf n)
BehindNumber k field.Weight n rest l = BehindWeight k n rest l
BehindNumber k (field.Coordinate c minus) n rest l = BehindCoordinate k c (signed minus n) rest l

-- a number whose digits are these and those before them, and what stands behind it
pub record NumberLeft (k : Kept) (f : Field) (digits rest : List ℕ) (l : Line) : Type 0 where
  pub number : ℕ
  pub more : List ℕ
  pub behind : List ℕ
  pub parts : rest ≡ more ++ behind
  pub spelled : decimal number ≡ digits ++ more
  pub inside : IsInField f number
  pub follows : BehindNumber k f number behind l

-- the digits of a set from a place on, where the flags before it are those that were read
pub record SetLeft (k : Kept) (place : ℕ) (rest : List ℕ) (l : Line) : Type 0 where
  pub set : List Bool
  pub size : length set ≡ length k.members
  pub same : (v : ℕ) → v < 4 * place → has set v ≡ has k.members v
  pub text : rest ≡ drop place (set_text set)
  pub line : l ≡ line.Cut (record { weight = k.weight; members = set })
  pub weight : (0 < k.weight) × (k.weight < 2 ^ 64)

-- what is due where neither a word nor one of two is
abbrev pub ValueLeft : Kept → Scan → List ℕ → Line → Type 0
ValueLeft k (scan.Due f) rest l = NumberLeft k f [] rest l
ValueLeft k (scan.Coordinate c) rest l =
    NumberLeft k (field.Coordinate c false) [] rest l
    ⊎ ((digits : List ℕ) × (rest ≡ 45 ∷ digits) × NumberLeft k (field.Coordinate c true) [] digits l)
ValueLeft k (scan.Number f n) rest l = NumberLeft k f (decimal n) rest l
ValueLeft k (scan.Set place) rest l = SetLeft k place rest l
ValueLeft k (scan.LineEnd c) rest l = (rest ≡ []) × (l ≡ closed_line c)
ValueLeft k s rest l = ⊥

-- a word from a place on, and what is due behind it, where that is no word
abbrev pub WordLeft : Kept → Word → ℕ → List ℕ → Line → Type 0
WordLeft k w place rest l =
    (behind : List ℕ) × (rest ≡ drop place (word_bytes w) ++ behind) × ValueLeft k (behind_word w) behind l

-- one of two words, or one of two versions of a text on a grid
abbrev pub ForkLeft : Kept → Scan → List ℕ → Line → Type 0
ForkLeft k scan.Version rest l =
    ((rest ≡ codes "1") × (l ≡ line.Title version.One)) ⊎ ((rest ≡ codes "2") × (l ≡ line.Title version.Two))
ForkLeft k scan.Status rest l = WordLeft k word.Optimal 0 rest l ⊎ WordLeft k word.Stopped 0 rest l
ForkLeft k scan.Kind rest l = WordLeft k word.Least 0 rest l ⊎ WordLeft k word.Spent 0 rest l
ForkLeft k (scan.On F) rest l = WordLeft k (word.Edge F) 0 rest l ⊎ WordLeft k (word.Vertex F) 0 rest l
ForkLeft k s rest l = ValueLeft k s rest l

-- a word from a place on, and what is due behind it, which may be one of two words
abbrev pub WordsLeft : Kept → Word → ℕ → List ℕ → Line → Type 0
WordsLeft k w place rest l =
    (behind : List ℕ) × (rest ≡ drop place (word_bytes w) ++ behind) × ForkLeft k (behind_word w) behind l

-- With these bytes behind those that were read, the line is l.
abbrev pub Left : Kept → Scan → List ℕ → Line → Type 0
Left k (scan.Word w place) rest l = WordsLeft k w place rest l
Left k (scan.Node v F) rest l = WordsLeft k (word.Split v F) 0 rest l ⊎ WordsLeft k word.Leaf 0 rest l
Left k s rest l = ForkLeft k s rest l

-- More of the line is due, and what is kept agrees with that: a word's byte is due and something behind it, a number is
-- within its field, the weight of a cut fits, no later flag is set.
abbrev pub IsUnderway : Kept → Scan → Type 0
IsUnderway k (scan.Word w place) = (place < length (word_bytes w)) × IsOpen (behind_word w)
IsUnderway k (scan.Number f n) = IsInField f n
IsUnderway k (scan.Set place) = (0 < k.weight) × (k.weight < 2 ^ 64) × (place ≤ (length k.members + 3) / 4)
    × ((v : ℕ) → 4 * place ≤ v → has k.members v ≡ false)
IsUnderway k scan.Ended = ⊥
IsUnderway k scan.Refused = ⊥
IsUnderway k s = IsOpen s

-- that, or the text is at its end
abbrev pub IsSound : Kept → Scan → Type 0
IsSound k scan.Ended = Unit {0}
IsSound k s = IsUnderway k s

-- a byte leads from one state to another: what may follow the byte is what may follow the other
pub record LeadsTo (k : Kept) (s : Scan) (byte : ℕ) (k' : Kept) (s' : Scan) : Type 0 where
  pub on : (rest : List ℕ) (l : Line) → Left k s (byte ∷ rest) l → Left k' s' rest l
  pub back : (rest : List ℕ) (l : Line) → Left k' s' rest l → Left k s (byte ∷ rest) l

-- no line goes on with the byte
abbrev pub IsDead : Kept → Scan → ℕ → Type 0
IsDead k s byte = (rest : List ℕ) (l : Line) → Left k s (byte ∷ rest) l → ⊥

-- where a state is kept to, a byte leads to the next, which is kept to as well, and nothing else of what is kept
-- changes
pub record IsNext (k : Kept) (s : Scan) (byte : ℕ) (k' : Kept) (s' : Scan) : Type 0 where
  pub leads : LeadsTo k s byte k' s'
  pub sound : IsUnderway k' s'
  pub name : FitsName k'.name
  pub stage : k'.stage ≡ k.stage
  pub version : k'.version ≡ k.version
  pub size : length k'.members ≡ length k.members

-- bytes lead from one state to another: what may follow them is what may follow the other
pub record LeadsAlong (k : Kept) (s : Scan) (bytes : List ℕ) (k' : Kept) (s' : Scan) : Type 0 where
  pub on : (rest : List ℕ) (l : Line) → Left k s (bytes ++ rest) l → Left k' s' rest l
  pub back : (rest : List ℕ) (l : Line) → Left k' s' rest l → Left k s (bytes ++ rest) l

-- where a state is kept to, bytes of which none ends the line lead to another, which is kept to as well, and nothing
-- else of what is kept changes
pub record IsRun (k : Kept) (s : Scan) (bytes : List ℕ) (k' : Kept) (s' : Scan) : Type 0 where
  pub leads : LeadsAlong k s bytes k' s'
  pub within : Lacks bytes 10
  pub sound : IsUnderway k' s'
  pub name : FitsName k'.name
  pub stage : k'.stage ≡ k.stage
  pub version : k'.version ≡ k.version
  pub size : length k'.members ≡ length k.members

-- The end of a line makes this line of what was read, and its event is the one that is told.
pub record Closes (k : Kept) (s : Scan) (h : AnswerHead) (k' : Kept) (h' : AnswerHead) (told : Option Event)
    : Type 0 where
  pub line : Line
  pub left : Left k s [] line
  pub stage : (s' : Stage) → step k.stage line ≡ Some s' → k'.stage ≡ s'
  pub version : k'.version ≡ version_with k.version line
  pub head : h' ≡ head_with h line
  pub event : (n : ℕ) → event_at n (line_told h' line) ≡ given n told k'.members
  pub members : k'.members ≡ k.members
  pub name : FitsName k'.name

-- This line, which is none of the head, makes the next state of what is kept, and its event is the one that is told.
pub record MakesLine (k : Kept) (l : Line) (k' : Kept) (told : Option Event) : Type 0 where
  pub stage : (s' : Stage) → step k.stage l ≡ Some s' → k'.stage ≡ s'
  pub version : k'.version ≡ version_with k.version l
  pub head : (h : AnswerHead) → h ≡ head_with h l
  pub event : (h : AnswerHead) (n : ℕ) → event_at n (line_told h l) ≡ given n told k'.members
  pub members : k'.members ≡ k.members
  pub name : k'.name ≡ k.name

-- what was read is no line that is due
abbrev pub IsNoLineLeft : Kept → Scan → Type 0
IsNoLineLeft k s = (l : Line) (s' : Stage) → Left k s [] l → step k.stage l ≡ Some s' → ⊥
