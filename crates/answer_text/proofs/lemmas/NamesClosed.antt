-- What the end of a line makes of the name of an edge or of a vertex.
use Rattle.std.proofs.Common.{ℕ, ◌≡◌, ◌+◌, ◌-◌, ℤ, Bool, List, [], refl, sym, ap, subst, ◌∙◌, arith, Option, Some}
use Rattle.std.specs.Prelude.{FitsSigned}
use Rattle.std.specs.Int.{w64}
use Rattle.answer_text.specs.declared.label.EdgeLabel.{EdgeLabel}
use Rattle.answer_text.specs.declared.label.EdgeLabel.TheVariants as edge
use Rattle.answer_text.specs.declared.label.VertexLabel.{VertexLabel}
use Rattle.answer_text.specs.declared.label.VertexLabel.TheVariants as vertex
use Rattle.hanan_grid.specs.declared.name.EdgeName.{EdgeName}
use Rattle.answer_text.specs.declared.head.AnswerHead.{AnswerHead}
use Rattle.answer_text.specs.declared.event.Event.{Event}
use Rattle.answer_text.specs.declared.event.Event.TheVariants as event
use Rattle.answer_text.specs.AnswerLine.{Line}
use Rattle.answer_text.specs.LineKinds as line
use Rattle.answer_text.specs.declared.line.Stage.{Stage}
use Rattle.answer_text.specs.declared.line.Stage.TheVariants as stage
use Rattle.answer_text.specs.declared.scan.Kept.{Kept}
use Rattle.answer_text.specs.declared.scan.Field.{Field}
use Rattle.answer_text.specs.declared.scan.Field.TheVariants as field
use Rattle.answer_text.specs.declared.scan.Corner.{Corner}
use Rattle.answer_text.specs.declared.scan.Corner.TheVariants as corner
use Rattle.answer_text.specs.declared.scan.Scan.TheVariants as scan
use Rattle.answer_text.specs.declared.split.SplitName.{SplitName}
use Rattle.answer_text.specs.declared.split.SplitName.TheVariants as name
use Rattle.answer_text.specs.declared.version.Version.{Version}
use Rattle.answer_text.specs.declared.version.Version.TheVariants as version
use Rattle.answer_text.specs.Spelling.{FitsName}
use Rattle.answer_text.specs.Lines.{split_line, step}
use Rattle.answer_text.specs.LineFits.{version_with}
use Rattle.answer_text.specs.Events.{head_with, line_told, event_at}
use Rattle.answer_text.specs.Given.{given}
use Rattle.answer_text.specs.Scanning.{IsInField, signed, name_line, BehindNumber, BehindCoordinate, Left, IsNoLineLeft, Closes, MakesLine}
use Rattle.answer_text.proofs.lemmas.ScanNumbers.{over_end}
use Rattle.answer_text.proofs.lemmas.Steps.{step-split_line}
use Rattle.answer_text.proofs.lemmas.ScanClose.{closes_number}

-- what is kept with a line of an edge or a vertex makes the line
pub closes_by : (k k' : Kept) (f : Field) (v : ℕ) (h : AnswerHead) (told : Option Event) (l : Line) (w : EdgeName) → IsInField f v → BehindNumber k f v [] l → FitsName w
    → MakesLine (record k { name = w }) l k' told → Closes k (scan.Number f v) h k' h told
closes_by k k' f v h told l w inside behind fits makes = grind (arith, closes_number)

-- the line of an edge of the network
pub makes-edge : (k : Kept) (e : EdgeLabel) (edges left : ℕ) → k.stage ≡ stage.Edges edges → left ≡ edges - 1
    → MakesLine k (name_line k.version k.stage e) (record k { stage = stage.Edges left }) (Some (event.Edge e))
makes-edge k e edges left is less = grind arith

-- the line of a split: two parts are due behind it
split_due : (k : Kept) (v : Version) (on : SplitName) (cuts nodes : ℕ) (s' : Stage) → k.stage ≡ stage.Body cuts nodes → step k.stage (split_line v on) ≡ Some s' → stage.Body cuts (nodes + 1) ≡ s'
split_due k v on cuts nodes s' is e = grind (arith, step-split_line)

-- it tells nothing of the head or the version, and its event is the split
split_event : (v : Version) (on : SplitName) (h : AnswerHead) (n : ℕ) (members : List Bool) → event_at n (line_told h (split_line v on)) ≡ given n (Some (event.Split on)) members
split_event v on h n members = grind arith

split_head : (v : Version) (on : SplitName) (h : AnswerHead) → h ≡ head_with h (split_line v on)
split_head v on h = grind arith

split_version : (w v : Version) (on : SplitName) → w ≡ version_with w (split_line v on)
split_version w v on = grind arith

-- the line of a split on an edge or on a vertex
makes_split : (k : Kept) (on : SplitName) (cuts nodes : ℕ) → k.stage ≡ stage.Body cuts nodes
    → MakesLine k (split_line k.version on) (record k { stage = stage.Body cuts (nodes + 1) }) (Some (event.Split on))
makes_split k on cuts nodes is = search (split_due, split_version, split_head, split_event)

pub makes-split : (k : Kept) (e : EdgeLabel) (cuts nodes : ℕ) → k.stage ≡ stage.Body cuts nodes
    → MakesLine k (name_line k.version k.stage e) (record k { stage = stage.Body cuts (nodes + 1) }) (Some (event.Split (name.Edge e)))
makes-split k e cuts nodes is = grind (arith, makes_split k (name.Edge e) cuts nodes is)

pub makes-vertex : (k : Kept) (p : VertexLabel) (cuts nodes : ℕ) → k.stage ≡ stage.Body cuts nodes
    → MakesLine k (line.SplitVertex p) (record k { stage = stage.Body cuts (nodes + 1) }) (Some (event.Split (name.Vertex p)))
makes-vertex k p cuts nodes is = grind arith

-- nor a vertex
pub no_line-number : (k : Kept) (f : Field) (last v : ℕ) → f ≡ field.VertexNumber last → ((p : VertexLabel) (s' : Stage) → step k.stage (line.SplitVertex p) ≡ Some s' → ⊥) → IsInField f v
    → IsNoLineLeft k (scan.Number f v)
no_line-number k f last v is none inside l s' left due =
    let there : IsInField (field.VertexNumber last) v = subst (λ g. IsInField g v) is inside in
    let behind = over_end k (field.VertexNumber last) v l there (subst (λ g. Left k (scan.Number g v) [] l) is left) in
    none (vertex.Number v) s' (ap (step k.stage) (sym behind.1) ∙ due)

pub closes-vertex_number : (k k' : Kept) (h : AnswerHead) (f : Field) (last v x : ℕ) (told : Option Event) → f ≡ field.VertexNumber last → x ≡ v → MakesLine k (line.SplitVertex (vertex.Number x)) k' told
    → IsInField f v → FitsName k.name → Closes k (scan.Number f v) h k' h told
closes-vertex_number k k' h f last v x told is same makes inside name =
    let there : IsInField (field.VertexNumber last) v = subst (λ g. IsInField g v) is inside in
    subst (λ g. Closes k (scan.Number g v) h k' h told) (sym is)
    (closes_by k k' (field.VertexNumber last) v h told (line.SplitVertex (vertex.Number x)) k.name there (refl, ap (λ n. line.SplitVertex (vertex.Number n)) same) name makes)

-- the ends of an edge, of which the last coordinate was read
pub closes-ends : (k k' : Kept) (h : AnswerHead) (minus : Bool) (v : ℕ) (z z' : ℤ) (told : Option Event) → z' ≡ z → z ≡ signed minus v → FitsSigned w64 z
    → MakesLine (record k { name = record k.name { y2 = z' } }) (name_line k.version k.stage (edge.Ends (record k.name { y2 = z' }))) k' told
    → IsInField (field.Coordinate corner.Y2 minus) v → FitsName k.name → Closes k (scan.Number (field.Coordinate corner.Y2 minus) v) h k' h told
closes-ends k k' h minus v z z' told cast value fits makes inside name =
    let e : EdgeName = record k.name { y2 = z' } in
    let e_fits : FitsName e = record { x1 = name.x1; y1 = name.y1; x2 = name.x2; y2 = subst (FitsSigned w64) (sym cast) fits } in
    closes_by k k' (field.Coordinate corner.Y2 minus) v h told (name_line k.version k.stage (edge.Ends e)) e inside
    (record { name = e; fits = e_fits; same = (refl, refl, refl, cast ∙ value); text = refl; line = refl }) e_fits makes

-- the point of a vertex, of which the last coordinate was read
pub closes-point : (k k' : Kept) (h : AnswerHead) (minus : Bool) (v : ℕ) (x z z' : ℤ) (told : Option Event) → x ≡ k.name.x1 → z' ≡ z → z ≡ signed minus v → FitsSigned w64 z
    → MakesLine (record k { name = record k.name { y1 = z' } }) (line.SplitVertex (vertex.At (record { x = x; y = z' }))) k' told
    → IsInField (field.Coordinate corner.Y minus) v → FitsName k.name → Closes k (scan.Number (field.Coordinate corner.Y minus) v) h k' h told
closes-point k k' h minus v x z z' told x_is cast value fits makes inside name =
    let e : EdgeName = record k.name { y1 = z' } in
    let e_fits : FitsName e = record { x1 = name.x1; y1 = subst (FitsSigned w64) (sym cast) fits; x2 = name.x2; y2 = name.y2 } in
    closes_by k k' (field.Coordinate corner.Y minus) v h told (line.SplitVertex (vertex.At (record { x = x; y = z' }))) e inside
    (record { name = e; fits = e_fits; same = (refl, cast ∙ value); text = refl; line = λ i. line.SplitVertex (vertex.At (record { x = x_is i; y = z' })) }) e_fits makes

inner_corner : (k : Kept) (c : Corner) (z : ℤ) (l : Line) → (c ≡ corner.Y2 → ⊥) → (c ≡ corner.Y → ⊥) → BehindCoordinate k c z [] l → ⊥
inner_corner k c z l inner inner_too h = grind arith

pub no_line-corner : (k : Kept) (c : Corner) (minus : Bool) (v : ℕ) → (c ≡ corner.Y2 → ⊥) → (c ≡ corner.Y → ⊥) → IsInField (field.Coordinate c minus) v → IsNoLineLeft k (scan.Number (field.Coordinate c minus) v)
no_line-corner k c minus v inner inner_too inside l s' left due = inner_corner k c (signed minus v) l inner inner_too (over_end k (field.Coordinate c minus) v l inside left)

-- a vertex where no node is due
vertex_line : (k : Kept) (z : ℤ) (l : Line) → BehindCoordinate k corner.Y z [] l → (p : VertexLabel) × (l ≡ line.SplitVertex p)
vertex_line k z l h = (vertex.At (record { x = h.name.x1; y = h.name.y1 }), h.line)

pub no_line-vertex : (k : Kept) (c : Corner) (minus : Bool) (v : ℕ) → c ≡ corner.Y → ((p : VertexLabel) (s' : Stage) → step k.stage (line.SplitVertex p) ≡ Some s' → ⊥)
    → IsInField (field.Coordinate c minus) v → IsNoLineLeft k (scan.Number (field.Coordinate c minus) v)
no_line-vertex k c minus v is none inside l s' left due =
    let behind = over_end k (field.Coordinate c minus) v l inside left in
    let on = vertex_line k (signed minus v) l (subst (λ d. BehindCoordinate k d (signed minus v) [] l) is behind) in
    none on.0 s' (ap (step k.stage) (sym on.1) ∙ due)
