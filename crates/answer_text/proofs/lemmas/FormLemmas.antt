-- What is kept of a form while its lines are read.
use Rattle.std.proofs.Common.{suc, zero, ◌≡◌, ◌<◌, ◌≤◌, List, [], ◌∷◌, arith, refl, subst, Option, Some, None}
use Rattle.std.specs.Prelude.{All, ◌^◌, length, option_and_then}
use Rattle.answer_text.specs.declared.form.Form.{Form}
use Rattle.answer_text.specs.declared.form.Form.TheVariants as form
use Rattle.answer_text.specs.declared.label.EdgeLabel.{EdgeLabel}
use Rattle.answer_text.specs.declared.label.EdgeLabel.TheVariants as edge
use Rattle.answer_text.specs.declared.line.Stage.{Stage}
use Rattle.answer_text.specs.declared.line.Stage.TheVariants as stage
use Rattle.answer_text.specs.declared.version.Version.{Version}
use Rattle.answer_text.specs.AnswerLine.{Line}
use Rattle.answer_text.specs.Forms.{IsVersionOf, first_version, most_edges}
use Rattle.answer_text.specs.Lines.{step, run}
use Rattle.answer_text.specs.LineFits.{FitsLine, FitsLines, version_with, version_from}
use Rattle.answer_text.specs.Spelling.{FitsEdge}
use Rattle.std.proofs.lemmas.List.Elements.{All-head}

-- a text's count of edges is held by 32 bits
pub most_edges-few : (F : Form) → most_edges F < 2 ^ 32
most_edges-few F = grind arith

-- as many edges as are named can be counted
pub edges_counted : (F : Form) (edges : List EdgeLabel) → All (FitsEdge F) edges → length edges < 2 ^ 32 → length edges ≤ most_edges F
edges_counted (form.OnGrid V) edges fit few = omega arith
edges_counted (form.OfGraph (suc E) V) edges fit few = omega arith
edges_counted (form.OfGraph zero V) [] fit few = omega arith
edges_counted (form.OfGraph zero V) (edge.Ends e ∷ edges) fit few = absurd (All-head (FitsEdge (form.OfGraph zero V)) (edge.Ends e) edges fit)
edges_counted (form.OfGraph zero V) (edge.Number n ∷ edges) fit few =
    grind (arith, All-head (FitsEdge (form.OfGraph zero V)) (edge.Number n) edges fit)

-- no more edges are due than can be counted
abbrev pub HasRoom : Form → Stage → Type 0
HasRoom F (stage.Edges edges) = edges ≤ most_edges F
HasRoom F s = Unit {0}

-- and so do lines
room_steps : (w : Version) (F : Form) (ls : List Line) (due : Option Stage) (s s' : Stage) (l : Line) → due ≡ step s l → option_and_then (λ u. run u ls) due ≡ Some s' → FitsLine (version_with w l) F l
    → FitsLines (version_with w l) F ls → HasRoom F s → ((u : Stage) → run u ls ≡ Some s' → HasRoom F u → HasRoom F s') → HasRoom F s'
room_steps w F ls None s s' l is e f g room more = absurd cc
room_steps w F ls (Some u) s s' l is e f g room more = more u e (grind arith)

pub room_behind : (w : Version) (F : Form) (s s' : Stage) (ls : List Line) → run s ls ≡ Some s' → FitsLines w F ls → HasRoom F s → HasRoom F s'
room_behind w F s s' [] e f room = let is : s ≡ s' = cc in subst (HasRoom F) is room
room_behind w F s s' (l ∷ ls) e f room = room_steps w F ls (step s l) s s' l refl e f.0 f.1 room (λ u due here. room_behind (version_with w l) F u s' ls due f.1 here)

-- the version that lines of a form tell is one of its versions
version_kept : (w : Version) (F : Form) (l : Line) → FitsLine (version_with w l) F l → IsVersionOf F w → IsVersionOf F (version_with w l)
version_kept w F l f of = grind arith

pub version_behind : (w : Version) (F : Form) (ls : List Line) → FitsLines w F ls → IsVersionOf F w → IsVersionOf F (version_from w ls)
version_behind w F [] f of = of
version_behind w F (l ∷ ls) f of = version_behind (version_with w l) F ls f.1 (version_kept w F l f.0 of)

pub first_of : (F : Form) → IsVersionOf F (first_version F)
first_of F = grind arith
