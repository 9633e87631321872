-- What the lines of an answer tell.
use Rattle.std.specs.Prelude.{ℕ, suc, Bool, List, [], ◌∷◌, ◌++◌, Option, Some, None}
use Rattle.net_graph.specs.declared.packing.Cut.{Cut}
use Rattle.answer_text.specs.declared.head.AnswerHead.{AnswerHead}
use Rattle.answer_text.specs.AnswerLine.{Line}
use Rattle.answer_text.specs.LineKinds as line
use Rattle.answer_text.specs.declared.event.Event.{Event}
use Rattle.answer_text.specs.declared.event.Event.TheVariants as event
use Rattle.answer_text.specs.declared.event.AnswerEvent.{AnswerEvent}
use Rattle.answer_text.specs.declared.split.SplitName.TheVariants as name
use Rattle.answer_text.specs.Value.{WrittenAnswer}
use Rattle.answer_text.specs.Lines.{answer_lines}
pub use Rattle.answer_text.specs.Notes.{no_head}

-- an event, and the members of its cut
abbrev pub Told : Type 0
Told = Event × Option (List Bool)

-- what is told of a cut
abbrev pub cut_told : Cut → Told
cut_told c = (event.Cut c.weight, Some c.members)

-- a head with what a line tells of it
abbrev pub head_with : AnswerHead → Line → AnswerHead
head_with h (line.Length n) = record h { length = n }
head_with h (line.Bound n) = record h { bound = n }
head_with h (line.Status optimal) = record h { optimal = optimal }
head_with h (line.Openings n) = record h { openings = n }
head_with h (line.LastOpenings n) = record h { openings = n }
head_with h (line.Concat c) = record h { concat = c }
head_with h l = h

-- what a line tells, where the head so far is h
abbrev pub line_told : AnswerHead → Line → Option Told
line_told h (line.LastOpenings n) = Some (event.Head h, None)
line_told h (line.Concat c) = Some (event.Head h, None)
line_told h (line.Count n) = Some (event.EdgeCount n, None)
line_told h (line.Edge e) = Some (event.Edge e, None)
line_told h line.Tree = Some (event.Tree, None)
line_told h (line.Split e) = Some (event.Split (name.Edge e), None)
line_told h (line.SplitEdge e) = Some (event.Split (name.Edge e), None)
line_told h (line.SplitVertex p) = Some (event.Split (name.Vertex p), None)
line_told h (line.Leaf n) = Some (event.Leaf n, None)
line_told h (line.Cut c) = Some (cut_told c)
line_told h line.End = Some (event.End, None)
line_told h l = None

-- the event of a line, if it is one
abbrev pub event_at : ℕ → Option Told → List AnswerEvent
event_at n None = []
event_at n (Some t) = record { line = n; event = t.0; members = t.1 } ∷ []

-- the events of lines from the line n on
abbrev pub events_from : AnswerHead → ℕ → List Line → List AnswerEvent
events_from h n [] = []
events_from h n (l ∷ ls) = event_at n (line_told (head_with h l) l) ++ events_from (head_with h l) (suc n) ls

-- the head that lines tell
abbrev pub head_from : AnswerHead → List Line → AnswerHead
head_from h [] = h
head_from h (l ∷ ls) = head_from (head_with h l) ls

-- The events of an answer are those of its lines: the head ends with line 6, or 5 in a graph, and each other event is
-- one line.
abbrev pub events_of : WrittenAnswer → List AnswerEvent
events_of a = events_from no_head 1 (answer_lines a)
