-- The line that tells a verdict, and the status that the tool ends with.
use Rattle.std.specs.Prelude.{ℕ, ◌+◌, Bool, List, ◌++◌, codes, decimal}
use Rattle.text_in.specs.Texts.{line_text as about_line}
use Rattle.answer_text.specs.Text.{status_word}
use Rattle.tree_judge.specs.declared.cause.Cause.{Cause}
use Rattle.tree_judge.specs.declared.cause.Cause.TheVariants.{NotAnswer, OffGrid, OffGridVertex, EdgeOrder, NotJoined, WrongLength, Decided, DecidedVertex, TooDeep, RootInCut, IdleCut, Overload, WrongBound, WrongStatus}
use Rattle.cert_check.specs.declared.verdict.Ruling.{Ruling}
use Rattle.cert_check.specs.declared.verdict.Ruling.TheVariants.{Accepted, Refused}
use Rattle.tool_frame.specs.declared.status.AnswerStatus.{AnswerStatus}
use Rattle.tool_frame.specs.declared.status.AnswerStatus.TheVariants as ends
use Rattle.tool_frame.specs.Ends.{Print}
use Rattle.verdict_line.specs.declared.line.VerdictLine.{VerdictLine}
use Rattle.verdict_line.specs.declared.counting.Counting.{Counting}
use Rattle.verdict_line.specs.declared.counting.Counting.TheVariants.{FromZero, FromOne}

-- what is told of an edge or a vertex, by the number that it has when they count from 0
abbrev pub counted : Counting → ℕ → ℕ
counted FromZero number = number
counted FromOne number = number + 1

-- what is said of a point that isn't joined
abbrev pub about_point : ℕ → List ℕ
about_point point = codes "point " ++ decimal point ++ codes " is not joined"

-- what is said of a number that the answer tells wrongly
abbrev pub about_number : List ℕ → ℕ → ℕ → List ℕ
about_number name printed found = name ++ codes " says " ++ decimal printed ++ codes ", found " ++ decimal found

-- what is said of a line that decides an edge which isn't undecided there
abbrev pub about_decided : ℕ → ℕ → List ℕ
about_decided line edge = about_line line (codes " decides edge ") ++ decimal edge ++ codes " again"

-- what is said of a line of a split on a vertex that isn't undecided there
abbrev pub about_decided_vertex : ℕ → ℕ → List ℕ
about_decided_vertex line vertex =
    about_line line (codes " splits on vertex ") ++ decimal vertex ++ codes ", which is decided"

-- what is said of a line whose cut loads an edge above its room
abbrev pub about_load : ℕ → ℕ → ℕ → ℕ → List ℕ
about_load line edge load room = about_line line (codes " loads edge ") ++ decimal edge
    ++ codes " with " ++ decimal load ++ codes " of " ++ decimal room

-- why an answer is refused; terminals count from 0, and lines from 1
abbrev pub cause_text_by : Counting → Cause → List ℕ
cause_text_by counting (NotAnswer line) = about_line line (codes " is not in the format")
cause_text_by counting (OffGrid line) = about_line line (codes " names no grid edge")
cause_text_by counting (OffGridVertex line) = about_line line (codes " names no grid vertex")
cause_text_by counting (EdgeOrder line) = about_line line (codes " is out of order")
cause_text_by counting (NotJoined point) = about_point point
cause_text_by counting (WrongLength printed found) = about_number (codes "length") printed found
cause_text_by counting (Decided line edge) = about_decided line (counted counting edge)
cause_text_by counting (DecidedVertex line vertex) = about_decided_vertex line (counted counting vertex)
cause_text_by counting (TooDeep line) = about_line line (codes " is split 256")
cause_text_by counting (RootInCut line) = about_line line (codes " has the root in its cut")
cause_text_by counting (IdleCut line) = about_line line (codes " cuts off no required vertex")
cause_text_by counting (Overload line edge load room) = about_load line (counted counting edge) load room
cause_text_by counting (WrongBound printed found) = about_number (codes "bound") printed found
cause_text_by counting WrongStatus = codes "status"

-- what is said of an answer that is accepted
abbrev pub accepted_line : ℕ → ℕ → Bool → List ℕ
accepted_line length bound optimal = codes "accepted length " ++ decimal length ++ codes " bound " ++ decimal bound
    ++ codes " " ++ status_word optimal ++ codes "\n"

-- what is said of an answer that is refused: without the line feed, and as a line
abbrev pub refusal_by : Counting → Cause → List ℕ
refusal_by counting cause = codes "refused " ++ cause_text_by counting cause

abbrev pub refused_line_by : Counting → Cause → List ℕ
refused_line_by counting cause = refusal_by counting cause ++ codes "\n"

-- .. of an answer for points
abbrev pub refusal : Cause → List ℕ
refusal = refusal_by FromZero

-- the text of a line, with edges and vertices so counted, and the status that the tool ends with
abbrev pub line_text_by : Counting → Ruling → List ℕ
line_text_by counting (Accepted length bound optimal) = accepted_line length bound optimal
line_text_by counting (Refused cause) = refused_line_by counting cause

abbrev pub ruling_status : Ruling → AnswerStatus
ruling_status (Accepted length bound optimal) = ends.Done
ruling_status (Refused cause) = ends.Refused

abbrev pub line_text : VerdictLine → List ℕ
line_text line = line_text_by line.counting line.ruling

abbrev pub line_status : VerdictLine → AnswerStatus
line_status line = ruling_status line.ruling

-- what is printed of a verdict, with edges and vertices so counted
abbrev pub line_print : Counting → Ruling → Print
line_print counting ruling = record { text = line_text_by counting ruling; status = ruling_status ruling }
