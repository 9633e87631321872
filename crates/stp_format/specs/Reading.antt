-- What bytes come to as an STP file: a value, or their first fault.
use Rattle.std.specs.Prelude.{ℕ, ◌≡◌, ◌+◌, ◌==◌, ◌||◌, Bool, false, if◌then◌else◌, List, [], ◌∷◌, codes, count_by, Result, Ok, Err}
use Rattle.stp_format.specs.declared.fault.StpFault.{StpFault}
use Rattle.stp_format.specs.declared.fault.StpFault.TheVariants.{NoMagic, BadLine, LeftOut, Memory}
use Rattle.stp_format.specs.Lines.{ToldLine, words_of, lines_of, told_lines, is_keyword}
use Rattle.stp_format.specs.Value.{StpValue}
use Rattle.stp_format.specs.Sections.{◌>>=◌, no_sections, Reading, outside, in_comment, in_graph, in_terminals, in_coordinates, ended, outer_line, graph_line, terminals_line, coordinates_line}

-- a keyword of STP that this profile leaves out, in the section that it stands in
abbrev pub is_left_out : Reading → List ℕ → Bool
is_left_out (in_graph s g) word = is_keyword (codes "Arcs") word || is_keyword (codes "A") word
is_left_out (in_terminals s nodes t) word =
    is_keyword (codes "Root") word || (is_keyword (codes "RootP") word || is_keyword (codes "TP") word)
is_left_out (in_coordinates s nodes points) word = is_keyword (codes "D") word || is_keyword (codes "DDD") word
is_left_out _ word = false

-- a line of what a section holds
abbrev pub held_line : Reading → ToldLine → Result Reading StpFault
held_line (outside s) line = outer_line s line
held_line (in_comment s) line = Ok (if is_keyword (codes "END") line.keyword then outside s else in_comment s)
held_line (in_graph s g) line = graph_line s g line
held_line (in_terminals s nodes t) line = terminals_line s nodes t line
held_line (in_coordinates s nodes points) line = coordinates_line s nodes points line
held_line (ended v) line = Ok (ended v)

-- One line: where it leads, or its first fault.
abbrev pub next_line : Reading → ToldLine → Result Reading StpFault
next_line r line = if is_left_out r line.keyword then Err (LeftOut line.number) else held_line r line

-- All lines, up to the first fault.
abbrev pub all_lines : Reading → List ToldLine → Result Reading StpFault
all_lines r [] = Ok r
all_lines r (line ∷ lines) = next_line r line >>= (λ r'. all_lines r' lines)

-- The end of the text, which has a number as a line: a file has ended before.
abbrev pub end_of_text : ℕ → Reading → Result StpValue StpFault
end_of_text n (ended v) = Ok v
end_of_text n _ = Err (BadLine n)

-- The first line begins with the format's number.
abbrev pub is_magic : List (List ℕ) → Bool
is_magic [] = false
is_magic (word ∷ words) = is_keyword (codes "33D32945") word

-- What lines come to, and the number of the end as a line.
abbrev pub value_of_lines : ℕ → List (List ℕ) → Result StpValue StpFault
value_of_lines end [] = Err NoMagic
value_of_lines end (first ∷ lines) =
    if is_magic (words_of first)
    then all_lines (outside no_sections) (told_lines 2 lines) >>= end_of_text end
    else Err NoMagic

-- What bytes come to: the value that they spell, or their first fault. A text without an end has its fault in the
-- line counted as one more than its line feeds.
abbrev pub stp_of : List ℕ → Result StpValue StpFault
stp_of bytes = value_of_lines (count_by (λ b. b == 10) bytes + 1) (lines_of bytes)

-- A fault of what is due; want of memory has no cause in it.
abbrev pub IsFaultOf : {X : Type 0} → StpFault → Result X StpFault → Type 0
IsFaultOf (Memory e) due = Unit {0}
IsFaultOf f due = due ≡ Err f

-- What a reader answered leads to what is due, unless memory ran out.
abbrev pub Tells : {X Y : Type 0} → (X → Result Y StpFault) → Result X StpFault → Result Y StpFault → Type 0
Tells next (Ok x) due = due ≡ next x
Tells next (Err f) due = IsFaultOf f due

-- The same where a value is due, which is seen by view.
abbrev pub Gives : {X Y : Type 0} → (X → Y) → Result X StpFault → Result Y StpFault → Type 0
Gives view result due = Tells (λ x. Ok (view x)) result due
