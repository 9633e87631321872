-- What is left of a text, and what it comes to.
use Rattle.std.specs.Prelude.{ℕ, ◌≡◌, ◌+◌, ◌==◌, ◌++◌, Bool, true, false, if◌then◌else◌, List, [], ◌∷◌, length, Option, None, Some, Result, Ok, Err}
use Rattle.std.specs.Borrow.{Bor}
use Rattle.points_in.specs.declared.point.Point.{Point}
use Rattle.stp_format.specs.declared.edge.StpEdge.{StpEdge}
use Rattle.stp_format.specs.declared.fault.StpFault.{StpFault}
use Rattle.stp_format.specs.declared.fault.StpFault.TheVariants.{WrongCount}
use Rattle.stp_format.specs.declared.fault.StpSection.TheVariants as section
use Rattle.stp_format.specs.declared.section.Begins.{Begins}
use Rattle.stp_format.specs.declared.section.Begins.TheVariants.{Comment, Graph, Terminals, Coordinates, End}
use Rattle.stp_format.specs.declared.line.Line.{Line}
use Rattle.stp_format.specs.Lines.{ToldLine, words_of, lines_of, told_lines}
use Rattle.stp_format.specs.Value.{StpValue}
use Rattle.stp_format.specs.Sections.{◌>>=◌, Sections, Reading, outside, in_comment, in_graph, in_terminals, in_coordinates, ended, unsized, listing, uncounted, naming, file_of}
use Rattle.stp_format.specs.Reading.{all_lines, end_of_text, Tells}

-- Lines of a text, and how many were taken before them.
pub record LinesLeft : Type 0 where
  pub lines : List (List ℕ)
  pub taken : ℕ

-- the lines behind a line feed, and none behind the last line
abbrev pub lines_left : Option (Bor (List ℕ)) → List (List ℕ)
lines_left None = []
lines_left (Some bytes) = lines_of bytes.now

-- how many lines these bytes can be at most
abbrev pub bytes_left : Option (Bor (List ℕ)) → ℕ
bytes_left None = 0
bytes_left (Some bytes) = length bytes.now + 1

-- a line that was taken
abbrev pub line_of : Line → ToldLine
line_of line = record { number = line.number; keyword = line.keyword.now; operands = words_of line.operands.now }

-- what the lines that are left tell
abbrev pub told : LinesLeft → List ToldLine
told left = told_lines (left.taken + 1) left.lines

-- the number of the text's last line
abbrev pub last_number : LinesLeft → ℕ
last_number left = left.taken + length left.lines

-- what the lines that are left come to
abbrev pub comes_to : Reading → LinesLeft → Result StpValue StpFault
comes_to r left = all_lines r (told left) >>= end_of_text (last_number left)

-- lines that tell nothing were taken
pub record PassesOver (before after : LinesLeft) : Type 0 where
  pub told_is : told before ≡ told after
  pub last : last_number before ≡ last_number after

-- the lines up to this one were taken
pub record TakesLine (before : LinesLeft) (line : ToldLine) (after : LinesLeft) : Type 0 where
  pub told_is : told before ≡ line ∷ told after
  pub last : last_number before ≡ last_number after

-- What was read of the lines leads on to what is left of them, or it is their fault; memory may be short.
abbrev pub Reads : {X : Type 0} → Reading → (X → Result Reading StpFault) → LinesLeft → Result X StpFault →
    LinesLeft → Type 0
Reads r next before result after = Tells (λ x. next x >>= (λ r'. comes_to r' after)) result (comes_to r before)

-- what is left comes to what is left later
abbrev pub LeadsTo : Reading → LinesLeft → Reading → LinesLeft → Type 0
LeadsTo r before r' after = comes_to r before ≡ comes_to r' after

-- the file hasn't ended
abbrev pub IsOpen : Reading → Type 0
IsOpen (ended v) = ⊥
IsOpen _ = Unit {0}

-- what a line behind the count of the edges leads to: an edge, or the end of the section
abbrev pub edge_or_end : Sections → ℕ → ℕ → List StpEdge → Option StpEdge → Result Reading StpFault
edge_or_end s nodes due edges (Some e) = Ok (in_graph s (listing nodes due (edges ++ e ∷ [])))
edge_or_end s nodes due edges None =
    if length edges == due
    then Ok (outside (record s { graph = Some (record { nodes = nodes; edges = edges }) }))
    else Err (WrongCount section.Graph)

-- the same of the terminals
abbrev pub terminal_or_end : Sections → ℕ → ℕ → List ℕ → Option ℕ → Result Reading StpFault
terminal_or_end s nodes due terminals (Some node) = Ok (in_terminals s nodes (naming due (terminals ++ node ∷ [])))
terminal_or_end s nodes due terminals None =
    if length terminals == due
    then Ok (outside (record s { terminals = Some terminals }))
    else Err (WrongCount section.Terminals)

-- and of the points
abbrev pub point_or_end : Sections → ℕ → List (ℕ × Point) → Bool → Result Reading StpFault
point_or_end s nodes points true = Ok (in_coordinates s nodes points)
point_or_end s nodes points false = Ok (outside (record s { coordinates = Some points }))

-- what a line outside of the sections begins
abbrev pub begun : Sections → Begins → Result Reading StpFault
begun s Comment = Ok (in_comment s)
begun s Graph = Ok (in_graph s unsized)
begun s (Terminals nodes) = Ok (in_terminals s nodes uncounted)
begun s (Coordinates nodes) = Ok (in_coordinates s nodes [])
begun s End = file_of s >>= (λ v. Ok (ended v))

-- a section and what stands behind it, or the end of the file
abbrev pub section_or_end : Sections → Bool → Result Reading StpFault
section_or_end s true = Ok (outside s)
section_or_end s false = file_of s >>= (λ v. Ok (ended v))
