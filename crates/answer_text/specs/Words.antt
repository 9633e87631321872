-- The words of an answer's lines.
use Rattle.std.specs.Prelude.{ℕ, ◌+◌, ◌*◌, Bool, false, List, [], ◌∷◌, ◌++◌, codes, if◌then◌else◌}
use Rattle.std.specs.Fmt.{decimal, signed_decimal, digit_glyph}
use Rattle.points_in.specs.declared.point.Point.{Point}
use Rattle.hanan_grid.specs.declared.name.EdgeName.{EdgeName}
use Rattle.answer_text.specs.declared.label.EdgeLabel.{EdgeLabel}
use Rattle.answer_text.specs.declared.label.EdgeLabel.TheVariants as edge
use Rattle.answer_text.specs.declared.label.VertexLabel.{VertexLabel}
use Rattle.answer_text.specs.declared.label.VertexLabel.TheVariants as vertex
use Rattle.answer_text.specs.declared.version.Version.{Version}
use Rattle.answer_text.specs.declared.version.Version.TheVariants as version

-- the number of a version, and its title
abbrev pub version_number : Version → ℕ
version_number version.One = 1
version_number version.Two = 2
version_number version.Graph = 1

abbrev pub title_words : Version → List ℕ
title_words version.One = codes "rst answer 1"
title_words version.Two = codes "rst answer 2"
title_words version.Graph = codes "rst graph 1"

-- the word of an answer's status, and the word of its concatenation
abbrev pub status_word : Bool → List ℕ
status_word optimal = if optimal then codes "optimal" else codes "stopped"

abbrev pub concat_word : Bool → List ℕ
concat_word least = if least then codes "least" else codes "spent"

-- the four words of an edge's name: the coordinates of one end and of the other
abbrev pub name_words : EdgeName → List ℕ
name_words e = signed_decimal e.x1 ++ codes " " ++ signed_decimal e.y1 ++ codes " " ++ signed_decimal e.x2 ++ codes " "
    ++ signed_decimal e.y2

-- the two words of a vertex's point
abbrev pub point_words : Point → List ℕ
point_words p = signed_decimal p.x ++ codes " " ++ signed_decimal p.y

-- the words of an edge's label and of a vertex's
abbrev pub edge_words : EdgeLabel → List ℕ
edge_words (edge.Ends e) = name_words e
edge_words (edge.Number n) = decimal n

abbrev pub vertex_words : VertexLabel → List ℕ
vertex_words (vertex.At p) = point_words p
vertex_words (vertex.Number n) = decimal n

-- 1 for a member, else 0
abbrev pub flag_value : Bool → ℕ
flag_value flag = if flag then 1 else 0

-- the value of four flags
abbrev pub four_value : Bool → Bool → Bool → Bool → ℕ
four_value a b c d = 8 * flag_value a + 4 * flag_value b + 2 * flag_value c + flag_value d

-- their digit, from 0 to 9 and from a to f
abbrev pub four_digit : Bool → Bool → Bool → Bool → ℕ
four_digit a b c d = digit_glyph false (four_value a b c d)

-- a set: one digit for each four flags, where flags past the end count as absent members
abbrev pub set_text : List Bool → List ℕ
set_text [] = []
set_text (a ∷ []) = four_digit a false false false ∷ []
set_text (a ∷ b ∷ []) = four_digit a b false false ∷ []
set_text (a ∷ b ∷ c ∷ []) = four_digit a b c false ∷ []
set_text (a ∷ b ∷ c ∷ d ∷ set) = four_digit a b c d ∷ set_text set
