-- What a text's form says: which versions it has, of how many vertices its sets are, and how long its head is.
use Rattle.std.specs.Prelude.{ℕ, zero, suc, ◌<◌, ◌-◌, ◌^◌}
use Rattle.answer_text.specs.declared.form.Form.{Form}
use Rattle.answer_text.specs.declared.form.Form.TheVariants as form
use Rattle.answer_text.specs.declared.version.Version.{Version}
use Rattle.answer_text.specs.declared.version.Version.TheVariants as version

-- how many vertices a set of the text is of
abbrev pub set_size : Form → ℕ
set_size (form.OnGrid V) = V
set_size (form.OfGraph E V) = V

-- there is a vertex to be named: a grid has one, and so has a graph that is read of
abbrev pub HasVertices : Form → Type 0
HasVertices (form.OnGrid V) = Unit {0}
HasVertices (form.OfGraph E V) = 0 < V

-- how many edges a text may count: 32 bits hold the count, and without an edge in the graph none can be named
abbrev pub most_edges : Form → ℕ
most_edges (form.OnGrid V) = 2 ^ 32 - 1
most_edges (form.OfGraph zero V) = 0
most_edges (form.OfGraph (suc E) V) = 2 ^ 32 - 1

-- the form has texts of this version
abbrev pub IsVersionOf : Form → Version → Type 0
IsVersionOf (form.OnGrid V) version.One = Unit {0}
IsVersionOf (form.OnGrid V) version.Two = Unit {0}
IsVersionOf (form.OnGrid V) version.Graph = ⊥
IsVersionOf (form.OfGraph E V) version.One = ⊥
IsVersionOf (form.OfGraph E V) version.Two = ⊥
IsVersionOf (form.OfGraph E V) version.Graph = Unit {0}

-- the version that a text of the form is written in
abbrev pub newest_of : Form → Version
newest_of (form.OnGrid V) = version.Two
newest_of (form.OfGraph E V) = version.Graph

-- the version that a reader takes a text for before its title was read
abbrev pub first_version : Form → Version
first_version (form.OnGrid V) = version.One
first_version (form.OfGraph E V) = version.Graph

-- a head ends with a note on the concatenation, or with the openings
abbrev pub HasNote : Form → Type 0
HasNote (form.OnGrid V) = Unit {0}
HasNote (form.OfGraph E V) = ⊥

abbrev pub HasNoNote : Form → Type 0
HasNoNote (form.OnGrid V) = ⊥
HasNoNote (form.OfGraph E V) = Unit {0}

-- how many lines of the head tell nothing by themselves: all but its last
abbrev pub silent_lines : Form → ℕ
silent_lines (form.OnGrid V) = 5
silent_lines (form.OfGraph E V) = 4

-- the line of a split says whether it is on an edge or on a vertex
abbrev pub SaysKind : Version → Type 0
SaysKind version.One = ⊥
SaysKind version.Two = Unit {0}
SaysKind version.Graph = Unit {0}
