-- What the words after the program's name ask for. What `clap` makes of a command and its words are its own
-- definitions: the kinds of the first fault of the words (`fault_of`, empty where there is none), and a row for each
-- argument that has a value, given or by default (`matches_of`).
use Rattle.std.specs.Prelude.{ℕ, ◌≤◌, Bool, List, [], ◌∷◌, Option, Some, None, option_and_then, option_map, ⊤}
use Rattle.std.specs.Prelude.{codes}
use Rattle.clap.specs.Words.{Row, Text, fault_of, first_of, matches_of}
use Rattle.clap.specs.Kinds.{Kinds}
use Rattle.requests.specs.Commands.{command_of, tool_named}
use Rattle.requests.specs.Values.{number_in, truth_in, ascent_in, split_in}
use Rattle.search_rules.specs.declared.rules.AscentRule.{AscentRule}
use Rattle.search_rules.specs.declared.rules.SplitRule.{SplitRule}
use Rattle.requests.specs.declared.tool.Tool.{Tool}
use Rattle.requests.specs.declared.tool.Tool.TheVariants as tool
use Rattle.requests.specs.declared.request.Drawing.{Drawing}
use Rattle.search_rules.specs.declared.options.SearchOptions.{SearchOptions}
use Rattle.search_rules.specs.declared.options.GraphOptions.{GraphOptions}
use Rattle.requests.specs.declared.request.Request.{Request as Asked}
use Rattle.requests.specs.declared.request.Request.TheVariants as asked

-- a tool, with what its words tell it
pub data Request : Type 0 where
  Points : Drawing → Request
  Stp2points : Request
  Rfst : (size : ℕ) → Request
  Prunefst : Request
  Bb : SearchOptions → Request
  Solve : (size : ℕ) → SearchOptions → Request
  Check : (points : Text) → Request
  Dumpfst : (pieces : Bool) → Request
  Fst2graph : Request
  Plot : (points : Text) → Request
  Trial : Drawing → Request
  Upgrade : (points : Text) → Request
  Graph : GraphOptions → Request
  Checkgraph : (graph : Text) → Request
  Reduce : (solve : Bool) → Request
  Obstacles : (stp : Bool) → GraphOptions → Request
  Slack : (above : Option ℕ) → AscentRule → Request

-- the request of the code, which holds a file's name by reference
abbrev pub meaning : Asked → Request
meaning (asked.Points drawing) = Request.Points drawing
meaning asked.Stp2points = Request.Stp2points
meaning (asked.Rfst size) = Request.Rfst size
meaning asked.Prunefst = Request.Prunefst
meaning (asked.Bb search) = Request.Bb search
meaning (asked.Solve size search) = Request.Solve size search
meaning (asked.Check points) = Request.Check points.now
meaning (asked.Dumpfst pieces) = Request.Dumpfst pieces
meaning asked.Fst2graph = Request.Fst2graph
meaning (asked.Plot points) = Request.Plot points.now
meaning (asked.Trial drawing) = Request.Trial drawing
meaning (asked.Upgrade points) = Request.Upgrade points.now
meaning (asked.Graph choices) = Request.Graph choices
meaning (asked.Checkgraph graph) = Request.Checkgraph graph.now
meaning (asked.Reduce solve) = Request.Reduce solve
meaning (asked.Obstacles stp search) = Request.Obstacles stp search
meaning (asked.Slack above ascent) = Request.Slack above ascent

-- ---- a tool's request, by the values of its arguments

-- the drawing of these numbers, where both are there
abbrev pub drawing_from : Option ℕ → Option ℕ → Option Drawing
drawing_from (Some count) (Some seed) = Some (record { count = count; seed = seed })
drawing_from _ _ = None

abbrev pub drawing_in : List Row → Option Drawing
drawing_in rows = drawing_from (number_in 8 (codes "count") rows) (number_in 64 (codes "seed") rows)

-- the search of these choices, where all are there
abbrev pub search_from : Option ℕ → Option ℕ → Option AscentRule → Option SplitRule → Option SearchOptions
search_from (Some openings) (Some concat) (Some ascent) (Some split) =
    Some (record { openings = openings; concat = concat; ascent = ascent; split = split })
search_from _ _ _ _ = None

abbrev pub search_in : List Row → Option SearchOptions
search_in rows = search_from (number_in 8 (codes "openings") rows) (number_in 32 (codes "concat") rows)
    (ascent_in rows) (split_in rows)

-- the search in a graph of these choices, where all are there
abbrev pub graph_from : Option ℕ → Option AscentRule → Option SplitRule → Option GraphOptions
graph_from (Some openings) (Some ascent) (Some split) =
    Some (record { openings = openings; ascent = ascent; split = split })
graph_from _ _ _ = None

abbrev pub graph_in : List Row → Option GraphOptions
graph_in rows = graph_from (number_in 8 (codes "openings") rows) (ascent_in rows) (split_in rows)

-- what the tool is asked for, where each of its arguments has a value
abbrev pub request_by : Tool → List Row → Option Request
request_by tool.Points rows = option_map Request.Points (drawing_in rows)
request_by tool.Stp2points rows = Some Request.Stp2points
request_by tool.Rfst rows = option_map Request.Rfst (number_in 8 (codes "size") rows)
request_by tool.Prunefst rows = Some Request.Prunefst
request_by tool.Bb rows = option_map Request.Bb (search_in rows)
request_by tool.Solve rows = option_and_then (λ size. option_map (Request.Solve size) (search_in rows))
    (number_in 8 (codes "size") rows)
request_by tool.Check rows = option_map Request.Check (first_of (codes "points") rows)
request_by tool.Dumpfst rows = option_map Request.Dumpfst (truth_in (codes "pieces") rows)
request_by tool.Fst2graph rows = Some Request.Fst2graph
request_by tool.Plot rows = option_map Request.Plot (first_of (codes "points") rows)
request_by tool.Trial rows = option_map Request.Trial (drawing_in rows)
request_by tool.Upgrade rows = option_map Request.Upgrade (first_of (codes "points") rows)
request_by tool.Graph rows = option_map Request.Graph (graph_in rows)
request_by tool.Checkgraph rows = option_map Request.Checkgraph (first_of (codes "stp") rows)
request_by tool.Reduce rows = option_map Request.Reduce (truth_in (codes "solve") rows)
request_by tool.Obstacles rows = option_and_then (λ stp. option_map (Request.Obstacles stp) (graph_in rows))
    (truth_in (codes "stp") rows)
request_by tool.Slack rows = option_map (Request.Slack (number_in 64 (codes "above") rows)) (ascent_in rows)

-- ---- the words

-- what is asked for, where no fault was found
abbrev pub without_fault : Kinds → Option Request → Option Request
without_fault [] request = request
without_fault (fault ∷ more) request = None

-- what the words ask the tool for, of which the first is its name: what its arguments say, where its command finds no
-- fault in the words
abbrev pub request_to : List Text → Tool → Option Request
request_to words t = without_fault (fault_of (command_of t) words) (request_by t (matches_of (command_of t) words))

-- what the words ask for; the first names the tool
unfoldable pub request_of : List Text → Option Request
request_of [] = None
request_of (name ∷ rest) = option_and_then (request_to (name ∷ rest)) (tool_named name)

-- ---- limits

-- the numbers of the request are within the ranges of their arguments
abbrev pub IsWithinLimits : Request → Type 0
IsWithinLimits (Request.Points drawing) = (1 ≤ drawing.count) × (drawing.count ≤ 50)
IsWithinLimits (Request.Rfst size) = (2 ≤ size) × (size ≤ 8)
IsWithinLimits (Request.Bb search) = search.concat ≤ 20000
IsWithinLimits (Request.Solve size search) = ((2 ≤ size) × (size ≤ 8)) × (search.concat ≤ 20000)
IsWithinLimits (Request.Trial drawing) = (1 ≤ drawing.count) × (drawing.count ≤ 50)
IsWithinLimits _ = ⊤
