-- The simple command of each tool: its arguments in order, and of each its name, what stands where it is not given, and
-- what its value has to be. What `clap` makes of the rest of a rule, it makes by itself.
use Rattle.std.specs.Prelude.{ℕ, pos, true, List, [], ◌∷◌, Option, Some, codes, find}
use Rattle.std.specs.Str.{bytes_eq}
use Rattle.clap.specs.Words.{App, Rule, Text, new_app, new_rule, with_rule}
use Rattle.clap.specs.declared.builder.action.ArgAction.TheVariants.{SetTrue}
use Rattle.clap.specs.declared.builder.value_parser.ValueParser.{ValueParser}
use Rattle.clap.specs.declared.builder.value_parser.ValueParser.TheVariants as parser
use Rattle.requests.specs.declared.tool.Tool.{Tool}
use Rattle.requests.specs.declared.tool.Tool.TheVariants as tool

-- ---- tools

abbrev pub name_of : Tool → Text
name_of tool.Points = codes "points"
name_of tool.Stp2points = codes "stp2points"
name_of tool.Rfst = codes "rfst"
name_of tool.Prunefst = codes "prunefst"
name_of tool.Bb = codes "bb"
name_of tool.Solve = codes "solve"
name_of tool.Check = codes "check"
name_of tool.Dumpfst = codes "dumpfst"
name_of tool.Fst2graph = codes "fst2graph"
name_of tool.Plot = codes "plot"
name_of tool.Trial = codes "trial"
name_of tool.Upgrade = codes "upgrade"
name_of tool.Graph = codes "graph"
name_of tool.Checkgraph = codes "checkgraph"
name_of tool.Reduce = codes "reduce"
name_of tool.Obstacles = codes "obstacles"
name_of tool.Slack = codes "slack"

abbrev pub all_tools : List Tool
all_tools = tool.Points ∷ tool.Stp2points ∷ tool.Rfst ∷ tool.Prunefst ∷ tool.Bb ∷ tool.Solve ∷ tool.Check ∷ tool.Dumpfst
    ∷ tool.Fst2graph ∷ tool.Plot ∷ tool.Trial ∷ tool.Upgrade ∷ tool.Graph
    ∷ tool.Checkgraph ∷ tool.Reduce ∷ tool.Obstacles ∷ tool.Slack ∷ []

-- the tool of this name
abbrev pub tool_named : Text → Option Tool
tool_named word = find (λ t. bytes_eq word (name_of t)) all_tools

-- ---- arguments

-- a number in decimal digits, from `least` to `most`
abbrev pub whole_number : ℕ → ℕ → Option ValueParser
whole_number least most = Some (parser.Signed (pos least) (pos most))

-- the option `--NAME VALUE`, with the value that stands where it is not given
abbrev pub option_rule : Text → Text → Rule
option_rule name default = record (new_rule name) { long = Some name; defaults = default ∷ [] }

-- a word without a name, which has to be given
abbrev pub operand_rule : Text → Rule
operand_rule name = record (new_rule name) { required = true }

abbrev pub size_rule : Rule
size_rule = record (option_rule (codes "size") (codes "6")) { parser = whole_number 2 8 }

abbrev pub openings_rule : Rule
openings_rule = record (option_rule (codes "openings") (codes "100")) { parser = whole_number 0 255 }

abbrev pub concat_rule : Rule
concat_rule = record (option_rule (codes "concat") (codes "4000")) { parser = whole_number 0 20000 }

abbrev pub ascent_rule : Rule
ascent_rule = option_rule (codes "ascent") (codes "least")

abbrev pub split_rule : Rule
split_rule = option_rule (codes "split") (codes "longest")

-- the option `--above`, without which there is no threshold
abbrev pub above_rule : Rule
above_rule = record (new_rule (codes "above")) {
  long = Some (codes "above");
  parser = Some (parser.Unsigned 0 18446744073709551615);
}

-- the option `--pieces`, which takes no value
abbrev pub pieces_rule : Rule
pieces_rule = record (new_rule (codes "pieces")) { long = Some (codes "pieces"); action = Some SetTrue }

-- the option `--solve`, which takes none either
abbrev pub solve_rule : Rule
solve_rule = record (new_rule (codes "solve")) { long = Some (codes "solve"); action = Some SetTrue }

-- the option `--stp`, nor does this one
abbrev pub as_stp_rule : Rule
as_stp_rule = record (new_rule (codes "stp")) { long = Some (codes "stp"); action = Some SetTrue }

abbrev pub count_rule : Rule
count_rule = record (operand_rule (codes "count")) { parser = whole_number 1 50 }

abbrev pub seed_rule : Rule
seed_rule = record (operand_rule (codes "seed")) { parser = Some (parser.Unsigned 0 18446744073709551615) }

abbrev pub points_rule : Rule
points_rule = operand_rule (codes "points")

abbrev pub stp_rule : Rule
stp_rule = operand_rule (codes "stp")

-- ---- commands

abbrev pub drawing_rules : List Rule
drawing_rules = count_rule ∷ seed_rule ∷ []

abbrev pub choice_rules : List Rule
choice_rules = ascent_rule ∷ split_rule ∷ []

abbrev pub search_rules : List Rule
search_rules = openings_rule ∷ concat_rule ∷ choice_rules

abbrev pub graph_rules : List Rule
graph_rules = openings_rule ∷ choice_rules

abbrev pub arguments_of : Tool → List Rule
arguments_of tool.Points = drawing_rules
arguments_of tool.Stp2points = []
arguments_of tool.Rfst = size_rule ∷ []
arguments_of tool.Prunefst = []
arguments_of tool.Bb = search_rules
arguments_of tool.Solve = size_rule ∷ search_rules
arguments_of tool.Check = points_rule ∷ []
arguments_of tool.Dumpfst = pieces_rule ∷ []
arguments_of tool.Fst2graph = []
arguments_of tool.Plot = points_rule ∷ []
arguments_of tool.Trial = drawing_rules
arguments_of tool.Upgrade = points_rule ∷ []
arguments_of tool.Graph = graph_rules
arguments_of tool.Checkgraph = stp_rule ∷ []
arguments_of tool.Reduce = solve_rule ∷ []
arguments_of tool.Obstacles = as_stp_rule ∷ graph_rules
arguments_of tool.Slack = above_rule ∷ ascent_rule ∷ []

-- the command with further arguments
abbrev pub with_rules : App → List Rule → App
with_rules command [] = command
with_rules command (rule ∷ rest) = with_rules (with_rule command rule) rest

abbrev pub command_of : Tool → App
command_of t = with_rules (new_app (name_of t)) (arguments_of t)
