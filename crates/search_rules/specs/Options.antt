-- What is chosen of a search.
use Rattle.search_rules.specs.declared.rules.AscentRule.TheVariants.{Least}
use Rattle.search_rules.specs.declared.rules.SplitRule.TheVariants.{Longest}
use Rattle.search_rules.specs.declared.options.SearchOptions.{SearchOptions}
use Rattle.search_rules.specs.declared.options.GraphOptions.{GraphOptions}

-- where no word asks for anything else: 100 openings, 4,000 splits of the search for a least concatenation, the rules
-- `least` and `longest`
abbrev pub usual_options : SearchOptions
usual_options = record { openings = 100; concat = 4000; ascent = Least; split = Longest }

-- the same choices without that of concatenations
abbrev pub in_graph : SearchOptions → GraphOptions
in_graph search = record { openings = search.openings; ascent = search.ascent; split = search.split }

-- .. where no word asks for anything else
abbrev pub usual_in_graph : GraphOptions
usual_in_graph = in_graph usual_options
