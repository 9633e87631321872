-- What a search is asked for where no option is given.
use Rattle.std.specs.Prelude.{◌≡◌, [], ◌∷◌, Some, codes}
use Rattle.search_rules.specs.Options.{usual_options}
use Rattle.requests.specs.Requests.{Request, request_of}

-- the word `solve` alone asks for the usual options, with trees of up to six members
abbrev pub SolveAloneAsks : Type 0
SolveAloneAsks = request_of (codes "solve" ∷ []) ≡ Some (Request.Solve 6 usual_options)
