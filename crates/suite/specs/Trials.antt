-- What `trial` does with its points, in the words' terms.
use Rattle.std.specs.Prelude.{◌≡◌, [], ◌∷◌, Some, codes}
use Rattle.requests.specs.Requests.{Request, request_of}
use Rattle.tree_inputs.specs.Generation.{most_members}
use Rattle.search_rules.specs.Options.{usual_options}

-- The word `solve` alone asks for what `trial` does with its points: for trees of up to as many members, and for the
-- usual options.
abbrev pub TrialIsSolve : Type 0
TrialIsSolve = request_of (codes "solve" ∷ []) ≡ Some (Request.Solve most_members usual_options)
