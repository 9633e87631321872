-- The steps of a loop that adds one set to another.
use Rattle.std.proofs.Common.{ℕ, ◌≡◌, ◌<◌, ◌≤◌, Bool, true, List, length, slice_get, Some, arith}
use Rattle.std.proofs.lemmas.Option.{slice_get_within}
use Rattle.net_graph.specs.Adds.{Adds}
use Rattle.net_graph.specs.AddsLaws.{Adds-nothing, Adds-iff}

-- the numbers of a set that are below a bound
abbrev pub IsInBelow : List Bool → ℕ → ℕ → Type 0
IsInBelow from bound e = (e < bound) × (slice_get from e ≡ Some true)
