-- How an exchange or an ascent along a network may end.
use Rattle.std.specs.Prelude.{ℕ, ◌≤◌, IfSome}
use Rattle.net_graph.specs.Graph.{Graph}
use Rattle.packing_judge.specs.declared.outcome.Outcome.{Outcome}
use Rattle.packing_judge.specs.declared.outcome.Outcome.TheVariants.{Tight, Impossible, Exhausted}
use Rattle.packing_judge.specs.Bound.{IsBoundOf}

-- how it may end where the network aimed at has a length, and at least a value is wanted: every packing that
-- is handed out was judged, and a tight one has the wanted value at least and the length at most
abbrev pub IsOutcomeFor : Graph → ℕ → ℕ → Outcome → Type 0
IsOutcomeFor g aim wanted (Tight bound) = IsBoundOf g bound × (wanted ≤ bound.value) × (bound.value ≤ aim)
IsOutcomeFor g aim wanted (Impossible bound) = IfSome bound (IsBoundOf g)
IsOutcomeFor g aim wanted (Exhausted bound) = IfSome bound (IsBoundOf g)
