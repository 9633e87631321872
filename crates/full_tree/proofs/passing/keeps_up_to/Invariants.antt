use Rattle.std.proofs.Common.{◌≡◌}
use Rattle.full_tree.specs.Stations.{station_at}
use Rattle.full_tree.proofs.lemmas.Passing.{HasGoneBack}
use Rattle.full_tree.proofs.passing.keeps_up_to.Given as goal

abbrev pub invariant-loop-first : goal.invariant-loop-first
invariant-loop-first l = HasGoneBack l.table l.stations l.first l.last l.greatest × (l.end ≡ station_at l.stations l.last)

abbrev pub decreases-loop-first : goal.decreases-loop-first
decreases-loop-first l = l.first
