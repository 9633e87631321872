-- The trail that a list of steps in preorder spells. Read from the back, an end is a whole trail, and a split takes the
-- two trails that come next: first the one with its tree, then the one without.
use Rattle.std.specs.Prelude.{List, [], ◌∷◌}
use Rattle.fst_concat.specs.declared.trail.Step.{Step}
use Rattle.fst_concat.specs.declared.trail.Step.TheVariants.{Close, Fork}
use Rattle.concatenation.specs.Trails.{Trail, End}
use Rattle.fst_concat.specs.TrailCode.{split_over, first_of_trails}

-- the trails that steps spell, where some trails come after the last step
abbrev pub unwind : List Step → List Trail → List Trail
unwind [] trails = trails
unwind (Close ∷ steps) trails = End ∷ unwind steps trails
unwind (Fork place ∷ steps) trails = split_over place (unwind steps trails)

-- the trail that the steps spell
abbrev pub trail_of : List Step → Trail
trail_of steps = first_of_trails (unwind steps [])
