use Rattle.std.proofs.Common.{◌↔◌, pos, [], ◌∷◌, ◌++◌, drop, map}
use Rattle.full_tree.specs.Geometry.{point_at, along, RisesFrom}
use Rattle.full_tree.specs.Form.{along_of}
use Rattle.full_tree.proofs.form.goes_forward.Given as goal

-- what is left to rise decides
abbrev pub invariant-loop-drop : goal.invariant-loop-drop
invariant-loop-drop l =
    RisesFrom (pos 0) (map (along_of l.points l.root l.toward) (l.drops ++ l.tip ∷ []))
    ↔ RisesFrom (along (point_at l.points l.root) l.toward l.before) (map (along_of l.points l.root l.toward) (drop l.drop-index l.drops ++ l.tip ∷ []))
