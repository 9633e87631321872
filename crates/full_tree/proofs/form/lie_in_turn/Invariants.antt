use Rattle.std.proofs.Common.{◌≡◌, ◌↔◌, drop}
use Rattle.full_tree.specs.Geometry.{point_at}
use Rattle.full_tree.specs.Form.{across_of, LieInTurn}
use Rattle.full_tree.proofs.lemmas.Signs.{TurnsFrom}
use Rattle.full_tree.proofs.form.lie_in_turn.Given as goal

-- what is left to turn decides
abbrev pub invariant-loop-drop : goal.invariant-loop-drop
invariant-loop-drop l = record {
  decides : LieInTurn l.points l.root l.toward l.drops l.tip
      ↔ TurnsFrom (across_of l.points l.root l.toward) l.before (drop l.drop-index l.drops) l.tip;
  start : l.start ≡ point_at l.points l.root;
}
