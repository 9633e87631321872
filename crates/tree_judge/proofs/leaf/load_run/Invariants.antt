use Rattle.std.proofs.Common.{List, ◌+◌}
use Rattle.net_graph.specs.declared.packing.Cut.{Cut}
use Rattle.tree_judge.specs.Cuts.{cut_of}
use Rattle.tree_judge.specs.Loads.{HasLoads, LoadsBelow}
use Rattle.tree_judge.specs.Borders.{MarksParted}
use Rattle.tree_judge.proofs.leaf.load_run.Given as goal

-- the arcs of the edges below n are loaded, and no others, and the marks tell where the next ones are
abbrev pub invariant-loop-marks : goal.invariant-loop-marks
invariant-loop-marks g l = record {
  size : HasLoads l.g l.loads;
  loads : (cuts : List Cut) →
      LoadsBelow l.g cuts (cut_of l.weight l.members) (g.B.Border.before l.g l.border l.place) l.decided l.fn.loads →
      LoadsBelow l.g cuts (cut_of l.weight l.members) l.n l.decided l.loads;
  marks : MarksParted l.g l.members l.marks l.n (g.B.Border.before l.g l.border (l.place + 1));
}

abbrev pub decreases-loop-marks : goal.decreases-loop-marks
decreases-loop-marks g l = l.marks
