use Rattle.std.proofs.Common.{List}
use Rattle.net_graph.specs.declared.packing.Cut.{Cut}
use Rattle.tree_judge.specs.Cuts.{cut_of}
use Rattle.tree_judge.specs.Loads.{HasLoads, IsLeafOf, LoadsBelow}
use Rattle.tree_judge.proofs.leaf.load_arcs.Given as goal

-- the arcs of the runs so far are loaded, and no others
abbrev pub invariant-loop-place : goal.invariant-loop-place
invariant-loop-place g l = record {
  size : HasLoads l.g l.loads;
  loads : (cuts : List Cut) → IsLeafOf l.g cuts l.decided l.fn.loads →
      LoadsBelow l.g cuts (cut_of l.weight l.members) (g.B.Border.before l.g l.border l.place) l.decided l.loads;
}
