-- A run that nothing troubles ends with an answer.
use Rattle.std.proofs.Common.{ℕ, Bool, true, false, not, Option, Some, None, inl, inr}
use Rattle.tool_frame.specs.Outside.{Outside}
use Rattle.tree_inputs.specs.Files.{SpelledHasNoFault, OneReading}
use Rattle.point_tools.specs.StpPoints.{LocatedHasNoFault}
use Rattle.graph_tools.specs.Reading.{TaskHasNoFault}
use Rattle.obstacle_tools.specs.Reading.{AroundHasNoFault}
use Rattle.requests.specs.Requests.{Request}
use Rattle.requests.specs.Requests.Request.{Points, Stp2points, Rfst, Prunefst, Bb, Solve, Check, Dumpfst, Fst2graph, Plot}
use Rattle.requests.specs.Requests.Request.{Trial, Upgrade, Graph, Checkgraph, Reduce, Obstacles, Slack}
use Rattle.suite.specs.Run.{IsShort, EndsAsAsked, IsRun}
use Rattle.suite.specs.Complete.{Completes, EndsComplete}
use Rattle.suite.proofs.lemmas.Completeness.{points_completes, stp_completes, rfst_completes, prune_completes, bb_completes}
use Rattle.suite.proofs.lemmas.Completeness.{solve_completes, check_completes, dump_completes, graph_completes, plot_completes}
use Rattle.suite.proofs.lemmas.Completeness.{trial_completes, upgrade_completes, slack_completes}
use Rattle.suite.proofs.lemmas.GraphCompleteness.{network_completes, checkgraph_completes}
use Rattle.suite.proofs.lemmas.ReduceCompleteness.{reduce_completes}
use Rattle.suite.proofs.lemmas.ObstacleCompleteness.{obstacles_completes}

-- what is read without fault has none
pub record Faultless : Type 0 where
  pub located : LocatedHasNoFault
  pub spelled : SpelledHasNoFault
  pub one : OneReading
  pub task : TaskHasNoFault
  pub around : AroundHasNoFault

module _ (laws : Faultless) (before after : Outside) (status : ℕ) where
  completes_as_asked : (request : Option Request) → EndsAsAsked request before after status →
      Completes request before after status
  completes_as_asked (Some (Points drawing)) ends = points_completes drawing before after status ends
  completes_as_asked (Some Stp2points) ends = stp_completes laws.located before after status ends
  completes_as_asked (Some (Rfst size)) ends = rfst_completes size before after status ends
  completes_as_asked (Some Prunefst) ends = prune_completes laws.spelled before after status ends
  completes_as_asked (Some (Bb search)) ends = bb_completes laws.spelled laws.one search before after status ends
  completes_as_asked (Some (Solve size search)) ends = solve_completes size search before after status ends
  completes_as_asked (Some (Check name)) ends = check_completes name before after status ends
  completes_as_asked (Some (Dumpfst pieces)) ends = dump_completes laws.spelled pieces before after status ends
  completes_as_asked (Some Fst2graph) ends = graph_completes laws.spelled before after status ends
  completes_as_asked (Some (Plot name)) ends = plot_completes name before after status ends
  completes_as_asked (Some (Trial drawing)) ends = trial_completes drawing before after status ends
  completes_as_asked (Some (Upgrade name)) ends = upgrade_completes name before after status ends
  completes_as_asked (Some (Graph options)) ends = network_completes laws.task options before after status ends
  completes_as_asked (Some (Checkgraph name)) ends = checkgraph_completes laws.task name before after status ends
  completes_as_asked (Some (Reduce solve)) ends = reduce_completes laws.task solve before after status ends
  completes_as_asked (Some (Obstacles stp search)) ends =
      obstacles_completes laws.around stp search before after status ends
  completes_as_asked (Some (Slack above ascent)) ends = slack_completes above ascent before after status ends
  completes_as_asked None ends = inl ends.ends

  -- where memory is wanting while the words are read, the status says so
  module _ (short : IsShort before after status) where
    short_ends : (searches : Bool) → EndsComplete searches status
    short_ends true = inr short.ends
    short_ends false = inr short.ends

    short_of : (r : Option Request) → Completes r before after status
    short_of None = inr short.ends
    short_of (Some (Points drawing)) = λ writes. inr short.ends
    short_of (Some Stp2points) = λ bytes ps has located writes. inr short.ends
    short_of (Some (Rfst size)) = λ bytes ps has lists few writes. inr short.ends
    short_of (Some Prunefst) = λ bytes file has spells writes. inr short.ends
    short_of (Some (Bb search)) = λ bytes file has spells joins writes. inr short.ends
    short_of (Some (Solve size search)) = λ bytes ps has lists few writes. inr short.ends
    short_of (Some (Check points)) = λ points bytes ps file lists has writes. inr short.ends
    short_of (Some (Dumpfst pieces)) = λ bytes file has spells writes. inr short.ends
    short_of (Some Fst2graph) = λ bytes file has spells writes. inr short.ends
    short_of (Some (Plot name)) = λ points bytes ps file lists has some writes. inr short.ends
    short_of (Some (Trial drawing)) = λ few writes. inr short.ends
    short_of (Some (Upgrade name)) = λ points bytes ps file lists has spells writes. inr short.ends
    short_of (Some (Graph options)) = λ bytes file has task writes. inr short.ends
    short_of (Some (Checkgraph name)) = λ text bytes file has task input writes. inr short.ends
    short_of (Some (Reduce solve)) = λ bytes file has task writes. short_ends solve
    short_of (Some (Obstacles stp search)) = λ bytes o has task writes. short_ends (not stp)
    short_of (Some (Slack above ascent)) = λ bytes ps has lists writes. inr short.ends

  -- A run that nothing troubles.
  pub completes_by_run : (request : Option Request) → IsRun request before after status →
      Completes request before after status
  completes_by_run request (inl short) = short_of short request
  completes_by_run request (inr ends) = completes_as_asked request ends
