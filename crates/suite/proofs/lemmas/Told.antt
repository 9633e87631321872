-- What was printed is true.
use Rattle.std.proofs.Common.{ℕ, ◌≡◌, List, codes, Option, Some, None, inl, inr, subst, ap, ◌∙◌, arith}
use Rattle.rst_outside.specs.Sink.{Appended}
use Rattle.points_in.specs.Terminals.{terminals_of}
use Rattle.obstacle_grid.specs.Crossing.{NoEdgeCrosses}
use Rattle.obstacle_grid.specs.ReadBack.{ObstaclesAreReadBack}
use Rattle.tool_frame.specs.declared.status.AnswerStatus.{AnswerStatus}
use Rattle.tool_frame.specs.declared.status.AnswerStatus.TheVariants.{Done, Refused, Stopped}
use Rattle.tool_frame.specs.declared.take.TheConstants.{TEXT_LIMIT}
use Rattle.tool_frame.specs.Statuses.{answer_code}
use Rattle.tool_frame.specs.Outside.{Outside}
use Rattle.tool_frame.specs.Ends.{Print}
use Rattle.tool_frame.specs.EndLaws.{printed_ends}
use Rattle.tool_frame.specs.FaultTexts.{list_fault_text, list_fault_status, text_fault_text, text_fault_status}
use Rattle.tool_frame.specs.FromText.{FromText}
use Rattle.tool_frame.specs.Leaves.{LeavesShelf, LeavesFiles, LeavesAll}
use Rattle.tree_inputs.specs.GenerationFaults.{generation_fault_text, generation_fault_status}
use Rattle.search_tools.specs.Build.{Builds, EndsBb, build_fault_text, build_fault_status}
use Rattle.search_tools.specs.Solve.{Solves, EndsSolve}
use Rattle.search_tools.specs.TruthLaws.{searches_truly}
use Rattle.judge_tools.specs.Check.{Checks, EndsCheck, check_fault_text, check_fault_status}
use Rattle.judge_tools.specs.CheckLaws.{checks_truly}
use Rattle.judge_tools.specs.Truth.{ChecksTruly}
use Rattle.search_tools.specs.Trial.{EndsTrial, Tries}
use Rattle.search_tools.specs.TrialTruth.{TriesTruly}
use Rattle.search_tools.specs.TrialTruthLaws.{tries_truly}
use Rattle.slack_tools.specs.Slack.{BoundsEdges, EndsSlack}
use Rattle.slack_tools.specs.Truth.{BoundsTruly}
use Rattle.slack_tools.specs.TruthLaws.{bounds_truly}
use Rattle.graph_tools.specs.Reading.{graph_fault_text, graph_fault_status}
use Rattle.graph_tools.specs.Solve.{EndsGraph, SolvesGraph}
use Rattle.graph_tools.specs.Check.{ChecksGraph, EndsCheckgraph, checkgraph_fault_text, checkgraph_fault_status}
use Rattle.graph_tools.specs.Truth.{ChecksGraphTruly, SolvesTruly}
use Rattle.graph_tools.specs.TruthLaws.{checks_graph_truly, solves_truly}
use Rattle.graph_tools.specs.ReduceTruthLaws.{reduces_truly}
use Rattle.obstacle_tools.specs.TruthLaws.{obstacles_truly}
use Rattle.search_rules.specs.declared.options.SearchOptions.{SearchOptions}
use Rattle.search_rules.specs.declared.options.GraphOptions.{GraphOptions}
use Rattle.requests.specs.Requests.{Request}
use Rattle.requests.specs.Requests.Request.{Points, Stp2points, Rfst, Prunefst, Bb, Solve, Check, Dumpfst, Fst2graph, Plot}
use Rattle.requests.specs.Requests.Request.{Trial, Upgrade, Graph, Checkgraph, Reduce, Obstacles, Slack}
use Rattle.suite.specs.Run.{IsShort, EndsAsAsked, IsRun}
use Rattle.suite.specs.Headlines.{BuildsTruly, HasAnswered, HasJudged, SolvesFileTruly, SolvesPointsTruly, TellsTruly}

-- what `solve` printed, with the status that it ended with
solve_printed : (size : ℕ) (search : SearchOptions) (before after : Outside) (status : ℕ) (s : AnswerStatus) →
    status ≡ answer_code s → EndsSolve search size before after status →
    SolvesPointsTruly size search before after status
solve_printed size search before after status s is ends =
    let (print, (bytes, whole, (ps, network, tree, note, solved, of_points)), printed) =
    printed_ends (text_fault_status generation_fault_status) (text_fault_text generation_fault_text) (codes "solve")
    (FromText TEXT_LIMIT (Solves search size)) LeavesShelf before after status s is ends in (
      bytes,
      ps,
      solved.generated,
      solved.trees,
      whole.came,
      solved.points.text,
      solved.are_generated,
      solved.are_kept,
      searches_truly search (terminals_of ps) solved.trees network tree note before after status solved.permitted
          (subst (λ (p : Print). Appended before.written.out.taken p.text after.written.out.taken) of_points
          printed.wrote.appended)
          (printed.ends ∙ ap (λ (p : Print). answer_code p.status) of_points),
    )

-- what `bb` printed, with the status that it ended with
bb_printed : (search : SearchOptions) (before after : Outside) (status : ℕ) (s : AnswerStatus) →
    status ≡ answer_code s → EndsBb search before after status → BuildsTruly search before after status
bb_printed search before after status s is ends =
    let (print, (bytes, whole, (file, network, tree, note, spelled, permitted, of_file)), printed) =
    printed_ends (text_fault_status build_fault_status) (text_fault_text build_fault_text) (codes "bb")
    (FromText TEXT_LIMIT (Builds search)) LeavesShelf before after status s is ends in (
      bytes,
      file,
      whole.came,
      spelled,
      searches_truly search file.points file.trees network tree note before after status permitted
          (subst (λ (p : Print). Appended before.written.out.taken p.text after.written.out.taken) of_file
          printed.wrote.appended)
          (printed.ends ∙ ap (λ (p : Print). answer_code p.status) of_file),
    )

-- what `check` told, with the status that it ended with
check_told : (name : List ℕ) (before after : Outside) (status : ℕ) (s : AnswerStatus) → status ≡ answer_code s → EndsCheck name before after status →
    ChecksTruly name before after status
check_told name before after status s is ends =
    let (print, (ps, bytes, f, ruling, checked, tells, of_line), printed) =
    printed_ends check_fault_status check_fault_text (codes "check") (Checks name) LeavesFiles before after status s is ends.ends in
    checks_truly name before after ps bytes f ruling status tells checked
    (subst (λ (p : Print). Appended before.written.out.taken p.text after.written.out.taken) of_line printed.wrote.appended)
    (printed.ends ∙ ap (λ (p : Print). answer_code p.status) of_line)

-- what `trial` told, with the status that it ended with
trial_told : (n seed : ℕ) (before after : Outside) (status : ℕ) (s : AnswerStatus) → status ≡ answer_code s →
    EndsTrial n seed before after status → TriesTruly n seed before after status
trial_told n seed before after status s is ends =
    let (print, (network, tree, tried, of_line), printed) =
    printed_ends generation_fault_status generation_fault_text (codes "trial") (λ _ _. Tries n seed) LeavesAll
    before after status s is ends in
    tries_truly n seed network tree before after status tried
    (subst (λ (p : Print). Appended before.written.out.taken p.text after.written.out.taken) of_line printed.wrote.appended)
    (printed.ends ∙ ap (λ (p : Print). answer_code p.status) of_line)

-- what `graph` printed, with the status that it ended with
graph_printed : (options : GraphOptions) (before after : Outside) (status : ℕ) (s : AnswerStatus) →
    status ≡ answer_code s → EndsGraph options before after status →
    SolvesFileTruly options before after status
graph_printed options before after status s is ends =
    let (print, (bytes, whole, (g, (file, task, in_graph), (network, tree, permitted, of_graph))), printed) =
    printed_ends (text_fault_status graph_fault_status) (text_fault_text graph_fault_text) (codes "graph")
    (FromText TEXT_LIMIT (SolvesGraph options)) LeavesShelf before after status s is ends in (
      bytes,
      file,
      whole.came,
      task,
      subst (λ h. SolvesTruly options h before after status) in_graph
          (solves_truly options g network tree before after status permitted
          (subst (λ (p : Print). Appended before.written.out.taken p.text after.written.out.taken) of_graph
          printed.wrote.appended)
          (printed.ends ∙ ap (λ (p : Print). answer_code p.status) of_graph)),
    )

-- what `checkgraph` told, with the status that it ended with
checkgraph_told : (name : List ℕ) (before after : Outside) (status : ℕ) (s : AnswerStatus) → status ≡ answer_code s →
    EndsCheckgraph name before after status → ChecksGraphTruly name before after status
checkgraph_told name before after status s is ends =
    let (print, (file, bytes, f, ruling, checked, tells, of_line), printed) =
    printed_ends checkgraph_fault_status checkgraph_fault_text (codes "checkgraph") (ChecksGraph name) LeavesFiles
    before after status s is ends.ends in
    checks_graph_truly name before after file bytes f ruling status tells checked
    (subst (λ (p : Print). Appended before.written.out.taken p.text after.written.out.taken) of_line
    printed.wrote.appended)
    (printed.ends ∙ ap (λ (p : Print). answer_code p.status) of_line)

-- what `slack` printed
slack_printed : (above : Option ℕ) (before after : Outside) (status : ℕ) → EndsSlack above before after status →
    status ≡ 0 → BoundsTruly above before after
slack_printed above before after status ends zero =
    let (print, (bytes, whole, (ps, bounds, lists, are, of_points)), printed) =
    printed_ends (text_fault_status list_fault_status) (text_fault_text list_fault_text) (codes "slack")
    (FromText TEXT_LIMIT (BoundsEdges above)) LeavesShelf before after status Done zero ends in
    bounds_truly above before after bytes ps bounds whole.came lists.text are
    (subst (λ (p : Print). Appended before.written.out.taken p.text after.written.out.taken) of_points
    printed.wrote.appended)

-- What the tool that the words ask for told is true.
module _ (before after : Outside) (status : ℕ) where
  solve_told : (size : ℕ) (options : SearchOptions) → EndsSolve options size before after status → HasAnswered status →
      SolvesPointsTruly size options before after status
  solve_told size options ends (inl zero) = solve_printed size options before after status Done zero ends
  solve_told size options ends (inr three) = solve_printed size options before after status Stopped three ends

  bb_told : (options : SearchOptions) → EndsBb options before after status → HasAnswered status →
      BuildsTruly options before after status
  bb_told options ends (inl zero) = bb_printed options before after status Done zero ends
  bb_told options ends (inr three) = bb_printed options before after status Stopped three ends

  check_judged : (name : List ℕ) → EndsCheck name before after status → HasJudged status →
      ChecksTruly name before after status
  check_judged name ends (inl zero) = check_told name before after status Done zero ends
  check_judged name ends (inr one) = check_told name before after status Refused one ends

  trial_answered : (n seed : ℕ) → EndsTrial n seed before after status → HasAnswered status →
      TriesTruly n seed before after status
  trial_answered n seed ends (inl zero) = trial_told n seed before after status Done zero ends
  trial_answered n seed ends (inr three) = trial_told n seed before after status Stopped three ends

  graph_told : (options : GraphOptions) → EndsGraph options before after status → HasAnswered status →
      SolvesFileTruly options before after status
  graph_told options ends (inl zero) = graph_printed options before after status Done zero ends
  graph_told options ends (inr three) = graph_printed options before after status Stopped three ends

  checkgraph_judged : (name : List ℕ) → EndsCheckgraph name before after status → HasJudged status →
      ChecksGraphTruly name before after status
  checkgraph_judged name ends (inl zero) = checkgraph_told name before after status Done zero ends
  checkgraph_judged name ends (inr one) = checkgraph_told name before after status Refused one ends

  told_as_asked : NoEdgeCrosses → ObstaclesAreReadBack → (request : Option Request) →
      EndsAsAsked request before after status → TellsTruly request before after status
  told_as_asked crosses read (Some (Points drawing)) ends = tt
  told_as_asked crosses read (Some Stp2points) ends = tt
  told_as_asked crosses read (Some (Rfst size)) ends = tt
  told_as_asked crosses read (Some Prunefst) ends = tt
  told_as_asked crosses read (Some (Bb options)) ends = bb_told options ends
  told_as_asked crosses read (Some (Solve size options)) ends = solve_told size options ends
  told_as_asked crosses read (Some (Check name)) ends = check_judged name ends
  told_as_asked crosses read (Some (Dumpfst pieces)) ends = tt
  told_as_asked crosses read (Some Fst2graph) ends = tt
  told_as_asked crosses read (Some (Plot name)) ends = tt
  told_as_asked crosses read (Some (Trial drawing)) ends = trial_answered drawing.count drawing.seed ends
  told_as_asked crosses read (Some (Upgrade name)) ends = tt
  told_as_asked crosses read (Some (Graph options)) ends = graph_told options ends
  told_as_asked crosses read (Some (Checkgraph name)) ends = checkgraph_judged name ends
  told_as_asked crosses read (Some (Reduce solve)) ends = reduces_truly solve before after status ends
  told_as_asked crosses read (Some (Obstacles stp options)) ends =
      obstacles_truly crosses read stp options before after status ends
  told_as_asked crosses read (Some (Slack above ascent)) ends = slack_printed above before after status ends
  told_as_asked crosses read None ends = tt

  -- where memory is wanting while the words are read, nothing is told
  none_answered : IsShort before after status → HasAnswered status → ⊥
  none_answered short (inl zero) = omega (arith, short.ends)
  none_answered short (inr three) = omega (arith, short.ends)

  none_judged : IsShort before after status → HasJudged status → ⊥
  none_judged short (inl zero) = omega (arith, short.ends)
  none_judged short (inr one) = omega (arith, short.ends)

  told_short : (request : Option Request) → IsShort before after status → TellsTruly request before after status
  told_short (Some (Points drawing)) short = tt
  told_short (Some Stp2points) short = tt
  told_short (Some (Rfst size)) short = tt
  told_short (Some Prunefst) short = tt
  told_short (Some (Bb options)) short = λ answered. absurd (none_answered short answered)
  told_short (Some (Solve size options)) short = λ answered. absurd (none_answered short answered)
  told_short (Some (Check name)) short = λ judged. absurd (none_judged short judged)
  told_short (Some (Dumpfst pieces)) short = tt
  told_short (Some Fst2graph) short = tt
  told_short (Some (Plot name)) short = tt
  told_short (Some (Trial drawing)) short = λ answered. absurd (none_answered short answered)
  told_short (Some (Upgrade name)) short = tt
  told_short (Some (Graph options)) short = λ answered. absurd (none_answered short answered)
  told_short (Some (Checkgraph name)) short = λ judged. absurd (none_judged short judged)
  told_short (Some (Reduce solve)) short = λ answered. absurd (none_answered short answered)
  told_short (Some (Obstacles stp options)) short = λ answered. absurd (none_answered short answered)
  told_short (Some (Slack above ascent)) short = λ zero. absurd (omega (arith, short.ends))
  told_short None short = tt

  -- The headline of a run.
  pub told_by_run : NoEdgeCrosses → ObstaclesAreReadBack → (request : Option Request) →
      IsRun request before after status → TellsTruly request before after status
  told_by_run crosses read request (inl short) = told_short request short
  told_by_run crosses read request (inr ends) = told_as_asked crosses read request ends
