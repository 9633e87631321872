-- A run that nothing troubles ends with an answer, or memory was wanting.
use Rattle.std.proofs.Common.{ℕ, ◌≡◌, List, length, codes, Some, Ok, Err, ◌⊎◌, inl, inr, sym, subst, ap, ◌∙◌, Bool, Option}
use Rattle.std.proofs.lemmas.Bool.Decides.{eqb_tells}
use Rattle.points_in.specs.declared.point.Point.{Point}
use Rattle.net_graph.specs.Network.{length_of}
use Rattle.hanan_grid.specs.Grid.{hanan_grid_of}
use Rattle.full_tree.specs.declared.code.Tree.{Tree}
use Rattle.concatenation.specs.Concatenation.{IsConcatenation, all_of}
use Rattle.fst_concat.specs.Chosen.{IsFirstApart}
use Rattle.tool_frame.specs.declared.take.TheConstants.{TEXT_LIMIT}
use Rattle.tool_frame.specs.declared.text_fault.TextFault.{TextFault}
use Rattle.tool_frame.specs.declared.text_fault.TextFault.TheVariants as text_fault
use Rattle.tool_frame.specs.Statuses.{answer_code}
use Rattle.tool_frame.specs.Outside.{Readable, Outside}
use Rattle.tool_frame.specs.Ends.{Print}
use Rattle.tool_frame.specs.EndLaws.{complete_ends}
use Rattle.tool_frame.specs.FaultTexts.{input_fault_text, input_fault_status, list_fault_text, list_fault_status, text_fault_text, text_fault_status}
use Rattle.tool_frame.specs.FromText.{FromText}
use Rattle.tool_frame.specs.Leaves.{LeavesShelf, LeavesFiles, LeavesAll}
use Rattle.tool_frame.specs.Complete.{HasInput, HasFile}
use Rattle.tool_frame.specs.Points.{ListsPoints, IsListFault, grid_of_points}
use Rattle.tool_frame.specs.TakingLaws.{input_is_taken, whole_input_is, whole_file_is, lists_points_faultless, file_faultless}
use Rattle.search_tools.specs.declared.build_fault.BuildFault.{BuildFault}
use Rattle.search_tools.specs.declared.build_fault.BuildFault.TheVariants as build_fault
use Rattle.graph_search.specs.Searched.{bound_of}
use Rattle.graph_search.specs.Status.{status_of_bound}
use Rattle.search_tools.specs.Build.{Builds, EndsBb, build_fault_text, build_fault_status}
use Rattle.search_tools.specs.Solve.{Solves, EndsSolve}
use Rattle.judge_tools.specs.declared.judge.TheConstants.{ANSWER_LIMIT}
use Rattle.judge_tools.specs.declared.judge.CheckFault.{CheckFault}
use Rattle.judge_tools.specs.declared.judge.CheckFault.TheVariants as check_fault
use Rattle.cert_check.specs.declared.verdict.Ruling.{Ruling}
use Rattle.cert_check.specs.declared.verdict.Ruling.TheVariants as said
use Rattle.verdict_line.specs.Verdicts.{ruling_status}
use Rattle.judge_tools.specs.declared.plotting.PlotFault.{PlotFault}
use Rattle.judge_tools.specs.declared.plotting.PlotFault.TheVariants as plot_fault
use Rattle.judge_tools.specs.Check.{Checks, EndsCheck, check_fault_text, check_fault_status}
use Rattle.judge_tools.specs.Plot.{Plots, EndsPlot, plot_fault_text, plot_fault_status}
use Rattle.judge_tools.specs.declared.upgrading.TheConstants.{UPGRADE_LIMIT}
use Rattle.judge_tools.specs.declared.upgrading.UpgradeFault.{UpgradeFault}
use Rattle.judge_tools.specs.declared.upgrading.UpgradeFault.TheVariants as upgrade_fault
use Rattle.judge_tools.specs.Upgrade.{Upgrades, EndsUpgrade, upgrade_fault_text, upgrade_fault_status}
use Rattle.answer_upgrade.specs.Upgraded.{IsSpelling}
use Rattle.cert_check.specs.Accepted.{IsAccepted, IsAccepting}
use Rattle.points_in.specs.Text.{IsPointText}
use Rattle.fst_file.specs.Value.{FstValue}
use Rattle.fst_file.specs.Text.{SpellsFstFile}
use Rattle.fst_file.specs.declared.fault.FstFault.{FstFault}
use Rattle.fst_file.specs.Said.{fst_fault_text}
use Rattle.tree_inputs.specs.Files.{ReadsFst, SpelledHasNoFault, OneReading, fst_fault_status}
use Rattle.stp_format.specs.declared.fault.StpFault.{StpFault}
use Rattle.point_tools.specs.Points.{PrintsDrawn, EndsPoints}
use Rattle.stp_format.specs.Said.{stp_fault_text}
use Rattle.point_tools.specs.StpPoints.{LocatesPoints, PrintsLocated, LocatedHasNoFault, EndsStp2points, stp_fault_status}
use Rattle.tree_tools.specs.Dump.{Dumps, EndsDumpfst}
use Rattle.tree_tools.specs.Graph.{GraphsFile, EndsFst2graph}
use Rattle.tree_tools.specs.Pruning.{PrunesFile, EndsPrunefst}
use Rattle.points_in.specs.FaultLaws.{one_list}
use Rattle.points_in.specs.Terminals.{terminals_of}
use Rattle.fst_gen.specs.Trees.{HasMoreSets}
use Rattle.tree_inputs.specs.declared.generation_fault.GenerationFault.{GenerationFault}
use Rattle.tree_inputs.specs.declared.generation_fault.GenerationFault.TheVariants as generation_fault
use Rattle.tree_inputs.specs.GenerationFaults.{generation_fault_text, generation_fault_status}
use Rattle.tree_tools.specs.Generation.{GeneratesFile, EndsRfst}
use Rattle.tree_inputs.specs.Generation.{most_members}
use Rattle.search_tools.specs.Trial.{EndsTrial, Tries, drawn_grid, drawn_terminals}
use Rattle.tool_frame.specs.declared.points.ListFault.{ListFault}
use Rattle.slack_tools.specs.Slack.{BoundsEdges, EndsSlack}
use Rattle.search_rules.specs.declared.options.SearchOptions.{SearchOptions}
use Rattle.search_rules.specs.declared.rules.AscentRule.{AscentRule}
use Rattle.requests.specs.declared.request.Drawing.{Drawing}
use Rattle.requests.specs.Requests.Request.{Points, Stp2points, Rfst, Prunefst, Bb, Solve, Check, Dumpfst, Fst2graph, Plot, Trial, Upgrade, Slack}
use Rattle.suite.specs.Complete.{Completes}

-- The status of an answer is 0 or 3.
pub zero_or_three : (bound length status : ℕ) → status ≡ answer_code (status_of_bound bound length) → (status ≡ 0) ⊎ (status ≡ 3)
zero_or_three bound length status is = elim (eqb_tells bound length) [
  | inl (holds, equal) ↦ let ends : status ≡ 0 = rw holds at is in inl ends
  | inr (fails, apart) ↦ let ends : status ≡ 3 = rw fails at is in inr ends
]

-- a file that lists points and an input within the limit have no fault
check_faultless : (name : List ℕ) (before after : Readable) (points bytes : List ℕ) (ps : List Point) → HasFile TEXT_LIMIT before.shelf after.shelf name points → ListsPoints points ps →
    HasInput ANSWER_LIMIT before.input after.input bytes → (fault : CheckFault) → Checks name before after (Err fault) → ⊥
check_faultless name before after points bytes ps file lists has (check_fault.Points fault) (is, same) =
    file_faultless TEXT_LIMIT before.shelf after.shelf name points ps fault file lists is
check_faultless name before after points bytes ps file lists has (check_fault.Input fault) (grid, is) =
    input_is_taken ANSWER_LIMIT before.input after.input bytes fault has is

-- The status of a verdict is 0 or 1.
pub zero_or_one : (ruling : Ruling) (status : ℕ) → status ≡ answer_code (ruling_status ruling) → (status ≡ 0) ⊎ (status ≡ 1)
zero_or_one (said.Accepted length bound optimal) status is = inl is
zero_or_one (said.Refused cause) status is = inr is

pub check_completes : (name : List ℕ) (before after : Outside) (status : ℕ) → EndsCheck name before after status → Completes (Some (Check name)) before after status
check_completes name before after status ends = λ points bytes ps file lists has writes.
    elim (complete_ends check_fault_status check_fault_text (codes "check") (Checks name) LeavesFiles before after status
    (check_faultless name before.read after.read points bytes ps file lists has) writes ends.ends) [
      | inl seven ↦ inr seven
      | inr (print, (qs, taken, f, ruling, checked, tells, of_line), answers) ↦
          inl (zero_or_one ruling status (answers ∙ ap (λ (p : Print). answer_code p.status) of_line))
    ]

-- such a file and an input that is accepted for its points have none
plot_faultless : (name : List ℕ) (before after : Readable) (points bytes : List ℕ) (ps : List Point) →
    HasFile TEXT_LIMIT before.shelf after.shelf name points → ListsPoints points ps →
    HasInput ANSWER_LIMIT before.input after.input bytes → IsAccepted (terminals_of ps) bytes →
    (fault : PlotFault) → Plots name before after (Err fault) → ⊥
plot_faultless name before after points bytes ps file lists has some (plot_fault.Unjudged fault) is =
    check_faultless name before after points bytes ps file lists has fault is
plot_faultless name before after points bytes ps file lists has some (plot_fault.Refused cause)
    (qs, taken, f, checked, is) =
    let (listed, whole, of_file) = checked.points in
    let same_file : listed ≡ points =
    whole_file_is TEXT_LIMIT before.shelf after.shelf name points listed file whole in
    let same_points : ps ≡ qs =
    one_list points ps qs lists.text (subst (λ b. IsPointText b qs) same_file of_file.text) in
    let same_bytes : bytes ≡ taken =
    sym (whole_input_is ANSWER_LIMIT before.input after.input bytes taken has checked.input) in
    let of_points : IsAccepted (terminals_of qs) bytes =
    subst (λ rs. IsAccepted (terminals_of rs) bytes) same_points some in
    let accepted = subst (λ b. IsAccepted (terminals_of qs) b) same_bytes of_points in
    absurd (subst IsAccepting is (checked.judges.complete checked.input.within accepted))

pub plot_completes : (name : List ℕ) (before after : Outside) (status : ℕ) → EndsPlot name before after status →
    Completes (Some (Plot name)) before after status
plot_completes name before after status ends = λ points bytes ps file lists has some writes.
    elim (complete_ends plot_fault_status plot_fault_text (codes "plot") (Plots name) LeavesFiles before after status
    (plot_faultless name before.read after.read points bytes ps file lists has some) writes ends.ends) [
      | inl seven ↦ inr seven
      | inr (print, (qs, taken, network, plotted, of_network), answers) ↦
          inl (answers ∙ ap (λ (p : Print). answer_code p.status) of_network)
    ]

-- such a file and an input that spells an answer for the vertices of its points' grid have none
upgrade_faultless : (name : List ℕ) (before after : Readable) (points bytes : List ℕ) (ps : List Point) →
    HasFile TEXT_LIMIT before.shelf after.shelf name points → ListsPoints points ps →
    HasInput UPGRADE_LIMIT before.input after.input bytes → IsSpelling (grid_of_points ps).vertices bytes →
    (fault : UpgradeFault) → Upgrades name before after (Err fault) → ⊥
upgrade_faultless name before after points bytes ps file lists has some (upgrade_fault.Points fault) (is, same) =
    file_faultless TEXT_LIMIT before.shelf after.shelf name points ps fault file lists is
upgrade_faultless name before after points bytes ps file lists has some (upgrade_fault.Input fault) (grid, is) =
    input_is_taken UPGRADE_LIMIT before.input after.input bytes fault has is
upgrade_faultless name before after points bytes ps file lists has some (upgrade_fault.Misspelled line)
    (qs, taken, is_taken, (events, stops)) =
    let (listed, whole, of_file) = is_taken.points in
    let same_file : listed ≡ points =
    whole_file_is TEXT_LIMIT before.shelf after.shelf name points listed file whole in
    let same_points : ps ≡ qs =
    one_list points ps qs lists.text (subst (λ b. IsPointText b qs) same_file of_file.text) in
    let same_bytes : bytes ≡ taken =
    sym (whole_input_is UPGRADE_LIMIT before.input after.input bytes taken has is_taken.input) in
    let of_points : IsSpelling (grid_of_points qs).vertices bytes =
    subst (λ rs. IsSpelling (grid_of_points rs).vertices bytes) same_points some in
    let (answer, spells) = subst (λ b. IsSpelling (grid_of_points qs).vertices b) same_bytes of_points in
    stops.unspelled answer spells

pub upgrade_completes : (name : List ℕ) (before after : Outside) (status : ℕ) → EndsUpgrade name before after status →
    Completes (Some (Upgrade name)) before after status
upgrade_completes name before after status ends = λ points bytes ps file lists has some writes.
    elim (complete_ends upgrade_fault_status upgrade_fault_text (codes "upgrade") (Upgrades name) LeavesFiles before after status
    (upgrade_faultless name before.read after.read points bytes ps file lists has some) writes ends) [
      | inl seven ↦ inr seven
      | inr (print, (qs, taken, answer, is_taken, spells, keeps, of_answer), answers) ↦
          inl (answers ∙ ap (λ (p : Print). answer_code p.status) of_answer)
    ]

-- an input that spells a file of full trees has no fault
dump_faultless : SpelledHasNoFault → (pieces : Bool) (before after : Readable) (bytes : List ℕ) (file : FstValue) → HasInput TEXT_LIMIT before.input after.input bytes → SpellsFstFile bytes file →
    (fault : TextFault FstFault) → FromText TEXT_LIMIT (Dumps pieces) before after (Err fault) → ⊥
dump_faultless law pieces before after bytes file has spells (text_fault.Input fault) is = input_is_taken TEXT_LIMIT before.input after.input bytes fault has is
dump_faultless law pieces before after bytes file has spells (text_fault.Text fault) (taken, whole, is) =
    law bytes file fault spells (subst (λ b. ReadsFst b (Err fault)) (whole_input_is TEXT_LIMIT before.input after.input bytes taken has whole) is)

pub dump_completes : SpelledHasNoFault → (pieces : Bool) (before after : Outside) (status : ℕ) → EndsDumpfst pieces before after status → Completes (Some (Dumpfst pieces)) before after status
dump_completes law pieces before after status ends = λ bytes file has spells writes.
    elim (complete_ends (text_fault_status fst_fault_status) (text_fault_text fst_fault_text) (codes "dumpfst") (FromText TEXT_LIMIT (Dumps pieces)) LeavesShelf before after status
    (dump_faultless law pieces before.read after.read bytes file has spells) writes ends) [
      | inl seven ↦ inr seven
      | inr (print, (taken, whole, (other, spelled, of_file)), answers) ↦ inl (answers ∙ ap (λ (p : Print). answer_code p.status) of_file)
    ]

prune_faultless : SpelledHasNoFault → (before after : Readable) (bytes : List ℕ) (file : FstValue) → HasInput TEXT_LIMIT before.input after.input bytes → SpellsFstFile bytes file →
    (fault : TextFault FstFault) → FromText TEXT_LIMIT PrunesFile before after (Err fault) → ⊥
prune_faultless law before after bytes file has spells (text_fault.Input fault) is = input_is_taken TEXT_LIMIT before.input after.input bytes fault has is
prune_faultless law before after bytes file has spells (text_fault.Text fault) (taken, whole, is) =
    law bytes file fault spells (subst (λ b. ReadsFst b (Err fault)) (whole_input_is TEXT_LIMIT before.input after.input bytes taken has whole) is)

pub prune_completes : SpelledHasNoFault → (before after : Outside) (status : ℕ) → EndsPrunefst before after status → Completes (Some Prunefst) before after status
prune_completes law before after status ends = λ bytes file has spells writes.
    elim (complete_ends (text_fault_status fst_fault_status) (text_fault_text fst_fault_text) (codes "prunefst") (FromText TEXT_LIMIT PrunesFile) LeavesShelf before after status
    (prune_faultless law before.read after.read bytes file has spells) writes ends) [
      | inl seven ↦ inr seven
      | inr (print, (taken, whole, (other, kept, spelled, are, of_file)), answers) ↦ inl (answers ∙ ap (λ (p : Print). answer_code p.status) of_file)
    ]

-- bytes that list points with no more trees than a file holds have no fault
file_has_no_fault : (k : ℕ) (bytes : List ℕ) (ps : List Point) → ListsPoints bytes ps → ¬ HasMoreSets (terminals_of ps) k 20000 →
    (fault : GenerationFault) → GeneratesFile k bytes (Err fault) → ⊥
file_has_no_fault k bytes ps lists few (generation_fault.List fault) is = lists_points_faultless bytes ps fault lists is
file_has_no_fault k bytes ps lists few generation_fault.TooManyTrees (qs, other, more) =
    few (subst (λ rs. HasMoreSets (terminals_of rs) k 20000) (one_list bytes qs ps other.text lists.text) more)

-- an input of such bytes has none
rfst_faultless : (k : ℕ) (before after : Readable) (bytes : List ℕ) (ps : List Point) → HasInput TEXT_LIMIT before.input after.input bytes → ListsPoints bytes ps →
    ¬ HasMoreSets (terminals_of ps) k 20000 →
    (fault : TextFault GenerationFault) → FromText TEXT_LIMIT (GeneratesFile k) before after (Err fault) → ⊥
rfst_faultless k before after bytes ps has lists few (text_fault.Input fault) is = input_is_taken TEXT_LIMIT before.input after.input bytes fault has is
rfst_faultless k before after bytes ps has lists few (text_fault.Text fault) (taken, whole, is) =
    file_has_no_fault k bytes ps lists few fault
    (subst (λ b. GeneratesFile k b (Err fault)) (whole_input_is TEXT_LIMIT before.input after.input bytes taken has whole) is)

pub rfst_completes : (k : ℕ) (before after : Outside) (status : ℕ) → EndsRfst k before after status → Completes (Some (Rfst k)) before after status
rfst_completes k before after status ends = λ bytes ps has lists few writes.
    elim (complete_ends (text_fault_status generation_fault_status) (text_fault_text generation_fault_text) (codes "rfst")
    (FromText TEXT_LIMIT (GeneratesFile k)) LeavesShelf before after status
    (rfst_faultless k before.read after.read bytes ps has lists few) writes ends) [
      | inl seven ↦ inr seven
      | inr (print, (taken, whole, (qs, trees, listed, are, of_file)), answers) ↦ inl (answers ∙ ap (λ (p : Print). answer_code p.status) of_file)
    ]

-- points with no more trees than a file holds give a file
generation_faultless : (search : SearchOptions) (k : ℕ) (before after : Readable) (bytes : List ℕ) (ps : List Point) → HasInput TEXT_LIMIT before.input after.input bytes → ListsPoints bytes ps →
    ¬ HasMoreSets (terminals_of ps) k 20000 →
    (fault : TextFault GenerationFault) → FromText TEXT_LIMIT (Solves search k) before after (Err fault) → ⊥
generation_faultless search k before after bytes ps has lists few (text_fault.Input fault) is = input_is_taken TEXT_LIMIT before.input after.input bytes fault has is
generation_faultless search k before after bytes ps has lists few (text_fault.Text (generation_fault.List fault)) (taken, whole, is) =
    lists_points_faultless bytes ps fault lists
    (subst (λ b. IsListFault b fault) (whole_input_is TEXT_LIMIT before.input after.input bytes taken has whole) is)
generation_faultless search k before after bytes ps has lists few (text_fault.Text generation_fault.TooManyTrees) (taken, whole, is) =
    file_has_no_fault k bytes ps lists few generation_fault.TooManyTrees
    (subst (λ b. GeneratesFile k b (Err generation_fault.TooManyTrees)) (whole_input_is TEXT_LIMIT before.input after.input bytes taken has whole) is)

pub solve_completes : (size : ℕ) (search : SearchOptions) (before after : Outside) (status : ℕ) → EndsSolve search size before after status → Completes (Some (Solve size search)) before after status
solve_completes size search before after status ends = λ bytes ps has lists few writes.
    elim (complete_ends (text_fault_status generation_fault_status) (text_fault_text generation_fault_text) (codes "solve") (FromText TEXT_LIMIT (Solves search size)) LeavesShelf before after status
    (generation_faultless search size before.read after.read bytes ps has lists few) writes ends) [
      | inl seven ↦ inr seven
      | inr (print, (taken, whole, (qs, network, tree, note, solved, of_points)), answers) ↦
          inl (zero_or_three (bound_of (hanan_grid_of (terminals_of qs)) network tree) (length_of (hanan_grid_of (terminals_of qs)) network) status (answers ∙ ap (λ (p : Print). answer_code p.status) of_points))
    ]

-- where all trees join the terminals none is apart
none_apart : (n : ℕ) (trees : List Tree) (place : ℕ) → IsConcatenation n trees (all_of trees) → IsFirstApart n trees (all_of trees) place → ⊥
none_apart n trees place joins is = is.apart (joins.joins place is.within)

-- bytes that spell a file whose trees join its points have no fault
build_faultless : SpelledHasNoFault → OneReading → (search : SearchOptions) (bytes : List ℕ) (file : FstValue) → SpellsFstFile bytes file → IsConcatenation (length file.points) file.trees (all_of file.trees) →
    (fault : BuildFault) → Builds search bytes (Err fault) → ⊥
build_faultless law one search bytes file spells joins (build_fault.InFile fault) is = law bytes file fault spells is
build_faultless law one search bytes file spells joins (build_fault.Apart place) (other, spelled, apart) =
    let same = one bytes other file spelled spells in
    none_apart (length file.points) file.trees place joins
    (subst (λ (f : FstValue). IsFirstApart (length f.points) f.trees (all_of f.trees) place) same apart)

bb_faultless : SpelledHasNoFault → OneReading → (search : SearchOptions) (before after : Readable) (bytes : List ℕ) (file : FstValue) → HasInput TEXT_LIMIT before.input after.input bytes → SpellsFstFile bytes file →
    IsConcatenation (length file.points) file.trees (all_of file.trees) →
    (fault : TextFault BuildFault) → FromText TEXT_LIMIT (Builds search) before after (Err fault) → ⊥
bb_faultless law one search before after bytes file has spells joins (text_fault.Input fault) is = input_is_taken TEXT_LIMIT before.input after.input bytes fault has is
bb_faultless law one search before after bytes file has spells joins (text_fault.Text fault) (taken, whole, is) =
    build_faultless law one search bytes file spells joins fault
    (subst (λ b. Builds search b (Err fault)) (whole_input_is TEXT_LIMIT before.input after.input bytes taken has whole) is)

pub bb_completes : SpelledHasNoFault → OneReading → (search : SearchOptions) (before after : Outside) (status : ℕ) → EndsBb search before after status → Completes (Some (Bb search)) before after status
bb_completes law one search before after status ends = λ bytes file has spells joins writes.
    elim (complete_ends (text_fault_status build_fault_status) (text_fault_text build_fault_text) (codes "bb") (FromText TEXT_LIMIT (Builds search)) LeavesShelf before after status
    (bb_faultless law one search before.read after.read bytes file has spells joins) writes ends) [
      | inl seven ↦ inr seven
      | inr (print, (taken, whole, (other, network, tree, note, spelled, permitted, of_file)), answers) ↦
          inl (zero_or_three (bound_of (hanan_grid_of other.points) network tree) (length_of (hanan_grid_of other.points) network) status (answers ∙ ap (λ (p : Print). answer_code p.status) of_file))
    ]

graph_faultless : SpelledHasNoFault → (before after : Readable) (bytes : List ℕ) (file : FstValue) → HasInput TEXT_LIMIT before.input after.input bytes → SpellsFstFile bytes file →
    (fault : TextFault FstFault) → FromText TEXT_LIMIT GraphsFile before after (Err fault) → ⊥
graph_faultless law before after bytes file has spells (text_fault.Input fault) is = input_is_taken TEXT_LIMIT before.input after.input bytes fault has is
graph_faultless law before after bytes file has spells (text_fault.Text fault) (taken, whole, is) =
    law bytes file fault spells (subst (λ b. ReadsFst b (Err fault)) (whole_input_is TEXT_LIMIT before.input after.input bytes taken has whole) is)

pub graph_completes : SpelledHasNoFault → (before after : Outside) (status : ℕ) → EndsFst2graph before after status → Completes (Some Fst2graph) before after status
graph_completes law before after status ends = λ bytes file has spells writes.
    elim (complete_ends (text_fault_status fst_fault_status) (text_fault_text fst_fault_text) (codes "fst2graph") (FromText TEXT_LIMIT GraphsFile) LeavesShelf before after status
    (graph_faultless law before.read after.read bytes file has spells) writes ends) [
      | inl seven ↦ inr seven
      | inr (print, (taken, whole, (other, spelled, of_file)), answers) ↦ inl (answers ∙ ap (λ (p : Print). answer_code p.status) of_file)
    ]

-- drawing has no fault
pub points_completes : (drawing : Drawing) (before after : Outside) (status : ℕ) → EndsPoints drawing.count drawing.seed before after status →
    Completes (Some (Points drawing)) before after status
points_completes drawing before after status ends = λ writes.
    elim (complete_ends input_fault_status input_fault_text (codes "points") (λ _ _. PrintsDrawn drawing.count drawing.seed) LeavesAll before after status
    (λ fault none. none) writes ends) [
      | inl seven ↦ inr seven
      | inr (print, of_points, answers) ↦ inl (answers ∙ ap (λ (p : Print). answer_code p.status) of_points)
    ]

-- an input that is an STP file with points for its terminals has no fault
stp_faultless : LocatedHasNoFault → (before after : Readable) (bytes : List ℕ) (ps : List Point) → HasInput TEXT_LIMIT before.input after.input bytes → LocatesPoints bytes (Ok ps) →
    (fault : TextFault StpFault) → FromText TEXT_LIMIT PrintsLocated before after (Err fault) → ⊥
stp_faultless law before after bytes ps has located (text_fault.Input fault) is = input_is_taken TEXT_LIMIT before.input after.input bytes fault has is
stp_faultless law before after bytes ps has located (text_fault.Text fault) (taken, whole, is) =
    law bytes ps fault located (subst (λ b. LocatesPoints b (Err fault)) (whole_input_is TEXT_LIMIT before.input after.input bytes taken has whole) is)

pub stp_completes : LocatedHasNoFault → (before after : Outside) (status : ℕ) → EndsStp2points before after status → Completes (Some Stp2points) before after status
stp_completes law before after status ends = λ bytes ps has located writes.
    elim (complete_ends (text_fault_status stp_fault_status) (text_fault_text stp_fault_text) (codes "stp2points") (FromText TEXT_LIMIT PrintsLocated) LeavesShelf before after status
    (stp_faultless law before.read after.read bytes ps has located) writes ends) [
      | inl seven ↦ inr seven
      | inr (print, (taken, whole, (other, found, of_points)), answers) ↦ inl (answers ∙ ap (λ (p : Print). answer_code p.status) of_points)
    ]

-- drawn points with no more trees than a file holds have no fault
trial_faultless : (n seed : ℕ) → ¬ HasMoreSets (drawn_terminals n seed) most_members 20000 →
    (fault : GenerationFault) → Tries n seed (Err fault) → ⊥
trial_faultless n seed few (generation_fault.List fault) is = is
trial_faultless n seed few generation_fault.TooManyTrees is = few is

pub trial_completes : (drawing : Drawing) (before after : Outside) (status : ℕ) →
    EndsTrial drawing.count drawing.seed before after status → Completes (Some (Trial drawing)) before after status
trial_completes drawing before after status ends = λ few writes.
    let g = drawn_grid drawing.count drawing.seed in
    elim (complete_ends generation_fault_status generation_fault_text (codes "trial")
    (λ _ _. Tries drawing.count drawing.seed) LeavesAll before after status
    (trial_faultless drawing.count drawing.seed few) writes ends) [
      | inl seven ↦ inr seven
      | inr (print, (network, tree, tried, of_line), answers) ↦
          inl (zero_or_three (bound_of g network tree) (length_of g network) status
          (answers ∙ ap (λ (p : Print). answer_code p.status) of_line))
    ]

-- an input that lists points has no fault
slack_faultless : (above : Option ℕ) (before after : Readable) (bytes : List ℕ) (ps : List Point) →
    HasInput TEXT_LIMIT before.input after.input bytes → ListsPoints bytes ps →
    (fault : TextFault ListFault) → FromText TEXT_LIMIT (BoundsEdges above) before after (Err fault) → ⊥
slack_faultless above before after bytes ps has lists (text_fault.Input fault) is =
    input_is_taken TEXT_LIMIT before.input after.input bytes fault has is
slack_faultless above before after bytes ps has lists (text_fault.Text fault) (taken, whole, is) =
    lists_points_faultless bytes ps fault lists
    (subst (λ b. IsListFault b fault) (whole_input_is TEXT_LIMIT before.input after.input bytes taken has whole) is)

pub slack_completes : (above : Option ℕ) (ascent : AscentRule) (before after : Outside) (status : ℕ) →
    EndsSlack above before after status → Completes (Some (Slack above ascent)) before after status
slack_completes above ascent before after status ends = λ bytes ps has lists writes.
    elim (complete_ends (text_fault_status list_fault_status) (text_fault_text list_fault_text) (codes "slack")
    (FromText TEXT_LIMIT (BoundsEdges above)) LeavesShelf before after status
    (slack_faultless above before.read after.read bytes ps has lists) writes ends) [
      | inl seven ↦ inr seven
      | inr (print, (taken, whole, (qs, bounds, listed, are, of_points)), answers) ↦
          inl (answers ∙ ap (λ (p : Print). answer_code p.status) of_points)
    ]
