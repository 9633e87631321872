-- What follows of what `reduce` printed.
use Rattle.std.proofs.Common.{ℕ, ◌≡◌, ◌+◌, Bool, true, false, List, codes, ◌⊎◌, inl, inr, subst, ap, ◌∙◌, arith}
use Rattle.std.specs.Prelude.{◌==◌, ◌↔◌}
use Rattle.std.proofs.lemmas.Bool.{eqb-true}
use Rattle.std.proofs.lemmas.Bool.Decides.{eqb_tells}
use Rattle.rst_outside.specs.Sink.{Appended}
use Rattle.net_graph.specs.Graph.{Graph, total_of}
use Rattle.net_graph.specs.Network.{length_of}
use Rattle.cert_tree.specs.declared.split.SplitOn.{SplitOn}
use Rattle.cert_tree.specs.Tree.{Tree}
use Rattle.graph_reduce.specs.Reduction.{Reduction}
use Rattle.tool_frame.specs.declared.status.AnswerStatus.{AnswerStatus}
use Rattle.tool_frame.specs.declared.status.AnswerStatus.TheVariants.{Done, Stopped}
use Rattle.tool_frame.specs.declared.take.TheConstants.{TEXT_LIMIT}
use Rattle.tool_frame.specs.Statuses.{answer_code}
use Rattle.tool_frame.specs.Outside.{Outside}
use Rattle.tool_frame.specs.Ends.{Print}
use Rattle.tool_frame.specs.EndLaws.{printed_ends}
use Rattle.tool_frame.specs.FaultTexts.{text_fault_text, text_fault_status}
use Rattle.tool_frame.specs.FromText.{FromText}
use Rattle.tool_frame.specs.Leaves.{LeavesShelf}
use Rattle.graph_search.specs.Kinds.{kind_of}
use Rattle.graph_search.specs.Searched.{bound_of}
use Rattle.graph_search.specs.TruthLaws.{ends_truly}
use Rattle.graph_tools.specs.Reading.{graph_fault_text, graph_fault_status}
use Rattle.search_rules.specs.Options.{usual_in_graph}
use Rattle.graph_tools.specs.Reduce.{IsReduced, EndsReduce, ReducesGraph}
use Rattle.graph_tools.specs.Lifted.{EndsReduceAs, EndsReduceSolve, LiftsGraph, lifted_by, lifted_status, lifted_text}
use Rattle.graph_tools.specs.ReduceTruth.{LiftsTruly, ReducesTruly}
use Rattle.graph_tools.specs.Solution.{IsPermittedGraphAnswer}

-- whether two numbers agree is whether they do with the offset
agree_with_offset : (bound length offset : ℕ) → ((bound == length) ≡ true) ↔ (bound + offset ≡ length + offset)
agree_with_offset bound length offset = grind (arith, eqb-true, eqb_tells bound length)

-- What is told of a lifted network, with its status, is true.
lifts_truly : (g : Graph) (r : Reduction) (network : List Bool) (tree : Tree SplitOn) (before after : Outside)
    (status : ℕ) → IsReduced g r → IsPermittedGraphAnswer usual_in_graph r.graph network tree →
    Appended before.written.out.taken (lifted_text (lifted_by r network tree)) after.written.out.taken →
    status ≡ answer_code (lifted_status (lifted_by r network tree)) → LiftsTruly g before after status
lifts_truly g r network tree before after status reduced permitted appended answers =
    let bound = bound_of r.graph network tree in
    let length = length_of r.graph network in
    let asked = kind_of usual_in_graph.split in
    let openings = usual_in_graph.openings in
    let ends = ends_truly r.graph asked openings (total_of r.graph) network tree status permitted.searched answers in
    let joins = permitted.searched.network_of.joins in record {
      reduction = r;
      network = network;
      tree = tree;
      reduced = reduced;
      permitted = permitted;
      printed = appended;
      joins = reduced.networks.lifts network joins;
      length = reduced.networks.length network joins;
      bound = reduced.networks.bounds bound ends.bound;
      optimal = agree_with_offset bound length r.offset;
      agrees = (
        λ zero. ap (λ n. n + r.offset) (ends.agrees.0 zero),
        λ same. ends.agrees.1 (omega (arith, same)),
      );
      shortest = λ zero. reduced.networks.shortest network (ends.shortest zero);
      stopped = ends.stopped;
    }

-- what was printed, with the status that the run ended with
reduction_printed : (before after : Outside) (status : ℕ) (s : AnswerStatus) → status ≡ answer_code s →
    EndsReduce before after status → ReducesTruly false before after status
reduction_printed before after status s is ends =
    let (print, (bytes, whole, (g, (file, task, same), (r, reduced, of_graph))), printed) =
    printed_ends (text_fault_status graph_fault_status) (text_fault_text graph_fault_text) (codes "reduce")
    (FromText TEXT_LIMIT ReducesGraph) LeavesShelf before after status s is ends in (
      bytes,
      file,
      whole.came,
      task,
      (
        r,
        subst (λ h. IsReduced h r) same reduced,
        printed.ends ∙ ap (λ (p : Print). answer_code p.status) of_graph,
        subst (λ (p : Print). Appended before.written.out.taken p.text after.written.out.taken) of_graph
            printed.wrote.appended,
      ),
    )

lifted_printed : (before after : Outside) (status : ℕ) (s : AnswerStatus) → status ≡ answer_code s →
    EndsReduceSolve before after status → ReducesTruly true before after status
lifted_printed before after status s is ends =
    let (print, (bytes, whole, (g, (file, task, same), (r, network, tree, reduced, permitted, of_graph))), printed) =
    printed_ends (text_fault_status graph_fault_status) (text_fault_text graph_fault_text) (codes "reduce")
    (FromText TEXT_LIMIT LiftsGraph) LeavesShelf before after status s is ends in (
      bytes,
      file,
      whole.came,
      task,
      subst (λ h. LiftsTruly h before after status) same
          (lifts_truly g r network tree before after status reduced permitted
          (subst (λ (p : Print). Appended before.written.out.taken p.text after.written.out.taken) of_graph
          printed.wrote.appended)
          (printed.ends ∙ ap (λ (p : Print). answer_code p.status) of_graph)),
    )

reduces_with : (solve : Bool) (before after : Outside) (status : ℕ) (s : AnswerStatus) → status ≡ answer_code s →
    EndsReduceAs solve before after status → ReducesTruly solve before after status
reduces_with true before after status s is ends = lifted_printed before after status s is ends
reduces_with false before after status s is ends = reduction_printed before after status s is ends

-- What `reduce` printed is true.
pub reduces_truly : (solve : Bool) (before after : Outside) (status : ℕ) → EndsReduceAs solve before after status →
    (status ≡ 0) ⊎ (status ≡ 3) → ReducesTruly solve before after status
reduces_truly solve before after status ends (inl zero) = reduces_with solve before after status Done zero ends
reduces_truly solve before after status ends (inr three) = reduces_with solve before after status Stopped three ends
