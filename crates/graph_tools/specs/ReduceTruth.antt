-- What is true where `reduce` printed.
use Rattle.std.specs.Prelude.{ℕ, ◌≡◌, Bool, true, false, List, ◌↔◌}
use Rattle.rst_outside.specs.Sink.{Appended}
use Rattle.rst_outside.specs.Source.{CameToTheEnd}
use Rattle.net_graph.specs.Graph.{Graph, total_of}
use Rattle.net_graph.specs.Network.{IsLowerBound, IsNetwork, IsShortest, length_of}
use Rattle.stp_format.specs.Value.{StpValue}
use Rattle.cert_tree.specs.declared.split.SplitOn.{SplitOn}
use Rattle.cert_tree.specs.Tree.{Tree}
use Rattle.cert_tree.specs.Preorder.{split_count}
use Rattle.branch.specs.Runs.{EndsOpenings}
use Rattle.graph_reduce.specs.Reduction.{Reduction}
use Rattle.reduced_text.specs.Text.{reduced_text}
use Rattle.graph_solve.specs.Task.{graph_of_stp}
use Rattle.tool_frame.specs.Outside.{Outside}
use Rattle.graph_tools.specs.Reading.{IsTaskText}
use Rattle.search_rules.specs.Options.{usual_in_graph}
use Rattle.graph_tools.specs.Reduce.{IsReduced}
use Rattle.graph_tools.specs.Lifted.{lifted_by, lifted_text}
use Rattle.graph_tools.specs.Solution.{IsPermittedGraphAnswer}

-- `out` gained the reduction of the graph, and the status is 0.
abbrev pub PrintsReductionTruly : Graph → Outside → Outside → ℕ → Type 0
PrintsReductionTruly g before after status =
    (r : Reduction) × IsReduced g r × (status ≡ 0)
    × Appended before.written.out.taken (reduced_text r) after.written.out.taken

-- `out` gained what is told of the lifted network of an answer that may be printed in the graph's reduction where no
-- word asks for anything else. The printed set is a network of the graph with the printed length, and no network of the
-- graph is shorter than the printed bound. It says optimal, and the status is 0, exactly where both agree, and then the
-- network is a shortest one. The status is 3 only where the answer's tree has 100 splits, each of them made by an
-- opening.
pub record LiftsTruly (g : Graph) (before after : Outside) (status : ℕ) : Type 0 where
  pub reduction : Reduction
  pub network : List Bool
  pub tree : Tree SplitOn
  pub reduced : IsReduced g reduction
  pub permitted : IsPermittedGraphAnswer usual_in_graph reduction.graph network tree
  pub printed : Appended before.written.out.taken (lifted_text (lifted_by reduction network tree))
      after.written.out.taken
  pub joins : IsNetwork g (lifted_by reduction network tree).network
  pub length : length_of g (lifted_by reduction network tree).network ≡ (lifted_by reduction network tree).length
  pub bound : IsLowerBound g (lifted_by reduction network tree).bound
  pub optimal : ((lifted_by reduction network tree).optimal ≡ true)
      ↔ ((lifted_by reduction network tree).bound ≡ (lifted_by reduction network tree).length)
  pub agrees : (status ≡ 0)
      ↔ ((lifted_by reduction network tree).bound ≡ (lifted_by reduction network tree).length)
  pub shortest : status ≡ 0 → IsShortest g (lifted_by reduction network tree).network
  pub stopped : status ≡ 3 → (split_count tree ≡ 100)
      × EndsOpenings reduction.graph (total_of reduction.graph) 100 network tree

-- What was printed of a graph, with or without the flag, is true.
abbrev pub PrintsTruly : Bool → Graph → Outside → Outside → ℕ → Type 0
PrintsTruly true g before after status = LiftsTruly g before after status
PrintsTruly false g before after status = PrintsReductionTruly g before after status

-- The input was read to its end, it is an STP file whose graph is a Steiner problem, and what was printed of this graph
-- is true.
abbrev pub ReducesTruly : Bool → Outside → Outside → ℕ → Type 0
ReducesTruly solve before after status =
    (bytes : List ℕ) × (file : StpValue)
    × CameToTheEnd before.read.input.rest bytes after.read.input.rest
    × IsTaskText bytes file
    × PrintsTruly solve (graph_of_stp file) before after status
