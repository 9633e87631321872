-- From what is found of an answer to the plot of its network.
use Rattle.std.proofs.Common.{ℕ, ◌≡◌, Bool, List, Ok, subst, ap}
use Rattle.points_in.specs.Terminals.{terminals_of}
use Rattle.net_graph.specs.Network.{IsLowerBound}
use Rattle.tool_frame.specs.Outside.{Readable}
use Rattle.tool_frame.specs.Points.{grid_of_points}
use Rattle.judge_tools.specs.declared.judge.Judgement.{Judgement}
use Rattle.cert_check.specs.Named.{on_grid}
use Rattle.cert_check.specs.AcceptedLaws.{shortest_where_optimal}
use Rattle.cert_check.specs.declared.verdict.Ruling.TheVariants as said
use Rattle.cert_check.specs.Rulings.{verdict_of}
use Rattle.judge_tools.specs.Judging.{FindsJudgement}
use Rattle.judge_tools.specs.Plot.{plot_print, Plots}

-- the plot of the network of an answer that is accepted
pub found_plot : (name : List ℕ) (before after : Readable) (judgement : Judgement) (length_said bound_said : ℕ)
    (optimal_said : Bool) → FindsJudgement name before after (Ok judgement) →
    judgement.judged.ruling ≡ said.Accepted length_said bound_said optimal_said →
    Plots name before after (Ok (plot_print judgement.grid judgement.judged.network))
found_plot name before after judgement length_said bound_said optimal_said (ps, bytes, checked, of_points) is =
    let (answer, tree, accepts, length_is, bound_is, optimal_is) =
    checked.judges.accepted length_said bound_said optimal_said (ap verdict_of is) in
    let below : IsLowerBound (grid_of_points ps) answer.head.bound =
    subst (λ b. IsLowerBound (grid_of_points ps) b) bound_is
    (checked.judges.bound length_said bound_said optimal_said (ap verdict_of is)) in (
      ps,
      bytes,
      judgement.judged.network,
      record {
        points = checked.points;
        input = checked.input;
        answer = answer;
        tree = tree;
        accepts = accepts;
        bounds = below;
        shortest = shortest_where_optimal (on_grid (terminals_of ps)) bytes answer judgement.judged.network tree accepts below;
      },
      ap (λ grid. plot_print grid judgement.judged.network) of_points,
    )
