-- Of an answer that is accepted the plot of its network is found.
use Rattle.tool_frame.specs.Outside.{readable}
use Rattle.judge_tools.proofs.Pictures.{found_plot}
use Rattle.judge_tools.proofs.plotting.picture_of.Goals as goal

pub returns-in-Accepted-clause-finds : goal.returns-in-Accepted-clause-finds
returns-in-Accepted-clause-finds g c =
    let found = rw c.in_ok-judgement.ensures at c.judge.ensures.finds in
    found_plot c.args.points_name.now
    (readable (g.I.Source.state c.args.input.now) (g.S.Shelf.state c.args.shelf.now))
    (readable (g.I.Source.state c.judge.new.input) (g.S.Shelf.state c.judge.new.shelf))
    c.in_ok-judgement.judgement c.in-Accepted.length c.in-Accepted.bound c.in-Accepted.optimal found c.in-Accepted.is
