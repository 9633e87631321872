use Rattle.graph_reduce.proofs.lemmas.Clearing.{then_steps}
use Rattle.graph_reduce.proofs.tidy.drop_idle_and_loops.Goals as goal

pub returns-clause-leads : goal.returns-clause-leads
returns-clause-leads c = then_steps c.args.work.now c.drop_idle_edges.new.work c.drop_loops.new.work
    c.drop_idle_edges.ensures.leads c.drop_loops.ensures.leads
