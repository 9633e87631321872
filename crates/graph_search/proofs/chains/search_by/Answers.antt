-- Plain openings lead from the leaf to what is found.
use Rattle.std.proofs.Common.{◌∙◌, arith}
use Rattle.net_graph.specs.Network.{length_of}
use Rattle.graph_search.proofs.AnewLemmas.{found_on_edges}
use Rattle.graph_search.proofs.chains.search_by.Goals as goal

pub returns : goal.returns
returns _ c =
    grind (arith, found_on_edges c.args.graph.now (length_of c.args.graph.now c.args.network) c.args.openings c.raise.new.search c.split_in_turn.new.search c.finish.result (c.in_ok-raise.ensures.same.graph ∙ c.in_ok-search.ensures.graph) (c.in_ok-raise.ensures.same.kind ∙ c.in_ok-search.ensures.kind) (c.in_ok-raise.ensures.same.first_length ∙ c.in_ok-search.ensures.first) c.in_ok-raise.ensures.leaf c.splits-made.ensures.run c.in_ok-split_in_turn.ensures.ahead c.in_ok-split_in_turn.ensures.few c.finish.ensures.network c.finish.ensures.tree c.finish.ensures.solved)
