-- What the search found is told as it is, and so is what a search that begins anew finds in its place.
use Rattle.std.proofs.Common.{Ok, ◌∙◌, arith}
use Rattle.cert_tree.specs.PreorderLaws.{some_leaf}
use Rattle.net_graph.specs.Network.{length_of}
use Rattle.graph_search.specs.Kinds.{kind_of}
use Rattle.graph_search.proofs.SearchedLaws.{told_or_not}
use Rattle.graph_search.proofs.raised_search.searched_by.Goals as goal

pub packing-requires : goal.packing-requires
packing-requires _ c = some_leaf c.tree.result.now

pub searched_anew-requires : goal.searched_anew-requires
searched_anew-requires _ c =
    grind (arith, kind_of c.args.rule, length_of c.args.g.now c.args.first, told_or_not, c.raise.ensures.same.graph, c.in_ok-search.ensures.graph, c.raise.ensures.same.kind, c.in_ok-search.ensures.kind, c.kind_of.ensures, c.raise.ensures.same.first_length, c.in_ok-search.ensures.first, c.raise.ensures.vertices, c.solve.ensures.began, c.in_ok-solved.ensures.solved, c.in_ok-solved.ensures.few, c.in_ok-solved.ensures.stopped, c.in_ok-solved.ensures.plain)

pub returns : goal.returns
returns _ c =
    c.searched_anew.ensures (length_of c.args.g.now c.args.first)
    (told_or_not {E = Unit {0}} c.args.g.now (kind_of c.args.rule) c.args.openings (length_of c.args.g.now c.args.first)
    c.raise.new.search (Ok c.in_ok-solved.solved)
    (c.raise.ensures.same.graph ∙ c.in_ok-search.ensures.graph)
    (c.raise.ensures.same.kind ∙ c.in_ok-search.ensures.kind ∙ c.kind_of.ensures)
    (c.raise.ensures.same.first_length ∙ c.in_ok-search.ensures.first)
    c.raise.ensures.vertices c.solve.ensures.began
    c.in_ok-solved.ensures.solved c.in_ok-solved.ensures.few c.in_ok-solved.ensures.stopped c.in_ok-solved.ensures.plain)
