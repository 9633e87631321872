use Rattle.std.proofs.Common.{◌+◌, ap, ◌∙◌, arith, slice_index_or}
use Rattle.std.proofs.lemmas.Option.{slice_get_within, get_or_from_slice_get}
use Rattle.graph_solve.specs.JoinedLaws.{whole_set, joined_by_all}
use Rattle.net_graph.specs.Network.{IsFirstApart}
use Rattle.graph_solve.specs.Task.{all_edges}
use Rattle.graph_solve.proofs.lemmas.Joined.{apart_by_all}
use Rattle.graph_solve.proofs.task.first_apart_node.Goals as goal

pub returns-in-None-clause-none : goal.returns-in-None-clause-none
returns-in-None-clause-none c =
    grind (arith, joined_by_all c.args.g.now c.in_ok-all.all c.in_ok-first_apart.field-0 (whole_set c.args.g.now c.in_ok-all.all c.edge_count.result c.in_ok-all.ensures c.edge_count.ensures.count) c.in-None.is c.in_ok-first_apart.ensures.none)

pub bounds-terminals-place : goal.bounds-terminals-place
bounds-terminals-place c =
    grind (arith, all_edges c.args.g.now, apart_by_all c.args.g.now c.in_ok-all.all c.in_ok-first_apart.field-0 c.in-Some.place (whole_set c.args.g.now c.in_ok-all.all c.edge_count.result c.in_ok-all.ensures c.edge_count.ensures.count) c.in-Some.is c.in_ok-first_apart.ensures.first, slice_get_within, c.terminals-terminals.ensures.terminals)

pub returns-clause-first : goal.returns-clause-first
returns-clause-first c =
    let apart : IsFirstApart c.args.g.now (all_edges c.args.g.now) c.in-Some.place =
    apart_by_all c.args.g.now c.in_ok-all.all c.in_ok-first_apart.field-0 c.in-Some.place
    (whole_set c.args.g.now c.in_ok-all.all c.edge_count.result c.in_ok-all.ensures c.edge_count.ensures.count)
    c.in-Some.is c.in_ok-first_apart.ensures.first in
    record {
      place = c.in-Some.place;
      first = apart;
      named = ap (λ v. v + 1) (ap (λ ts. slice_index_or ts c.in-Some.place 0) c.terminals-terminals.ensures.terminals
          ∙ get_or_from_slice_get c.args.g.now.terminals c.in-Some.place apart.terminal 0 apart.at);
    }
