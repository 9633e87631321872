use Rattle.std.specs.Prelude.{length}
use Rattle.graph_reduce.proofs.lemmas.Renewing.{end_below}
use Rattle.graph_reduce.proofs.lemmas.SurveyLaws.{set_has, set_written}
use Rattle.graph_reduce.proofs.taken.alike.Goals as goal

pub alike_at-requires-clause-places : goal.alike_at-requires-clause-places
alike_at-requires-clause-places c = set_has c.args.work.now c.args.survey.now.places.items c.less_listed-node.result
    c.index_mut.result.now c.requires.survey.places
    (end_below c.args.work.now c.args.place c.edge_at-edge.result c.less_listed-node.result c.requires.numbered
    c.edge_at-edge.ensures c.less_listed-node.ensures) c.index_mut.ensures.value

pub returns-clause-survey : goal.returns-clause-survey
returns-clause-survey c = record {
  places = set_written c.args.work.now (length c.args.work.now.edges) c.args.survey.now.places.items
      c.less_listed-node.result c.alike_at.new.places c.requires.survey.places
      (end_below c.args.work.now c.args.place c.edge_at-edge.result c.less_listed-node.result c.requires.numbered
      c.edge_at-edge.ensures c.less_listed-node.ensures) c.alike_at.ensures.places;
  terminals = c.requires.survey.terminals;
}
