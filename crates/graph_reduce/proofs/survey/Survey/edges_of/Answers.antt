use Rattle.graph_reduce.proofs.lemmas.SurveyLaws.{set_has, set_written}
use Rattle.std.specs.Prelude.{length}
use Rattle.graph_reduce.proofs.survey.Survey.edges_of.Goals as goal

pub edges_at-requires : goal.edges_at-requires
edges_at-requires c = set_has c.args.work.now c.args.self.now.places.items c.args.v c.index_mut.result.now
    c.requires.survey.places c.requires.node c.index_mut.ensures.value

pub returns-clause-survey : goal.returns-clause-survey
returns-clause-survey c = record {
  places = set_written c.args.work.now (length c.args.work.now.edges) c.args.self.now.places.items c.args.v
      c.edges_at.new.places c.requires.survey.places c.requires.node c.edges_at.ensures.places;
  terminals = c.requires.survey.terminals;
}
