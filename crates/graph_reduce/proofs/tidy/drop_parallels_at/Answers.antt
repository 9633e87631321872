use Rattle.std.specs.Prelude.{length}
use Rattle.std.proofs.Common.{ap, arith}
use Rattle.graph_reduce.proofs.lemmas.Renewing.{end_below, survey_within}
use Rattle.graph_reduce.proofs.lemmas.SurveyLaws.{set_has, set_written}
use Rattle.graph_reduce.proofs.tidy.drop_parallels_at.Goals as goal

pub drop_parallels_of-requires-clause-places : goal.drop_parallels_of-requires-clause-places
drop_parallels_of-requires-clause-places c = set_has c.args.work.now c.args.survey.now.places.items
    c.less_listed-node.result c.index_mut.result.now c.requires.survey.places
    (end_below c.args.work.now c.args.place c.in-Some.edge c.less_listed-node.result c.requires.numbered
    c.in-Some.ensures c.less_listed-node.ensures) c.index_mut.ensures.value

pub returns-in-Some-clause-survey : goal.returns-in-Some-clause-survey
returns-in-Some-clause-survey c =
    let survey = survey_within c.args.work.now c.drop_parallels_of.new.work c.args.survey.now.places.items
    c.args.survey.now.terminals c.requires.survey c.drop_parallels_of.ensures.within c.drop_parallels_of.ensures.rest.0
    c.drop_parallels_of.ensures.rest.1 in
    let below = end_below c.args.work.now c.args.place c.in-Some.edge c.less_listed-node.result c.requires.numbered
    c.in-Some.ensures c.less_listed-node.ensures in
    record {
      places = set_written c.drop_parallels_of.new.work (length c.drop_parallels_of.new.work.edges)
          c.args.survey.now.places.items c.less_listed-node.result c.drop_parallels_of.new.places survey.places
          (omega (arith, below, ap length c.drop_parallels_of.ensures.rest.0)) c.drop_parallels_of.ensures.places;
      terminals = survey.terminals;
    }
