use Rattle.std.proofs.Common.{◌∙◌}
use Rattle.graph_reduce.proofs.lemmas.SurveyLaws.{listed_edge}
use Rattle.graph_reduce.proofs.survey.list_ends.Goals as goal

pub returns-in_ok-list-2 : goal.returns-in_ok-list-2
returns-in_ok-list-2 c = listed_edge c.args.work.now c.args.place c.args.places.now c.list-in-Some.new.places
    c.requires.listed (c.list-in-Some.ensures.size ∙ c.list.ensures.size)
    (λ u n is. c.list-in-Some.ensures.kept u n (c.list.ensures.kept u n is)) c.in-Some.edge c.in-Some.ensures
    (c.list-in-Some.ensures.kept c.in-Some.edge.a c.args.place c.in_ok-list.ensures.listed)
    c.in_ok-list-2.ensures.listed
