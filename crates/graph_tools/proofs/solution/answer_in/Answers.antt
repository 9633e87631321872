-- The answer is one in the graph: the search began with a network no longer than all edges together.
use Rattle.std.proofs.Common.{◌<◌, ◌≤◌, ◌^◌, arith, length, subst, sym, ap, ◌∙◌}
use Rattle.net_graph.specs.Network.{length_of}
use Rattle.answer_text.specs.declared.answer.Answer.{Answer}
use Rattle.answer_text.specs.Answers.{IsAnswerOn, graph_value_of}
use Rattle.answer_text.specs.Notes.{no_note}
use Rattle.answer_text.specs.declared.form.Form.TheVariants as form
use Rattle.answer_text.specs.Spelling.{SpellsAnswer}
use Rattle.answer_text.specs.Text.{answer_text}
use Rattle.graph_search.specs.Answering.{answer_with}
use Rattle.graph_search.specs.AnsweringLaws.{told_fits}
use Rattle.graph_search.specs.Kinds.{kind_of}
use Rattle.graph_tools.specs.Solution.{IsAnswerFor}
use Rattle.graph_tools.specs.SolutionLaws.{is_for}
use Rattle.graph_tools.proofs.solution.answer_in.Goals as goal

pub answer_len-requires : goal.answer_len-requires
answer_len-requires c =
    let small : c.args.options.openings ≤ 255 = omega arith in
    let same = c.answer_with-answer.ensures ∙ ap (λ note. answer_with c.args.options.openings note c.in_ok-solved.solved) c.default.ensures in
    subst (λ (a : Answer). IsAnswerOn c.args.graph.now a) (sym same)
    (told_fits c.args.graph.now (kind_of c.args.options.split) c.args.options.openings (length_of c.args.graph.now c.in_ok-first.first) no_note
    c.in_ok-solved.solved small c.in_ok-solved.ensures)

pub returns : goal.returns
returns c =
    let small : c.args.options.openings ≤ 255 = omega arith in
    let same = c.answer_with-answer.ensures ∙ ap (λ note. answer_with c.args.options.openings note c.in_ok-solved.solved) c.default.ensures in
    let few : length (answer_text (graph_value_of c.args.graph.now c.answer_with-answer.result)) < 2 ^ 32 =
    let is = c.answer_len.ensures.length in
    let short = c.answer_len.ensures.short in
    omega (arith, is, short) in
    subst (λ (a : Answer). IsAnswerFor c.args.options c.args.graph.now a) (sym same)
    (is_for c.args.options (length_of c.args.graph.now c.in_ok-first.first) c.args.graph.now
    c.in_ok-solved.solved small c.in_ok-first.ensures.length c.in_ok-solved.ensures
    (subst (λ (a : Answer). SpellsAnswer (form.OfGraph (length c.args.graph.now.edges) c.args.graph.now.vertices) (answer_text (graph_value_of c.args.graph.now a)) (graph_value_of c.args.graph.now a)) same c.answer_len.ensures.spells)
    (subst (λ (a : Answer). length (answer_text (graph_value_of c.args.graph.now a)) < 2 ^ 32) same few))
