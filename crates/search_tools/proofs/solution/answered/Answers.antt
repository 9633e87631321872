-- The answer is one for the points and for the trees of which the network is made.
use Rattle.std.proofs.Common.{◌≤◌, ◌^◌, ◌<◌, length, subst, sym, arith}
use Rattle.hanan_grid.specs.Grid.{hanan_grid_of}
use Rattle.net_graph.specs.Network.{length_of}
use Rattle.answer_text.specs.declared.answer.Answer.{Answer}
use Rattle.answer_text.specs.declared.form.Form.TheVariants as form
use Rattle.answer_text.specs.Spelling.{SpellsAnswer}
use Rattle.answer_text.specs.Text.{answer_text}
use Rattle.answer_text.specs.Answers.{IsAnswerOn, value_of}
use Rattle.search_tools.specs.Steps.{IsFor}
use Rattle.graph_search.specs.AnsweringLaws.{told_fits}
use Rattle.graph_search.specs.Kinds.{kind_of}
use Rattle.search_tools.proofs.SearchedLaws.{is_for, told_by}
use Rattle.search_tools.proofs.solution.answered.Goals as goal

pub answer_len-requires : goal.answer_len-requires
answer_len-requires c =
    let ps = c.args.grid in
    let small : c.args.options.openings ≤ 255 = omega arith in
    subst (λ (a : Answer). IsAnswerOn (hanan_grid_of ps) a) (sym c.answer_with-answer.ensures)
    (told_fits (hanan_grid_of ps) (kind_of c.args.options.split) c.args.options.openings (length_of (hanan_grid_of ps) c.args.found.network) c.args.found.note c.in_ok-solved.solved
    small (told_by c.args.options c.in_graph.result (hanan_grid_of ps) (length_of (hanan_grid_of ps) c.args.found.network) c.in_ok-solved.solved
    c.in_graph.ensures c.in_ok-solved.ensures))

pub returns : goal.returns
returns c = λ trees made.
    let ps = c.args.grid in
    let small : c.args.options.openings ≤ 255 = omega arith in
    let same = c.answer_with-answer.ensures in
    let few : length (answer_text (value_of ps c.answer_with-answer.result)) < 2 ^ 32 =
    let is = c.answer_len.ensures.length in let short = c.answer_len.ensures.short in omega (arith, is, short) in
    subst (λ (a : Answer). IsFor c.args.options ps trees (record { instance = ps; answer = a })) (sym same)
    (is_for c.args.options ps trees c.args.found c.in_ok-solved.solved small made
    (told_by c.args.options c.in_graph.result (hanan_grid_of ps) (length_of (hanan_grid_of ps) c.args.found.network) c.in_ok-solved.solved
    c.in_graph.ensures c.in_ok-solved.ensures)
    (subst (λ (a : Answer). SpellsAnswer (form.OnGrid (hanan_grid_of ps).vertices) (answer_text (value_of ps a)) (value_of ps a)) same c.answer_len.ensures.spells)
    (subst (λ (a : Answer). length (answer_text (value_of ps a)) < 2 ^ 32) same few))
