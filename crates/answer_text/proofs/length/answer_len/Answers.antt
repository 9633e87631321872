use Rattle.std.proofs.Common.{refl, arith}
use Rattle.answer_text.specs.Answers.{labelled, value_told}
use Rattle.answer_text.proofs.lemmas.FitLemmas.{answer_fits, head_alike, tree_alike}
use Rattle.answer_text.proofs.lemmas.Lengths.{length-answer_lines}
use Rattle.cert_tree.specs.PreorderLaws.{length-nodes_of, length-packings_of}
use Rattle.answer_text.proofs.length.answer_len.Goals as goal

pub overflow_add-result-3 : goal.overflow_add-result-3
overflow_add-result-3 g c = omega (arith, length-nodes_of c.args.answer.now.tree, length-packings_of c.args.answer.now.tree)

pub returns-clause-length : goal.returns-clause-length
returns-clause-length g c =
    let F = g.L.Labelled.form c.args.of.now in
    let L = g.L.Labelled.labels c.args.of.now in
    grind (arith, length-answer_lines (value_told F L c.args.answer.now), head_alike F c.args.answer.now.head, tree_alike F (labelled L c.args.answer.now.tree))

pub returns-clause-short : goal.returns-clause-short
returns-clause-short g c = omega (arith, length-nodes_of c.args.answer.now.tree, length-packings_of c.args.answer.now.tree)

pub returns-clause-spells : goal.returns-clause-spells
returns-clause-spells g c =
    let network = c.network_len.ensures in
    let tree = c.tree_len.ensures in record {
      fits = answer_fits (g.L.Labelled.form c.args.of.now) (g.L.Labelled.labels c.args.of.now) (g.L.Labelled.graph c.args.of.now) c.args.answer.now
          c.labelled_edges.ensures.size c.labelled_edges.ensures.graph.few_edges c.requires c.head_len.ensures.fits network.count network.fits tree.names tree.weights;
      spelled = refl;
    }
