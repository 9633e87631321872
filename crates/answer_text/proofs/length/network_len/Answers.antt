use Rattle.std.proofs.Common.{◌≡◌, ◌+◌, length, map, refl, ap, sym, ◌∙◌, arith}
use Rattle.std.specs.Prelude.{codes}
use Rattle.std.specs.Fmt.{decimal}
use Rattle.net_graph.specs.Members.{members_of}
use Rattle.answer_text.specs.LineKinds as line
use Rattle.answer_text.specs.Lines.{lines_text}
use Rattle.answer_text.specs.Answers.{edge_labels}
use Rattle.answer_text.proofs.lemmas.Lengths.{length-number}
use Rattle.answer_text.proofs.lemmas.NetworkLemmas.{count-names}
use Rattle.answer_text.proofs.length.network_len.Goals as goal

pub returns-clause-length : goal.returns-clause-length
returns-clause-length g c =
    let labels = g.L.Labelled.labels c.args.of.now in
    let names = edge_labels labels (members_of c.args.network.now) in
    let count = count-names labels (members_of c.args.network.now) c.count_of.result c.count_of.ensures in
    let digits : c.number_len.result ≡ length (decimal (length names)) = c.number_len.ensures.length ∙ ap (λ n. length (decimal n)) (c.from.ensures ∙ count) in
    let all : 7 + c.number_len.result + c.edges_len.result ≡ 7 + length (decimal (length names)) + length (lines_text (map line.Edge names)) = omega arith in
    all ∙ sym (length-number (codes "edges ") (length names) (line.Count (length names)) (map line.Edge names) refl)

pub returns-clause-count : goal.returns-clause-count
returns-clause-count g c = omega (arith, count-names (g.L.Labelled.labels c.args.of.now) (members_of c.args.network.now) c.count_of.result c.count_of.ensures)
