use Rattle.std.proofs.Common.{arith}
use Rattle.text_out.specs.GatherLaws.{gathers_two}
use Rattle.net_graph.specs.Members.{members_of}
use Rattle.answer_text.specs.LineKinds as line
use Rattle.answer_text.proofs.lemmas.NetworkLemmas.{count-names}
use Rattle.answer_text.proofs.body.write_network.Goals as goal

pub returns : goal.returns
returns g c =
    grind (arith, g.L.Labelled.labels c.args.of.now, count-names (g.L.Labelled.labels c.args.of.now) (members_of c.args.network.now) c.count_of.result c.count_of.ensures, gathers_two)
