-- What is inside at a leaf was decided on its way.
use Rattle.std.proofs.Common.{◌≡◌, ap, sym, ◌∙◌, arith, length}
use Rattle.std.specs.Prelude.{sum_by}
use Rattle.std.proofs.lemmas.Option.{same_Some}
use Rattle.net_graph.specs.declared.packing.Cut.{Cut}
use Rattle.net_graph.specs.Decision.{nothing_decided}
use Rattle.net_graph.specs.DecisionLaws.{IsDecisionFor-nothing}
use Rattle.net_graph.specs.Packing.{inside_length}
use Rattle.net_graph.specs.PackingLaws.{inside_length-le-sum, inside_length-none}
use Rattle.cert_tree.specs.Way.{after_turns, way_to}
use Rattle.cert_tree.proofs.lemmas.Ways.{decision-way}
use Rattle.cert_tree.proofs.lemmas.WayLengths.{All-turns_in, inside_length-way}
use Rattle.cert_tree.proofs.tree.CertTree.leaf_value.Goals as goal

pub inside_length-requires-clause-turns : goal.inside_length-requires-clause-turns
inside_length-requires-clause-turns c =
    grind (arith, All-turns_in (c.args.g.now) (nothing_decided (c.args.g.now)) c.args.self.now c.args.leaf (IsDecisionFor-nothing (c.args.g.now)) c.requires.splits, IsDecisionFor-nothing (c.args.g.now))

pub inside_length-requires-clause-short : goal.inside_length-requires-clause-short
inside_length-requires-clause-short c =
    let g = c.args.g.now in
    let way = way_to c.args.self.now c.args.leaf in
    omega (
      arith,
      inside_length-way g (nothing_decided g) c.args.self.now c.args.leaf (IsDecisionFor-nothing g) c.requires.splits,
      inside_length-le-sum g.edges (after_turns (nothing_decided g) way).edges,
      c.edge_count.ensures.graph.total,
    )

pub returns : goal.returns
returns c = λ own cuts at.
    let g = c.args.g.now in
    let t = c.args.self.now in
    let led = decision-way (nothing_decided g) t c.args.leaf own cuts at in
    let none = inside_length-none g.edges (length g.edges) in
    let way = inside_length-way g (nothing_decided g) t c.args.leaf (IsDecisionFor-nothing g) c.requires.splits in
    let same = same_Some _ _ (sym c.packing.ensures ∙ at.packing) in
    let sum : c.total_weight.result ≡ sum_by (λ (x : Cut). x.weight) cuts =
    c.total_weight.ensures.sum ∙ ap (sum_by (λ (x : Cut). x.weight)) (c.cuts.ensures ∙ same) in
    let inside : c.from.result ≡ inside_length g.edges own.edges =
    omega (arith, way, none, ap (λ d. inside_length g.edges d.edges) led) in
    omega (arith, inside, sum)
