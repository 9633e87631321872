use Rattle.std.proofs.lemmas.List.Elements.{All-more, All-weaker}
use Rattle.std.specs.Prelude.{All}
use Rattle.answer_text.specs.Answers.{FitsNode, IsPackingOn}
use Rattle.answer_text.specs.Spelling.{FitsSplit, FitsWeight}
use Rattle.std.proofs.Common.{◌+◌, ◌++◌, length, take, sym, ◌∙◌, ap, arith, subst, rules, None}
use Rattle.std.proofs.lemmas.List.{take_all}
use Rattle.lists.specs.ListLaws.{All-at}
use Rattle.answer_text.specs.declared.version.Version.TheVariants as version
use Rattle.answer_text.specs.Lines.{line_text, lines_text, leaf_lines, split_line}
use Rattle.cert_tree.specs.Preorder.{packings_of}
use Rattle.answer_text.proofs.lemmas.Lengths.{sum_more}
use Rattle.answer_text.proofs.lemmas.PackingLemmas.{packing-few, All-found_more}
use Rattle.answer_text.proofs.lemmas.NodeLines.{nodes_lines, nodes_lines-tree, split_step, split_leaves, leaf_step, leaf_leaves, leaf_below, leaf_within, leaf_last, nodes_count}
use Rattle.answer_text.proofs.length.tree_len.Goals as goal
use Rattle.answer_text.proofs.length.tree_len.Goals.{in-Some, in-None}

pub overflow_add-sum : goal.overflow_add-sum
overflow_add-sum g c =
    grind (
      arith,
      leaf_within c.args.tree.now c.nodes-node-items.result.now c.loop-node.node-index c.loop-node.leaf c.nodes-node-items.ensures.nodes c.loop-node.invariant.leaf,
      nodes_count c.args.tree.now c.nodes-node-items.result.now c.nodes-node-items.ensures.nodes,
    )

pub packing-requires : goal.packing-requires
packing-requires g c =
    leaf_below c.args.tree.now c.nodes-node-items.result.now c.loop-node.node-index c.loop-node.leaf c.nodes-node-items.ensures.nodes c.loop-node-test.true c.in-None.is c.loop-node.invariant.leaf

pub leaf_len-sum-requires-clause-few : goal.leaf_len-sum-requires-clause-few
leaf_len-sum-requires-clause-few g c =
    packing-few (g.L.Labelled.graph c.args.of.now) (packings_of c.args.tree.now) c.loop-node.leaf c.packing.result.now c.requires.sound c.requires.packings c.packing.ensures

pub leaf_len-sum-requires-clause-small : goal.leaf_len-sum-requires-clause-small
leaf_len-sum-requires-clause-small g c =
    grind (arith, All-at (IsPackingOn (g.L.Labelled.graph c.args.of.now)) (packings_of c.args.tree.now) c.loop-node.leaf c.packing.result.now c.requires.packings c.packing.ensures, All-weaker)

pub overflow_add-sum-in-None : goal.overflow_add-sum-in-None
overflow_add-sum-in-None g c =
    let few = packing-few (g.L.Labelled.graph c.args.of.now) (packings_of c.args.tree.now) c.loop-node.leaf c.packing.result.now c.requires.sound c.requires.packings c.packing.ensures in
    let within = leaf_within c.args.tree.now c.nodes-node-items.result.now c.loop-node.node-index c.loop-node.leaf c.nodes-node-items.ensures.nodes c.loop-node.invariant.leaf in
    let count = nodes_count c.args.tree.now c.nodes-node-items.result.now c.nodes-node-items.ensures.nodes in
    omega arith

pub overflow_add-leaf : goal.overflow_add-leaf
overflow_add-leaf g c =
    grind (arith, leaf_within c.args.tree.now c.nodes-node-items.result.now c.loop-node.node-index c.loop-node.leaf c.nodes-node-items.ensures.nodes c.loop-node.invariant.leaf)

pub loop-node-preserved : goal.loop-node-preserved
loop-node-preserved g c =
    let nodes = c.nodes-node-items.result.now in
    let packings = packings_of c.args.tree.now in
    let i = c.loop-node.node-index in
    elim c.match-node.branch [
      | in-Some w ↦ record {
        leaf = w.leaf-is ∙ c.loop-node.invariant.leaf ∙ split_leaves nodes i w.in-Some.on c.loop-node-test.true w.in-Some.is;
        length =
            let name = w.split_label.ensures.name in
            let text = ap (λ name. lines_text (nodes_lines (g.L.Labelled.labels c.args.of.now) (take i nodes) packings) ++ line_text (split_line version.Two name)) name ∙ split_step (g.L.Labelled.labels c.args.of.now) nodes packings i w.in-Some.on c.loop-node-test.true w.in-Some.is in
            w.sum-is ∙ sum_more _ (line_text (split_line version.Two w.split_label.result)) _ c.loop-node.sum w.split_len-sum.result c.loop-node.invariant.length w.split_len-sum.ensures.length text;
        short = omega arith;
        names =
            All-more (FitsNode (g.L.Labelled.form c.args.of.now) (g.L.Labelled.labels c.args.of.now)) nodes i None c.loop-node-test.true c.loop-node.invariant.names (subst (FitsNode (g.L.Labelled.form c.args.of.now) (g.L.Labelled.labels c.args.of.now)) (sym w.in-Some.is) (subst (FitsSplit version.Two (g.L.Labelled.form c.args.of.now)) w.split_label.ensures.name w.split_label.ensures.fits));
        weights = rw w.leaf-is c.loop-node.invariant.weights;
      }
      | in-None w ↦ record {
        leaf = w.leaf-is ∙ ap (λ n. n + 1) c.loop-node.invariant.leaf ∙ leaf_leaves nodes i c.loop-node-test.true w.in-None.is;
        length =
            let below = leaf_below c.args.tree.now nodes i c.loop-node.leaf c.nodes-node-items.ensures.nodes c.loop-node-test.true w.in-None.is c.loop-node.invariant.leaf in
            let text = leaf_step (g.L.Labelled.labels c.args.of.now) nodes packings i c.loop-node.leaf w.packing.result.now c.loop-node-test.true w.in-None.is c.loop-node.invariant.leaf below w.packing.ensures in
            w.sum-is ∙ sum_more _ (lines_text (leaf_lines w.packing.result.now)) _ c.loop-node.sum w.leaf_len-sum.result c.loop-node.invariant.length w.leaf_len-sum.ensures.length text;
        short =
            let few = packing-few (g.L.Labelled.graph c.args.of.now) packings c.loop-node.leaf w.packing.result.now c.requires.sound c.requires.packings w.packing.ensures in
            omega arith;
        names = All-more (FitsNode (g.L.Labelled.form c.args.of.now) (g.L.Labelled.labels c.args.of.now)) nodes i None c.loop-node-test.true c.loop-node.invariant.names (subst (FitsNode (g.L.Labelled.form c.args.of.now) (g.L.Labelled.labels c.args.of.now)) (sym w.in-None.is) (search rules));
        weights = rw w.leaf-is (All-found_more (All FitsWeight) packings c.loop-node.leaf w.packing.result.now c.loop-node.invariant.weights w.packing.ensures w.leaf_len-sum.ensures.fits);
      }
    ]

pub returns-clause-length : goal.returns-clause-length
returns-clause-length g c =
    grind (arith, take_all c.loop-node.node-index c.nodes-node-items.result.now c.loop-node-test.false, nodes_lines-tree)

pub returns-clause-short : goal.returns-clause-short
returns-clause-short g c =
    grind (arith, leaf_within c.args.tree.now c.nodes-node-items.result.now c.loop-node.node-index c.loop-node.leaf c.nodes-node-items.ensures.nodes c.loop-node.invariant.leaf)

pub returns-clause-names : goal.returns-clause-names
returns-clause-names g c =
    grind (arith, take_all c.loop-node.node-index c.nodes-node-items.result.now c.loop-node-test.false)

pub returns-clause-weights : goal.returns-clause-weights
returns-clause-weights g c =
    let past = leaf_last c.args.tree.now c.nodes-node-items.result.now c.loop-node.node-index c.loop-node.leaf c.nodes-node-items.ensures.nodes c.loop-node-test.false c.loop-node.invariant.leaf in
    rw (take_all c.loop-node.leaf (packings_of c.args.tree.now) past) at c.loop-node.invariant.weights
