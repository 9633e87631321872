use Rattle.std.proofs.Common.{◌+◌, ◌++◌, take, ◌∙◌, ap, arith}
use Rattle.std.proofs.lemmas.List.{take_all}
use Rattle.text_out.specs.GatherLaws.{gathers_two}
use Rattle.answer_text.specs.declared.version.Version.TheVariants as version
use Rattle.answer_text.specs.Lines.{line_text, lines_text, split_line}
use Rattle.cert_tree.specs.Preorder.{packings_of}
use Rattle.answer_text.proofs.lemmas.NodeLines.{nodes_lines, nodes_lines-tree, split_step, split_leaves, leaf_step, leaf_leaves, leaf_below}
use Rattle.answer_text.proofs.body.write_tree.Goals as goal
use Rattle.answer_text.proofs.body.write_tree.Goals.{in-Some, in-None}

pub packing-requires : goal.packing-requires
packing-requires g c =
    leaf_below c.args.tree.now c.nodes-node-items.result.now c.loop-node.node-index c.loop-node.leaf c.nodes-node-items.ensures.nodes c.loop-node-test.true c.in-None.is c.loop-node.invariant.leaf

pub overflow_add-leaf : goal.overflow_add-leaf
overflow_add-leaf g c =
    let below = leaf_below c.args.tree.now c.nodes-node-items.result.now c.loop-node.node-index c.loop-node.leaf c.nodes-node-items.ensures.nodes c.loop-node-test.true c.in-None.is c.loop-node.invariant.leaf in
    omega arith

pub loop-node-preserved : goal.loop-node-preserved
loop-node-preserved g c =
    let nodes = c.nodes-node-items.result.now in
    let packings = packings_of c.args.tree.now in
    let i = c.loop-node.node-index in
    elim c.match-node.branch [
      | in-Some w ↦ record {
        leaf = w.leaf-is ∙ c.loop-node.invariant.leaf ∙ split_leaves nodes i w.in-Some.on c.loop-node-test.true w.in-Some.is;
        text =
            let text = ap (λ name. lines_text (nodes_lines (g.L.Labelled.labels c.args.of.now) (take i nodes) packings) ++ line_text (split_line version.Two name)) w.split_label.ensures.name ∙ split_step (g.L.Labelled.labels c.args.of.now) nodes packings i w.in-Some.on c.loop-node-test.true w.in-Some.is in
            rw (w.sink-is, w.block-is) (gathers_two _ _ _ _ _ _ _ _ _ c.loop-node.invariant.text w.write_split.ensures text);
      }
      | in-None w ↦ record {
        leaf = w.leaf-is ∙ ap (λ n. n + 1) c.loop-node.invariant.leaf ∙ leaf_leaves nodes i c.loop-node-test.true w.in-None.is;
        text =
            let below = leaf_below c.args.tree.now nodes i c.loop-node.leaf c.nodes-node-items.ensures.nodes c.loop-node-test.true w.in-None.is c.loop-node.invariant.leaf in
            let text = leaf_step (g.L.Labelled.labels c.args.of.now) nodes packings i c.loop-node.leaf w.packing.result.now c.loop-node-test.true w.in-None.is c.loop-node.invariant.leaf below w.packing.ensures in
            rw (w.sink-is, w.block-is) (gathers_two _ _ _ _ _ _ _ _ _ c.loop-node.invariant.text w.write_leaf.ensures text);
      }
    ]

pub returns : goal.returns
returns g c =
    grind (arith, take_all c.loop-node.node-index c.nodes-node-items.result.now c.loop-node-test.false, nodes_lines-tree)
