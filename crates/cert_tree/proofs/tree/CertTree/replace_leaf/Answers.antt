use Rattle.std.proofs.Common.{◌≡◌, ◌+◌, set, ap, sym, ◌∙◌, arith, rules}
use Rattle.std.specs.List.{insert}
use Rattle.cert_tree.specs.Preorder.{nodes_of, packings_of, tree_of}
use Rattle.cert_tree.specs.PreorderLaws.{tree_of-parts, IsPreorder-parts}
use Rattle.cert_tree.specs.ReplacedLaws.{length-packings_of-replaced}
use Rattle.cert_tree.specs.Tree.{split_with}
use Rattle.cert_tree.specs.Replaced.{replaced}
use Rattle.cert_tree.proofs.lemmas.Places.{packings_with_split_at}
use Rattle.cert_tree.proofs.tree.CertTree.replace_leaf.Goals as goal

pub invariant_of-self-2 : goal.invariant_of-self-2
invariant_of-self-2 c =
    let new = replaced c.args.leaf (split_with c.args.on c.args.outside c.args.inside) c.args.self.now in
    let nodes : c.in_ok-nodes.nodes.items ≡ nodes_of new = c.in_ok-nodes.ensures c.args.outside c.args.inside in
    let same : c.self.inside.packings.items ≡ packings_of c.args.self.now = sym c.self.invariant.packings_same
    ∙ ap packings_of c.self.view_is in
    let inserted : c.insert.new.self.items ≡ insert c.self.inside.packings.items (c.args.leaf + 1) c.args.inside =
    search rules in
    let packings : set c.insert.new.self.items c.args.leaf c.args.outside ≡ packings_of new =
    ap (λ all. set all c.args.leaf c.args.outside) inserted
    ∙ packings_with_split_at c.args.self.now c.args.on c.self.inside.packings.items c.args.leaf c.args.outside
    c.args.inside same c.requires.leaf in
    let more = length-packings_of-replaced (split_with c.args.on c.args.outside c.args.inside) c.args.self.now
    c.args.leaf c.requires.leaf in
    rw (nodes, packings) (IsPreorder-parts new (omega (arith, more)))

pub returns-clause-ok : goal.returns-clause-ok
returns-clause-ok c =
    let new = replaced c.args.leaf (split_with c.args.on c.args.outside c.args.inside) c.args.self.now in
    let nodes : c.in_ok-nodes.nodes.items ≡ nodes_of new = c.in_ok-nodes.ensures c.args.outside c.args.inside in
    let same : c.self.inside.packings.items ≡ packings_of c.args.self.now = sym c.self.invariant.packings_same
    ∙ ap packings_of c.self.view_is in
    let inserted : c.insert.new.self.items ≡ insert c.self.inside.packings.items (c.args.leaf + 1) c.args.inside =
    search rules in
    let packings : set c.insert.new.self.items c.args.leaf c.args.outside ≡ packings_of new =
    ap (λ all. set all c.args.leaf c.args.outside) inserted
    ∙ packings_with_split_at c.args.self.now c.args.on c.self.inside.packings.items c.args.leaf c.args.outside
    c.args.inside same c.requires.leaf in
    ap (λ all. tree_of all (set c.insert.new.self.items c.args.leaf c.args.outside)) nodes
    ∙ ap (λ all. tree_of (nodes_of new) all) packings
    ∙ tree_of-parts new
