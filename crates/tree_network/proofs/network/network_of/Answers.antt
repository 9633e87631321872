use Rattle.std.proofs.Common.{◌≡◌, ◌∙◌, ap, length, arith}
use Rattle.lists.specs.ListLaws.{All-at}
use Rattle.net_graph.specs.Graph.{Graph}
use Rattle.full_tree.specs.declared.code.Tree.{Tree}
use Rattle.full_tree.specs.Form.{IsInForm}
use Rattle.full_tree.specs.Pieces.{code_length}
use Rattle.tree_network.proofs.lemmas.Union.{IsUnion-none, IsUnion-more, IsUnion-all, IsUnion-edges, IsUnion-network, IsUnion-length}
use Rattle.tree_network.proofs.network.network_of.Goals as goal

pub loop-place-init : goal.loop-place-init
loop-place-init c =
    let whole = c.edge_count.ensures.count ∙ ap (λ (g : Graph). length g.edges) c.graph.ensures.graph in
    IsUnion-none c.args.grid.now c.args.trees.now c.args.places.now c.edge_count.result c.in_ok-edges.edges
    whole c.in_ok-edges.ensures

pub embed-requires : goal.embed-requires
embed-requires c =
    All-at (λ (t : Tree). IsInForm c.args.grid.now t.code) c.args.trees.now _ c.get-tree.result.now
    c.requires.form c.get-tree.ensures

pub loop-place-preserved : goal.loop-place-preserved
loop-place-preserved c =
    let tree = c.get-tree.result.now in
    let own = c.in_ok-own.ensures in
    let measured =
    All-at (λ (t : Tree). t.length ≡ code_length c.args.grid.now t.code) c.args.trees.now _ tree
    c.requires.lengths c.get-tree.ensures in
    IsUnion-more c.args.grid.now c.args.trees.now c.args.places.now c.loop-place.place-index tree
    c.in_ok-own.own c.loop-place.edges c.add_all.new.to c.loop-place-test.true c.get-tree.ensures
    (record { edges = own.edges; joins = own.joins; length = omega (arith, own.length, measured) })
    c.loop-place.invariant c.add_all.ensures

pub returns-clause-edges : goal.returns-clause-edges
returns-clause-edges c =
    let trees = c.args.trees.now in
    let places = c.args.places.now in
    let edges = c.loop-place.edges in
    IsUnion-edges c.args.grid.now trees places edges
    (IsUnion-all c.args.grid.now trees places _ edges c.loop-place-test.false c.loop-place.invariant)

pub returns-clause-network : goal.returns-clause-network
returns-clause-network c set named whole =
    let trees = c.args.trees.now in
    let places = c.args.places.now in
    let edges = c.loop-place.edges in
    IsUnion-network c.args.grid.now trees places edges set
    (IsUnion-all c.args.grid.now trees places _ edges c.loop-place-test.false c.loop-place.invariant) named whole

pub returns-clause-length : goal.returns-clause-length
returns-clause-length c set named =
    let trees = c.args.trees.now in
    let places = c.args.places.now in
    let edges = c.loop-place.edges in
    IsUnion-length c.args.grid.now trees places edges set
    (IsUnion-all c.args.grid.now trees places _ edges c.loop-place-test.false c.loop-place.invariant) named
