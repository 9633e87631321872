use Rattle.std.proofs.Common.{ap, ◌∙◌, length, arith}
use Rattle.net_graph.specs.Graph.{Graph}
use Rattle.full_tree.specs.Pieces.{pieces_of}
use Rattle.full_tree.proofs.lemmas.Embeds.{piece_stretch, Embeds-none, Embeds-more, Embeds-all, Embeds-edges, members_joined}
use Rattle.full_tree.proofs.embedding.embed.Goals as goal

pub loop-n-init : goal.loop-n-init
loop-n-init c = Embeds-none c.args.grid.now (pieces_of c.args.grid.now c.args.code.now) c.edge_count.result c.in_ok-set.set
    (c.edge_count.ensures.count ∙ ap (λ (g : Graph). length g.edges) c.graph.ensures.graph) c.in_ok-set.ensures

pub add_segment-requires-clause-stretch : goal.add_segment-requires-clause-stretch
add_segment-requires-clause-stretch c = piece_stretch c.args.grid.now c.piece-piece.result c.piece-piece.ensures.straight c.piece-piece.ensures.on_grid

pub loop-n-preserved : goal.loop-n-preserved
loop-n-preserved c = Embeds-more c.args.grid.now (pieces_of c.args.grid.now c.args.code.now) c.loop-n.n c.piece-piece.result c.loop-n.set c.add_segment.new.set
    c.piece-piece.ensures.piece (piece_stretch c.args.grid.now c.piece-piece.result c.piece-piece.ensures.straight c.piece-piece.ensures.on_grid) c.loop-n.invariant c.add_segment.ensures

pub returns-clause-edges : goal.returns-clause-edges
returns-clause-edges c =
    let pieces = pieces_of c.args.grid.now c.args.code.now in
    Embeds-edges c.args.grid.now pieces c.loop-n.set
    (Embeds-all c.args.grid.now pieces c.loop-n.n c.loop-n.set (omega (arith, c.piece_count-n-end.ensures.count)) c.loop-n.invariant)

pub returns-clause-joins : goal.returns-clause-joins
returns-clause-joins c =
    let pieces = pieces_of c.args.grid.now c.args.code.now in
    members_joined c.args.grid.now c.args.code.now c.loop-n.set c.piece_count-n-end.ensures.joins
    (Embeds-all c.args.grid.now pieces c.loop-n.n c.loop-n.set (omega (arith, c.piece_count-n-end.ensures.count)) c.loop-n.invariant)

pub returns-clause-length : goal.returns-clause-length
returns-clause-length c = grind (arith, Embeds-all)
