use Rattle.std.proofs.Common.{◌≡◌, length, All, [], ◌∷◌, ◌++◌}
use Rattle.std.proofs.lemmas.List.Elements.{All-push}
use Rattle.net_graph.specs.declared.packing.Cut.{Cut}
use Rattle.graph_calls.proofs.described.packing.Goals as goal

pub loop-line-preserved : goal.loop-line-preserved
loop-line-preserved c =
    let has_size = λ (cut : Cut). length cut.members ≡ c.args.g.now.vertices in
    let more : All has_size (c.loop-line.packing ++ c.in_ok-cut.field-0 ∷ []) =
    All-push has_size c.loop-line.packing c.in_ok-cut.field-0 c.loop-line.invariant c.in_ok-cut.ensures in
    rw c.in_ok-push.ensures.ok more
