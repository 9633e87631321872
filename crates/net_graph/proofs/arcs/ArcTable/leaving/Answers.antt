use Rattle.std.proofs.Common.{◌≡◌, ◌-◌, ◌<◌, length, ap, arith}
use Rattle.net_graph.proofs.lemmas.ArcLemmas.{starts_around, starts_rise, AreArcsFrom-between}
use Rattle.net_graph.proofs.arcs.ArcTable.leaving.Goals as goal

pub slice_bounds-result-count : goal.slice_bounds-result-count
slice_bounds-result-count c =
    let size : length c.self.inside.starts.items - 1 ≡ c.args.self.now.vertices = ap (λ t. t.vertices) c.self.view_is in
    let below : c.args.vertex < length c.self.inside.starts.items - 1 = omega arith in
    let around = starts_around c.self.inside.arcs.items c.self.inside.starts.items c.args.vertex c.index.result.now c.index-2.result.now c.self.invariant below c.index.ensures c.index-2.ensures in
    starts_rise _ _ _ _ around.0 around.1

pub slice_bounds-result-start : goal.slice_bounds-result-start
slice_bounds-result-start c =
    let size : length c.self.inside.starts.items - 1 ≡ c.args.self.now.vertices = ap (λ t. t.vertices) c.self.view_is in
    let below : c.args.vertex < length c.self.inside.starts.items - 1 = omega arith in
    let around = starts_around c.self.inside.arcs.items c.self.inside.starts.items c.args.vertex c.index.result.now c.index-2.result.now c.self.invariant below c.index.ensures c.index-2.ensures in
    starts_rise _ _ _ _ around.0 around.1

pub returns : goal.returns
returns c =
    let size : length c.self.inside.starts.items - 1 ≡ c.args.self.now.vertices = ap (λ t. t.vertices) c.self.view_is in
    let below : c.args.vertex < length c.self.inside.starts.items - 1 = omega arith in
    let around = starts_around c.self.inside.arcs.items c.self.inside.starts.items c.args.vertex c.index.result.now c.index-2.result.now c.self.invariant below c.index.ensures c.index-2.ensures in
    rw (c.deref.ensures.value, ← c.self.view_is) (AreArcsFrom-between _ _ _ _ around.0 around.1)
