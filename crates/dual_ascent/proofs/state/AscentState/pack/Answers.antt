use Rattle.std.proofs.Common.{◌++◌, take, drop, arith, ◌≡◌, ◌∙◌, ◌<◌, List, map, get_or, length, Contains, subst, sym, ap}
use Rattle.std.proofs.Math.Seq.{take-append_seam}
use Rattle.dual_ascent.specs.declared.active.ActiveVertex.{ActiveVertex}
use Rattle.dual_ascent.specs.declared.costs.EdgeCosts.{EdgeCosts}
use Rattle.dual_ascent.specs.Active.{AreActive}
use Rattle.dual_ascent.specs.Growing.{MayGrow, AreGrown, LeavesOut}
use Rattle.dual_ascent.specs.Costs.{lowered_by}
use Rattle.dual_ascent.proofs.lemmas.EnteringLemmas.{edges_of-lowered}
use Rattle.dual_ascent.proofs.lemmas.ActiveLemmas.{newly, MayGrow-packed, SaturatedLeads-kept, AreActive-packed}
use Rattle.dual_ascent.proofs.state.AscentState.pack.Goals as goal

pub grow_all-requires-clause-edges : goal.grow_all-requires-clause-edges
grow_all-requires-clause-edges c = grind (arith, edges_of-lowered c.args.self.now.costs c.args.cut.now)

pub grow_all-requires-clause-each : goal.grow_all-requires-clause-each
grow_all-requires-clause-each c k d lt =
    let (vertices, active, next) = c.requires.next in
    let gr = c.args.g.now in
    let costs : List EdgeCosts = c.args.self.now.costs in
    let cut = c.args.cut.now in
    let list = c.args.self.now.entering.items in
    let arcs : c.deref-3.result.now ≡ newly cut.weight list = c.deref-3.ensures.value ∙ c.in_ok-list_with_left.ensures ∙ ap (newly cut.weight) c.deref.ensures.value in
    let after : c.lower.new.self ≡ map (lowered_by cut) costs = c.lower.ensures in
    let within : k < length c.args.self.now.active.items = subst (λ (xs : List ActiveVertex). k < length xs) c.deref_mut.ensures.value lt in
    let a : ActiveVertex = get_or c.args.self.now.active.items k d in
    let same : get_or c.deref_mut.result.now k d ≡ a = ap (λ (xs : List ActiveVertex). get_or xs k d) c.deref_mut.ensures.value in
    let may : MayGrow gr (map (lowered_by cut) costs) (newly cut.weight list) a = MayGrow-packed gr costs cut list a c.root-root.ensures.graph c.requires.edges c.requires.entering (active.kept k d within) in
    subst (λ cs. MayGrow gr cs c.deref-3.result.now (get_or c.deref_mut.result.now k d)) (sym after)
    (subst (λ xs. MayGrow gr (map (lowered_by cut) costs) xs (get_or c.deref_mut.result.now k d)) (sym arcs) (subst (MayGrow gr (map (lowered_by cut) costs) (newly cut.weight list)) (sym same) may))

pub returns-clause-active : goal.returns-clause-active
returns-clause-active c vertices active =
    let (others, _, next) = c.requires.next in
    let gr = c.args.g.now in
    let costs : List EdgeCosts = c.args.self.now.costs in
    let cut = c.args.cut.now in
    let after : c.lower.new.self ≡ map (lowered_by cut) costs = c.lower.ensures in
    let list : List ActiveVertex = c.args.self.now.active.items in
    let more = SaturatedLeads-kept gr costs cut c.requires.edges next.weight next.least in
    let grown : AreGrown gr (map (lowered_by cut) costs) list c.grow_all.new.active =
    subst (λ xs. AreGrown gr (map (lowered_by cut) costs) xs c.grow_all.new.active) c.deref_mut.ensures.value
    (subst (λ cs. AreGrown gr cs c.deref_mut.result.now c.grow_all.new.active) after c.grow_all.ensures) in
    let new : List ActiveVertex = c.grow_all.new.active in
    let size : length new ≡ c.args.self.now.active.len = omega (arith, grown.count, c.deref_mut.ensures.len, ap length c.deref_mut.ensures.value) in
    let whole : take c.args.self.now.active.len (new ++ drop (length new) list) ≡ new = ap (λ n. take n (new ++ drop (length new) list)) (sym size) ∙ take-append_seam new (drop (length new) list) in
    let out : LeavesOut (λ a. Contains a.leading.order c.root-root.result) new c.leave_reached_out.new.active.items =
    subst (λ xs. LeavesOut (λ a. Contains a.leading.order c.root-root.result) xs c.leave_reached_out.new.active.items) whole c.leave_reached_out.ensures.left_out in
    subst (λ cs. AreActive gr vertices cs c.leave_reached_out.new.active.items) (sym after)
    (AreActive-packed gr vertices costs (map (lowered_by cut) costs) list c.grow_all.new.active c.leave_reached_out.new.active.items c.root-root.result c.root-root.ensures.root
    more active grown out c.leave_reached_out.ensures.apart)
