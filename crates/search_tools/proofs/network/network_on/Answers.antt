-- The trees of the file meet what is asked of them, and what was chosen makes a network.
use Rattle.std.proofs.Common.{length, ◌∙◌, ap, subst, sym, All, ◌<◌}
use Rattle.fst_concat.specs.Chosen.{HasMembersBelow, IsChosen, IsUpToPairs, KindHolds}
use Rattle.search_tools.specs.Steps.{IsMadeOf}
use Rattle.search_tools.proofs.NetworkLaws.{have_members, chosen_below, made_of}
use Rattle.search_tools.proofs.network.network_on.Goals as goal

pub concat-requires-clause-trees : goal.concat-requires-clause-trees
concat-requires-clause-trees c =
    subst (λ n. All (HasMembersBelow n) c.args.trees.now) (ap length (sym c.points.ensures) ∙ sym c.len-points.ensures.value)
    (have_members c.trees_in_form_have_members.ensures c.args.grid.now c.args.trees.now c.requires)

pub network_of-requires-clause-places : goal.network_of-requires-clause-places
network_of-requires-clause-places c =
    subst (All (λ k. k < length c.args.trees.now)) (sym c.as_slice.ensures)
    (chosen_below c.len-points.result c.args.trees.now c.in-Ok.chosen.places c.in-Ok.chosen.total c.in-Ok.ensures.joins)

pub returns : goal.returns
returns c =
    let same = c.len-points.ensures.value ∙ ap length c.points.ensures in
    subst (λ least. IsMadeOf c.args.allowed c.args.grid.now c.args.trees.now (record { network = c.in_ok-network.network; note = record { least = least; total = c.in-Ok.chosen.total } }))
    (sym c.is_least.ensures)
    (made_of c.args.allowed c.args.grid.now c.args.trees.now c.in-Ok.chosen.kind c.in-Ok.chosen.places c.in-Ok.chosen.total c.in_ok-network.network
    (subst (λ n. IsChosen n c.args.trees.now c.in-Ok.chosen.places c.in-Ok.chosen.total) same c.in-Ok.ensures.joins)
    (subst (λ n. IsUpToPairs n c.args.trees.now c.in-Ok.chosen.total) same c.in-Ok.ensures.pairs)
    (subst (λ n. KindHolds n c.args.trees.now c.args.allowed c.in-Ok.chosen.total c.in-Ok.chosen.kind) same c.in-Ok.ensures.kind)
    c.in_ok-network.ensures.size
    (λ set is joins. c.in_ok-network.ensures.network set (c.as_slice.ensures ∙ is) joins)
    (λ set is. c.in_ok-network.ensures.length set (c.as_slice.ensures ∙ is)))
