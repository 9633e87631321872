-- Where nothing is decided each edge is undecided.
use Rattle.std.proofs.Common.{◌≡◌, ap, sym, ◌∙◌, subst, length, replicate, arith}
use Rattle.std.specs.Prelude.{slice_get, Some}
use Rattle.net_graph.specs.declared.state.EdgeState.TheVariants.{Undecided}
use Rattle.net_graph.specs.Decision.{nothing_decided, IsUndecided}
use Rattle.net_graph.specs.DecisionLaws.{states_of-nothing}
use Rattle.std.proofs.lemmas.Option.{slice_get-get_or}
use Rattle.std.proofs.lemmas.List.{get_or-replicate, length-replicate}
use Rattle.cert_tree.specs.declared.split.SplitOn.TheVariants as split
use Rattle.cert_tree.specs.Tree.{split_with}
use Rattle.cert_tree.specs.Tree.Tree.{Leaf}
use Rattle.cert_tree.specs.Replaced.{replaced}
use Rattle.cert_tree.specs.Decisions.{HasUndecidedSplits}
use Rattle.graph_calls.proofs.trees.split_tree.Goals as goal

pub returns : goal.returns
returns c =
    let g = c.args._g.now in
    let e = c.args.e in
    let new = split_with (split.Edge e) c.args.outside c.args.inside in
    let split : c.replace_leaf.new.self ≡ replaced 0 new c.in_ok-tree.tree = c.in_ok-replace_leaf.ensures.ok in
    let leaf : c.in_ok-tree.tree ≡ Leaf c.empty.result = c.in_ok-tree.ensures in
    let undecided : IsUndecided g (nothing_decided g) e =
    ap (λ states. slice_get states e) (states_of-nothing g) ∙
    slice_get-get_or (replicate (length g.edges) Undecided) e Undecided
    (omega (arith, length-replicate (length g.edges) Undecided, c.requires))
    ∙ ap Some (get_or-replicate (length g.edges) e Undecided Undecided c.requires) in
    subst (HasUndecidedSplits g (nothing_decided g)) (sym (split ∙ ap (replaced 0 new) leaf)) (undecided, tt, tt)
