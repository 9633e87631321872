use Rattle.std.proofs.Common.{◌≡◌, sym, ◌∙◌, ap}
use Rattle.std.proofs.lemmas.Result.{IfOk-weaker}
use Rattle.cert_tree.specs.Preorder.{nodes_of}
use Rattle.cert_tree.proofs.lemmas.Places.{nodes_with_split_at}
use Rattle.cert_tree.proofs.tree.CertTree.nodes_with_split.Goals as goal

pub returns : goal.returns
returns c =
    let same : c.as_slice.result.now ≡ nodes_of c.args.self.now =
    c.as_slice.ensures.value ∙ sym c.self.invariant.nodes_same ∙ ap nodes_of c.self.view_is in
    IfOk-weaker c.split_at.result _ _
    (λ split parts. nodes_with_split_at c.args.self.now c.args.on c.as_slice.result.now split.items c.place_of.result
    c.args.leaf
    same c.place_of.ensures.at c.place_of.ensures.before parts)
    c.split_at.ensures
