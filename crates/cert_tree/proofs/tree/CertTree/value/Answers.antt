use Rattle.std.proofs.Common.{◌≡◌, ◌<◌, arith, subst, inl, inr, le_of_eq, length}
use Rattle.std.proofs.lemmas.Bool.{cases_lt}
use Rattle.net_graph.specs.Decision.{nothing_decided}
use Rattle.cert_tree.specs.Preorder.{packings_of}
use Rattle.cert_tree.specs.Decisions.{IsLeafAt}
use Rattle.cert_tree.specs.PreorderLaws.{length-packings_of}
use Rattle.cert_tree.specs.LeafLaws.{IsLeafAt-found, IsLeafAt-below, tree_value-le-leaf, tree_value-at_leaf}
use Rattle.cert_tree.proofs.tree.CertTree.value.Goals as goal

pub leaf_value-least-requires-clause-leaf : goal.leaf_value-least-requires-clause-leaf
leaf_value-least-requires-clause-leaf c = omega (arith, length-packings_of c.args.self.now)

pub loop-leaf-init : goal.loop-leaf-init
loop-leaf-init c =
    let d = nothing_decided c.args.g.now in
    let t = c.args.self.now in
    let first : 0 < length (packings_of t) = omega (arith, length-packings_of t) in
    let (own, cuts, at) = IsLeafAt-found d t 0 first in
    record {
      least = λ k own cuts below at.
          let zero : k ≡ 0 = omega arith in
          le_of_eq (c.leaf_value-least.ensures own cuts (subst (λ x. IsLeafAt d t x own cuts) zero at));
      some = (0, own, cuts, at, c.leaf_value-least.ensures own cuts at);
    }

pub loop-leaf-preserved : goal.loop-leaf-preserved
loop-leaf-preserved c =
    let d = nothing_decided c.args.g.now in
    let t = c.args.self.now in
    let leaf = c.loop-leaf.leaf in
    let within : leaf < length (packings_of t) = omega arith in
    let (own, cuts, at) = IsLeafAt-found d t leaf within in
    let value = c.leaf_value.ensures own cuts at in
    let (k, own_k, cuts_k, at_k, value_k) = c.loop-leaf.invariant.some in
    record {
      least = λ k own cuts below at. elim (cases_lt k leaf) [
        | inl before ↦ omega (arith, c.loop-leaf.invariant.least k own cuts before at)
        | inr past ↦
            let here : k ≡ leaf = omega arith in
            omega (arith, c.leaf_value.ensures own cuts (subst (λ x. IsLeafAt d t x own cuts) here at))
      ];
      some = elim (cases_lt c.loop-leaf.least c.leaf_value.result) [
        | inl less ↦ (k, own_k, cuts_k, at_k, omega arith)
        | inr more ↦ (leaf, own, cuts, at, omega arith)
      ];
    }

pub returns : goal.returns
returns c =
    let g = c.args.g.now in
    let d = nothing_decided g in
    let t = c.args.self.now in
    let (j, own_j, cuts_j, at_j, value_j) = tree_value-at_leaf g d t in
    let (k, own_k, cuts_k, at_k, value_k) = c.loop-leaf.invariant.some in
    let below : j < c.loop-leaf.leaf = omega (arith, IsLeafAt-below d t j own_j cuts_j at_j) in
    omega (arith, c.loop-leaf.invariant.least j own_j cuts_j below at_j, tree_value-le-leaf g d t k own_k cuts_k at_k)
