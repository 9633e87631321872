-- Runs of openings and their first networks.
use Rattle.std.specs.Prelude.{ℕ, zero, suc, ◌≤◌, Bool, List}
use Rattle.std.proofs.Common.{arith}
use Rattle.net_graph.specs.Graph.{Graph}
use Rattle.cert_tree.specs.declared.split.SplitOn.{SplitOn}
use Rattle.cert_tree.specs.Tree.{Tree}
use Rattle.cert_tree.specs.Preorder.{split_count}
use Rattle.branch.specs.Runs.{EndsOpenings, EndsRunOfOpenings}

-- a run whose first network is no longer than a length is one for each greater length
EndsOpenings-longer : (g : Graph) (first later n : ℕ) (network : List Bool) (tree : Tree SplitOn) → first ≤ later →
    EndsOpenings g first n network tree → EndsOpenings g later n network tree
EndsOpenings-longer g first later zero network tree longer (state, none, short) =
    (state, none, omega (arith, longer, short))
EndsOpenings-longer g first later (suc n) network tree longer (state, count, (earlier, earlier_tree, run, opening)) =
    let before : EndsOpenings g later n earlier earlier_tree =
    EndsOpenings-longer g first later n earlier earlier_tree longer run in
    (state, count, (earlier, earlier_tree, before, opening))

pub EndsRunOfOpenings-longer : (g : Graph) (first later : ℕ) (network : List Bool) (tree : Tree SplitOn) →
    first ≤ later →
    EndsRunOfOpenings g first network tree → EndsRunOfOpenings g later network tree
EndsRunOfOpenings-longer g first later network tree longer run =
    EndsOpenings-longer g first later (split_count tree) network tree longer run
