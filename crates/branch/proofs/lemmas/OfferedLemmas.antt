-- A search that is offered a network, and the network that its first leaf shows.
use Rattle.std.proofs.Common.{ℕ, ◌≡◌, ◌<◌, ◌≤◌, Bool, List, Option, Bor, sym, subst, arith}
use Rattle.std.specs.Option.{IfSome, option_copied}
use Rattle.net_graph.specs.Decision.{nothing_decided}
use Rattle.net_graph.specs.Graph.{Graph}
use Rattle.net_graph.specs.Network.{length_of}
use Rattle.cert_tree.specs.declared.split.SplitOn.{SplitOn}
use Rattle.cert_tree.specs.Preorder.{split_count}
use Rattle.cert_tree.specs.Tree.{Tree}
use Rattle.branch.specs.declared.best.Best.{Best}
use Rattle.branch.specs.declared.frontier.Frontier.{Frontier}
use Rattle.branch.specs.Leaves.{DecidedLeaf, leaves_of}
use Rattle.branch.specs.Notes.{IsBest, IsKeptNote, IsOwnNetwork, ShowsOwn, AreNotesOf}
use Rattle.branch.specs.Runs.{EndsOpenings}
use Rattle.branch.specs.Searching.{IsSearch, is_anew_at}
use Rattle.branch.specs.States.{IsState}
use Rattle.branch.proofs.lemmas.ListLemmas.{AllZip-weaker}
use Rattle.branch.proofs.lemmas.VariantLemmas.{variant_state}
use Rattle.branch.proofs.lemmas.SearchLemmas.{state_of}

-- a run ends with a shorter network, too
shorter_run : (g : Graph) (first_length n : ℕ) (network less : List Bool) (tree : Tree SplitOn) → EndsOpenings g first_length n network tree →
    IsState g less tree → length_of g less ≤ length_of g network → EndsOpenings g first_length n less tree
shorter_run g first_length n network less tree h now shorter = grind arith

-- a search with a shorter network
pub offered_search : (g : Graph) (old new : Frontier) (best : Best) → IsSearch g old → IsBest g best → best.length < old.best.length →
    new ≡ record old { best = best } → IsSearch g new
offered_search g old new best search is_best less is =
    let are : AreNotesOf g best.length (leaves_of (nothing_decided g) old.tree) old.notes.items =
    AllZip-weaker (IsKeptNote g old.best.length) (IsKeptNote g best.length)
    (λ leaf note kept. (kept.0, grind arith))
    (leaves_of (nothing_decided g) old.tree) old.notes.items search.notes in
    let was = search.best.length in
    let now = is_best.length in
    subst (IsSearch g) (sym is) (record {
      best = is_best;
      valid = search.valid;
      notes = are;
      run = λ other of_old.
          shorter_run g old.first_length (split_count other) old.best.network best.network other (search.run other of_old)
          (variant_state (is_anew_at old.notes.items) g best.network old.tree other of_old
          (state_of g best old.tree old.notes.items is_best search.valid are)) (omega arith);
      no_longer = omega (arith, search.no_longer);
    })

-- what is kept as a leaf's own network is one
pub own_network : (g : Graph) (leaf : DecidedLeaf) (own : Option (List Bool)) → ShowsOwn g leaf own → IsOwnNetwork g own
own_network g leaf own shows = grind arith

-- what a reference to it is, is the value
pub IfSome-copied : {A : Type 0} (P : A → Type 0) (o : Option (Bor A)) → IfSome (option_copied o) P → IfSome o (λ x. P x.now)
IfSome-copied P o holds = grind arith
