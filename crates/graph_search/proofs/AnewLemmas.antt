-- Searches that begin anew.
use Rattle.std.proofs.Common.{ℕ, zero, suc, ◌≡◌, ◌≤◌, Bool, List, true, false, refl, sym, ◌∙◌, subst, arith}
use Rattle.net_graph.specs.Graph.{Graph}
use Rattle.net_graph.specs.Network.{length_of}
use Rattle.cert_tree.specs.Preorder.{split_count}
use Rattle.cert_tree.specs.declared.split.SplitOn.{SplitOn}
use Rattle.cert_tree.specs.Tree.{Tree}
use Rattle.branch.specs.declared.solved.Solved.{Solved}
use Rattle.branch.specs.declared.split_kind.SplitKind.{SplitKind}
use Rattle.branch.specs.declared.split_kind.SplitKind.TheVariants as kind
use Rattle.branch.specs.declared.step.Step.{Step}
use Rattle.branch.specs.declared.step.Step.TheVariants as step
use Rattle.branch.specs.KindLaws.{leaf_splits_vertices}
use Rattle.branch.specs.PlainOpenings.{LeadsInOpenings, LeadsByOpenings}
use Rattle.branch.specs.RunLaws.{EndsRunOfOpenings-longer}
use Rattle.branch.specs.Runs.{EndsRunOfOpenings}
use Rattle.branch.specs.Searching.{SearchState, TakesStep}
use Rattle.branch.specs.Solving.{IsSolved}
use Rattle.graph_search.specs.Anew.{IsAhead, IsFoundOnEdges}
use Rattle.graph_search.specs.Searched.{EndsByKind, IsTold}
use Rattle.graph_search.proofs.SearchedLaws.{told}

-- openings and then others are openings
leads_on : (asked : SplitKind) (g : Graph) (network : List Bool) (tree : Tree SplitOn) (n : ℕ) (middle : List Bool)
    (middle_tree : Tree SplitOn) (m : ℕ) (later : List Bool) (later_tree : Tree SplitOn) →
    LeadsInOpenings asked g network tree n middle middle_tree →
    LeadsInOpenings asked g middle middle_tree m later later_tree → LeadsByOpenings asked g network tree later later_tree
leads_on asked g network tree n middle middle_tree zero later later_tree first (same, same_tree) = (
  n,
  subst (λ (t : Tree SplitOn). LeadsInOpenings asked g network tree n later t) (sym same_tree)
      (subst (λ (set : List Bool). LeadsInOpenings asked g network tree n set middle_tree) (sym same) first),
)
leads_on asked g network tree n middle middle_tree (suc m) later later_tree first (before, before_tree, rest, plain) =
    let (count, leads) = leads_on asked g network tree n middle middle_tree m before before_tree first rest in
    (suc count, (before, before_tree, leads, plain))

pub ahead_refl : (s : SearchState) → IsAhead s s
ahead_refl s = grind arith

pub ahead_trans : (first middle last : SearchState) → IsAhead first middle → IsAhead middle last → IsAhead first last
ahead_trans first middle last one other =
    let rest : LeadsByOpenings first.kind first.graph middle.network middle.tree last.network last.tree =
    subst (λ (g : Graph). LeadsByOpenings first.kind g middle.network middle.tree last.network last.tree) one.graph
    (subst (λ (k : SplitKind). LeadsByOpenings k middle.graph middle.network middle.tree last.network last.tree)
    one.kind other.leads) in record {
      graph = other.graph ∙ one.graph;
      kind = other.kind ∙ one.kind;
      first_length = other.first_length ∙ one.first_length;
      leads = leads_on first.kind first.graph first.network first.tree one.leads.0 middle.network middle.tree rest.0
          last.network last.tree one.leads.1 rest.1;
    }

-- a step of a search leads on
pub step_ahead : (old new : SearchState) (taken : Step) → TakesStep old new taken → IsAhead old new
step_ahead old new step.Settled (settled, same) = subst (IsAhead old) (sym same) (ahead_refl old)
step_ahead old new step.Split opens = record {
  graph = opens.graph;
  kind = opens.kind;
  first_length = opens.first_length;
  leads = (1, (old.network, old.tree, (refl, refl), opens.opening));
}

module _ (g : Graph) (first later : ℕ) (longer : first ≤ later) where
  by_kind_longer : (asked : SplitKind) (network : List Bool) (tree : Tree SplitOn) →
      EndsByKind g asked first network tree → EndsByKind g asked later network tree
  by_kind_longer asked network tree ends =
      grind (arith, EndsRunOfOpenings-longer g first later ends.before ends.before_tree longer ends.run)

-- What a search that began anew found is told as it is, in place of what was stopped, where it made all openings or closes.
pub anew_told : (g : Graph) (asked : SplitKind) (openings first_length : ℕ) (stopped found : Solved) →
    asked ≡ kind.Edges → IsTold g asked openings first_length stopped →
    IsFoundOnEdges g (length_of g stopped.network) openings found →
    (found.optimal ≡ false → split_count found.tree ≡ openings) → IsTold g asked openings first_length found
anew_told g asked openings first_length stopped found edges was is whole =
    let short : length_of g stopped.network ≤ first_length =
    (let no_longer = was.no_longer in let same = was.length in omega (arith, no_longer, same)) in
    let ends = by_kind_longer g (length_of g stopped.network) first_length short kind.Edges found.network found.tree is.by_kind in
    told g asked openings first_length found
    (grind (arith, EndsRunOfOpenings-longer)) is.few whole
    (subst (λ (k : SplitKind). EndsByKind g k first_length found.network found.tree) (sym edges) ends)

-- so it is where it closes
pub closed_told : (g : Graph) (asked : SplitKind) (openings first_length : ℕ) (stopped found : Solved) →
    asked ≡ kind.Edges → IsTold g asked openings first_length stopped →
    IsFoundOnEdges g (length_of g stopped.network) openings found → found.optimal ≡ true →
    IsTold g asked openings first_length found
closed_told g asked openings first_length stopped found edges was is optimal =
    anew_told g asked openings first_length stopped found edges was is
    (λ no. let never : true ≡ false = sym optimal ∙ no in absurd cc)

-- What a search found that was ahead of a leaf.
pub found_on_edges : (g : Graph) (first_length openings : ℕ) (leaf last : SearchState) (found : Solved) →
    leaf.graph ≡ g → leaf.kind ≡ kind.Edges → leaf.first_length ≡ first_length → split_count leaf.tree ≡ 0 →
    EndsRunOfOpenings leaf.graph leaf.first_length leaf.network leaf.tree → IsAhead leaf last →
    split_count last.tree ≤ openings → found.network ≡ last.network → found.tree ≡ last.tree →
    IsSolved last.graph last.first_length found → IsFoundOnEdges g first_length openings found
found_on_edges g first_length openings leaf last found graph edges first none run ahead few network tree solved =
    grind (arith, leaf_splits_vertices leaf.tree none)
