-- Plain openings, one after another.
use Rattle.std.proofs.Common.{ℕ, zero, suc, ◌≡◌, Bool, List, Result, IfOk, sym, subst, arith}
use Rattle.net_graph.specs.Graph.{Graph}
use Rattle.net_graph.specs.Network.{length_of}
use Rattle.cert_tree.specs.declared.split.SplitOn.{SplitOn}
use Rattle.cert_tree.specs.Tree.{Tree}
use Rattle.cert_tree.specs.Preorder.{split_count}
use Rattle.branch.specs.declared.solved.Solved.{Solved}
use Rattle.branch.specs.declared.split_kind.SplitKind.{SplitKind}
use Rattle.branch.specs.KindLaws.{SplitsEdges-replaced}
use Rattle.branch.specs.Kinds.{AreOfKind}
use Rattle.branch.specs.Notes.{shorter_of}
use Rattle.branch.specs.PlainOpenings.{IsPlainOpening, LeadsInOpenings, LeadsByOpenings, EndsPlainOpenings}
use Rattle.branch.specs.Searching.{SearchState, OpensTo}

-- so splits on edges alone stay so through openings of their kind
opening_of_kind : (asked : SplitKind) (g : Graph) (network later : List Bool) (tree later_tree : Tree SplitOn) →
    IsPlainOpening asked g network later tree later_tree → AreOfKind asked tree → AreOfKind asked later_tree
opening_of_kind asked g network later tree later_tree plain were = grind (arith, SplitsEdges-replaced)

pub leads_of_kind : (asked : SplitKind) (g : Graph) (network : List Bool) (tree : Tree SplitOn) (n : ℕ) (later : List Bool)
    (later_tree : Tree SplitOn) → LeadsInOpenings asked g network tree n later later_tree → AreOfKind asked tree →
    AreOfKind asked later_tree
leads_of_kind asked g network tree zero later later_tree leads were = subst (AreOfKind asked) (sym leads.1) were
leads_of_kind asked g network tree (suc n) later later_tree (before, before_tree, leads, plain) were =
    grind (arith, opening_of_kind asked g before later before_tree later_tree plain (leads_of_kind asked g network tree n before before_tree leads were))

-- one more opening, by the search's step
pub leads_more : (asked : SplitKind) (g : Graph) (network : List Bool) (tree : Tree SplitOn) (old new : SearchState) →
    old.kind ≡ asked → old.graph ≡ g → LeadsByOpenings asked g network tree old.network old.tree → OpensTo old new →
    LeadsByOpenings asked g network tree new.network new.tree
leads_more asked g network tree old new kind graph (n, leads) opens =
    let plain : IsPlainOpening asked g old.network new.network old.tree new.tree =
    subst (λ (k : SplitKind). IsPlainOpening k g old.network new.network old.tree new.tree) kind
    (subst (λ (h : Graph). IsPlainOpening old.kind h old.network new.network old.tree new.tree) graph opens.opening) in
    (suc n, (old.network, old.tree, leads, plain))

-- a search that began with one leaf
pub ends_plain : {E : Type 0} (asked : SplitKind) (g : Graph) (first : List Bool) (start : SearchState) (found : Result Solved E) →
    start.graph ≡ g → start.kind ≡ asked → split_count start.tree ≡ 0 → start.network ≡ shorter_of g first start.shown →
    IfOk found (λ s. LeadsByOpenings start.kind start.graph start.network start.tree s.network s.tree) →
    IfOk found (λ s. EndsPlainOpenings asked g (length_of g first) s.network s.tree)
ends_plain asked g first start found graph kind leaf network leads = grind arith
