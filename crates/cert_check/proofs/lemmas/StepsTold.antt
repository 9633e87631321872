-- The steps that an answer's lines tell, its names resolved: the lines pass where the steps do.
use Rattle.std.proofs.Common.{ℕ, ◌≡◌, List, [], ◌∷◌, ◌++◌, length, map, All, Some, None}
use Rattle.std.proofs.Common.{refl, sym, ap, ◌∙◌, subst}
use Rattle.std.proofs.lemmas.List.{length-map}
use Rattle.std.proofs.lemmas.List.Elements.{All-nil, All-cons, All-head, All-tail, All-append}
use Rattle.lists.specs.ListLaws.{All-first, All-second}
use Rattle.net_graph.specs.declared.packing.Cut.{Cut}
use Rattle.answer_text.specs.declared.label.EdgeLabel.{EdgeLabel}
use Rattle.cert_tree.specs.declared.split.SplitOn.{SplitOn}
use Rattle.cert_tree.specs.Tree.{Tree}
use Rattle.cert_tree.specs.Tree.Tree.{Leaf, Split}
use Rattle.cert_tree.specs.Preorder.{nodes_of}
use Rattle.answer_text.specs.declared.event.Event.TheVariants as event
use Rattle.answer_text.specs.declared.split.SplitName.{SplitName}
use Rattle.answer_text.specs.declared.form.Form.{Form}
use Rattle.answer_text.specs.declared.version.Version.{Version}
use Rattle.answer_text.specs.Value.{WrittenAnswer}
use Rattle.answer_text.specs.Answers.{IsNodeOn, edge_labels, labelled, split_label}
use Rattle.answer_text.specs.Events.{cut_told}
use Rattle.answer_text.specs.Spelling.{FitsTree}
use Rattle.tree_judge.specs.declared.step.Step.TheVariants as step
use Rattle.tree_judge.specs.Answers.{answer_steps}
use Rattle.tree_judge.specs.Judged.{SoFar}
use Rattle.tree_judge.specs.Runs.{HasWeights, cut_step, edge_steps, tree_steps}
use Rattle.tree_judge.specs.Runs as steps
use Rattle.tree_judge.specs.RunLaws as step_laws
use Rattle.cert_check.specs.Named.{Named}
use Rattle.cert_check.specs.Resolved.{claim_of}
use Rattle.cert_check.proofs.lemmas.Runs.{Runs, Runs-append, Runs-join}
use Rattle.cert_check.proofs.lemmas.ToldParts.{answer_told, edges_told, proof_told, tree_told}

-- ---- edges

-- these numbers have the names, and their steps pass
pub record EdgesResolved (N : Named) (s s' : SoFar) (names : List EdgeLabel) : Type 0 where
  pub edges : List ℕ
  pub named : edge_labels N.labels edges ≡ names
  pub runs : steps.Runs N.graph s (edge_steps edges) s'

edges_resolved : (N : Named) (s s' : SoFar) (names : List EdgeLabel) → Runs N s (edges_told names) s' →
    EdgesResolved N s s' names
edges_resolved N s s' [] runs = record { edges = []; named = refl; runs = runs }
edges_resolved N s s' (name ∷ names) (m, (e, is, passes), runs) =
    let rest = edges_resolved N m s' names runs in
    record {
      edges = e ∷ rest.edges;
      named = ap (λ n. n ∷ edge_labels N.labels rest.edges) is.named ∙ ap (λ ns. name ∷ ns) rest.named;
      runs = (m, passes, rest.runs);
    }

-- the lines of numbers whose steps pass do so too
edges_named : (N : Named) (s s' : SoFar) (edges : List ℕ) →
    steps.Runs N.graph s (edge_steps edges) s' → Runs N s (edges_told (edge_labels N.labels edges)) s'
edges_named N s s' [] runs = runs
edges_named N s s' (e ∷ edges) (m, passes, runs) =
    (m, (e, record { inside = passes.0.inside; named = refl }, passes), edges_named N m s' edges runs)

-- ---- trees

cuts_resolved : (N : Named) (s s' : SoFar) (cuts : List Cut) → Runs N s (map cut_told cuts) s' →
    steps.Runs N.graph s (map cut_step cuts) s'
cuts_resolved N s s' [] runs = runs
cuts_resolved N s s' (c ∷ cuts) (m, passes, runs) = (m, passes, cuts_resolved N m s' cuts runs)

cuts_told_by : (N : Named) (s s' : SoFar) (cuts : List Cut) →
    steps.Runs N.graph s (map cut_step cuts) s' → Runs N s (map cut_told cuts) s'
cuts_told_by N s s' [] runs = runs
cuts_told_by N s s' (c ∷ cuts) (m, passes, runs) = (m, passes, cuts_told_by N m s' cuts runs)

-- this tree has the names, and its steps pass
pub record TreeResolved (N : Named) (s s' : SoFar) (told : Tree SplitName) : Type 0 where
  pub tree : Tree SplitOn
  pub named_tree : told ≡ labelled N.labels tree
  pub splits : All (IsNodeOn N.graph) (nodes_of tree)
  pub runs : steps.Runs N.graph s (tree_steps tree) s'

tree_resolved : (N : Named) (s s' : SoFar) (told : Tree SplitName) → Runs N s (tree_told told) s' →
    TreeResolved N s s' told
tree_resolved N s s' (Leaf cuts) (m, is, runs) = record {
  tree = Leaf cuts;
  named_tree = refl;
  splits = All-cons (IsNodeOn N.graph) None [] tt (All-nil (IsNodeOn N.graph));
  runs = (m, is, cuts_resolved N m s' cuts runs);
}
tree_resolved N s s' (Split name outside inside) (m, (on, is, passes), runs) =
    let g = N.graph in
    let parts = Runs-append N m s' (tree_told outside) (tree_told inside) runs in
    let first = tree_resolved N m parts.0 outside parts.1 in
    let second = tree_resolved N parts.0 s' inside parts.2 in
    record {
      tree = Split on first.tree second.tree;
      named_tree = ap (λ n. Split n outside inside) (sym is.named)
          ∙ ap (λ t. Split (split_label N.labels on) t inside) first.named_tree
          ∙ ap (λ t. Split (split_label N.labels on) (labelled N.labels first.tree) t) second.named_tree;
      splits = All-cons (IsNodeOn g) (Some on) (nodes_of first.tree ++ nodes_of second.tree) is.inside
          (All-append (IsNodeOn g) (nodes_of first.tree) (nodes_of second.tree) first.splits second.splits);
      runs = (
        m,
        passes,
        step_laws.Runs-join g m parts.0 s' (tree_steps first.tree) (tree_steps second.tree) first.runs second.runs,
      );
    }

-- the lines of a tree on the grid whose steps pass do so too
tree_named : (N : Named) (s s' : SoFar) (t : Tree SplitOn) → All (IsNodeOn N.graph) (nodes_of t) →
    steps.Runs N.graph s (tree_steps t) s' → Runs N s (tree_told (labelled N.labels t)) s'
tree_named N s s' (Leaf cuts) on (m, is, runs) = (m, is, cuts_told_by N m s' cuts runs)
tree_named N s s' (Split on outside inside) nodes (m, passes, runs) =
    let g = N.graph in
    let here = All-head (IsNodeOn g) (Some on) (nodes_of outside ++ nodes_of inside) nodes in
    let behind = All-tail (IsNodeOn g) (Some on) (nodes_of outside ++ nodes_of inside) nodes in
    let parts = step_laws.Runs-append g m s' (tree_steps outside) (tree_steps inside) runs in
    let first = tree_named N m parts.0 outside
    (All-first (IsNodeOn g) (nodes_of outside) (nodes_of inside) behind) parts.1 in
    let second = tree_named N parts.0 s' inside
    (All-second (IsNodeOn g) (nodes_of outside) (nodes_of inside) behind) parts.2 in (
      m,
      (on, record { inside = here; named = refl }, passes),
      Runs-join N m parts.0 s' (tree_told (labelled N.labels outside)) (tree_told (labelled N.labels inside)) first second,
    )

-- a tree that fits a text has weights
pub tree_weights : (N : Named) (v : Version) (F : Form) (t : Tree SplitOn) → FitsTree v F (labelled N.labels t) → HasWeights t
tree_weights N v F (Leaf cuts) fits = λ i d below. (fits.each i d below).some
tree_weights N v F (Split on outside inside) fits =
    (tree_weights N v F outside fits.1, tree_weights N v F inside fits.2)

-- ---- answers

-- these edges and this tree have the names of an answer, and its steps pass
pub record AnswerResolved (N : Named) (s s' : SoFar) (a : WrittenAnswer) : Type 0 where
  pub edges : List ℕ
  pub named_edges : edge_labels N.labels edges ≡ a.edges
  pub tree : Tree SplitOn
  pub named_tree : a.tree ≡ labelled N.labels tree
  pub splits : All (IsNodeOn N.graph) (nodes_of tree)
  pub runs : steps.Runs N.graph s (answer_steps (claim_of a.head) edges tree) s'

-- where the lines of an answer pass
pub answer_resolved : (N : Named) (s s' : SoFar) (a : WrittenAnswer) → Runs N s (answer_told a) s' →
    AnswerResolved N s s' a
answer_resolved N s s' a (headed, head_is, (begun, count_is, runs)) =
    let g = N.graph in
    let parts = Runs-append N begun s' (edges_told a.edges) (proof_told a.tree) runs in
    let edges = edges_resolved N begun parts.0 a.edges parts.1 in
    let (m, is, behind) = parts.2 in
    let ends = Runs-append N m s' (tree_told a.tree) ((event.End, None) ∷ []) behind in
    let tree = tree_resolved N m ends.0 a.tree ends.1 in
    let count : length a.edges ≡ length edges.edges =
    sym (ap length edges.named) ∙ length-map edges.edges N.labels.edge in
    let proof : steps.Runs g parts.0 ((step.Tree, None) ∷ (tree_steps tree.tree ++ (step.End, None) ∷ [])) s' = (
      m,
      is,
      step_laws.Runs-join g m ends.0 s' (tree_steps tree.tree) ((step.End, None) ∷ []) tree.runs ends.2,
    ) in
    let body : steps.Runs g begun (edge_steps edges.edges ++ (step.Tree, None) ∷ (tree_steps tree.tree
    ++ (step.End, None) ∷ [])) s' =
    step_laws.Runs-join g begun parts.0 s' (edge_steps edges.edges)
    ((step.Tree, None) ∷ (tree_steps tree.tree ++ (step.End, None) ∷ [])) edges.runs proof in
    record {
      edges = edges.edges;
      named_edges = edges.named;
      tree = tree.tree;
      named_tree = tree.named_tree;
      splits = tree.splits;
      runs = subst (λ n. steps.Runs g s ((step.Claims (claim_of a.head), None) ∷ (step.EdgeCount n, None)
          ∷ (edge_steps edges.edges ++ (step.Tree, None) ∷ (tree_steps tree.tree ++ (step.End, None) ∷ []))) s')
          count (headed, head_is, (begun, count_is, body));
    }

-- the lines of an answer on the grid whose steps pass do so too
pub answer_named : (N : Named) (s s' : SoFar) (a : WrittenAnswer) (edges : List ℕ) (t : Tree SplitOn) →
    a.edges ≡ edge_labels N.labels edges → a.tree ≡ labelled N.labels t → All (IsNodeOn N.graph) (nodes_of t) →
    steps.Runs N.graph s (answer_steps (claim_of a.head) edges t) s' → Runs N s (answer_told a) s'
answer_named N s s' a edges t edges_are tree_is on (headed, head_is, (begun, count_is, runs)) =
    let g = N.graph in
    let parts = step_laws.Runs-append g begun s' (edge_steps edges)
    ((step.Tree, None) ∷ (tree_steps t ++ (step.End, None) ∷ [])) runs in
    let (m, is, behind) = parts.2 in
    let ends = step_laws.Runs-append g m s' (tree_steps t) ((step.End, None) ∷ []) behind in
    let tree = tree_named N m ends.0 t on ends.1 in
    let proof : Runs N parts.0 (proof_told (labelled N.labels t)) s' =
    (m, is, Runs-join N m ends.0 s' (tree_told (labelled N.labels t)) ((event.End, None) ∷ []) tree ends.2) in
    let body : Runs N begun (edges_told (edge_labels N.labels edges) ++ proof_told (labelled N.labels t)) s' =
    Runs-join N begun parts.0 s' (edges_told (edge_labels N.labels edges)) (proof_told (labelled N.labels t))
    (edges_named N begun parts.0 edges parts.1) proof in
    let count : length edges ≡ length (edge_labels N.labels edges) = sym (length-map edges N.labels.edge) in
    let told : Runs N s ((event.Head a.head, None) ∷ (event.EdgeCount (length (edge_labels N.labels edges)), None)
    ∷ (edges_told (edge_labels N.labels edges) ++ proof_told (labelled N.labels t))) s' =
    subst (λ n. Runs N s ((event.Head a.head, None) ∷ (event.EdgeCount n, None)
    ∷ (edges_told (edge_labels N.labels edges) ++ proof_told (labelled N.labels t))) s') count
    (headed, head_is, (begun, count_is, body)) in
    subst (λ es. Runs N s ((event.Head a.head, None) ∷ (event.EdgeCount (length es), None)
    ∷ (edges_told es ++ proof_told a.tree)) s') (sym edges_are)
    (subst (λ x. Runs N s ((event.Head a.head, None) ∷ (event.EdgeCount (length (edge_labels N.labels edges)), None)
    ∷ (edges_told (edge_labels N.labels edges) ++ proof_told x)) s') (sym tree_is) told)
