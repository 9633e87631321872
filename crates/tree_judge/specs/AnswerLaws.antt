-- The steps of an answer all pass exactly where what it says of its network and its tree is sound, and they tell its
-- bound.
use Rattle.std.proofs.lemmas.List.{length-replicate}
use Rattle.tree_judge.specs.MemberLaws.{members_of-empty}
use Rattle.std.proofs.Common.{ℕ, ◌≡◌, ◌≤◌, Bool, List, [], ◌∷◌, ◌++◌, length, get_or, None, refl, sym, ap, ◌∙◌}
use Rattle.std.proofs.Common.{replicate, false, subst, arith}
use Rattle.net_graph.specs.Graph.{Graph}
use Rattle.net_graph.specs.Decision.{nothing_decided}
use Rattle.net_graph.specs.Members.{members_of}
use Rattle.cert_tree.specs.declared.split.SplitOn.{SplitOn}
use Rattle.cert_tree.specs.Tree.{Tree}
use Rattle.cert_tree.specs.TreeValue.{IsValidTree, tree_value}
use Rattle.tree_judge.specs.declared.claim.Claim.{Claim}
use Rattle.tree_judge.specs.declared.step.Step.TheVariants as step
use Rattle.tree_judge.specs.Answers.{IsSound, TellsAnswer, answer_steps, bound_of}
use Rattle.tree_judge.specs.EdgeRunLaws.{TellsNetwork, TellsNetwork-from_runs, network_passes}
use Rattle.tree_judge.specs.Fresh.{IsFresh}
use Rattle.tree_judge.specs.Judged.{SoFar, bound_found, decision_due, least_with, nothing_told}
use Rattle.tree_judge.specs.Networks.{IsMeasured}
use Rattle.tree_judge.specs.Runs.{HasWeights, Runs, edge_steps, tree_steps}
use Rattle.tree_judge.specs.RunLaws.{Runs-append, Runs-join}
use Rattle.tree_judge.specs.TreeLaws.{tree_passes, tree_valid}
use Rattle.tree_judge.specs.TreeRead.{tree_read, tree_read-claim, tree_read-least, tree_read-network, tree_read-splits}

-- the tree is read where nothing is decided
top_due : (g : Graph) (s : SoFar) → IsFresh g s → decision_due g s ≡ nothing_decided g
top_due g s fresh = ap (λ ds. get_or ds 0 (nothing_decided g)) fresh.decisions

-- behind a tree that was read first, the bound is the lesser one of its value and the length
bound_found-tree : (g : Graph) (s : SoFar) (t : Tree SplitOn) (length : ℕ) → IsFresh g s → s.claim.length ≡ length →
    bound_found (tree_read g s t) ≡ bound_of g t length
bound_found-tree g s t length fresh says =
    let last = tree_read g s t in
    let told : last.claim.length ≡ length = ap (λ (c : Claim). c.length) (tree_read-claim g s t) ∙ says in
    let value = ap (λ d. tree_value g d t) (top_due g s fresh) in
    let none : least_with last.claim.length s.values ≡ last.claim.length =
    ap (λ vs. least_with last.claim.length vs) fresh.values in
    omega (arith, tree_read-least g s t last.claim.length, value, none, told)

-- where the steps of the tree and the last one pass behind the edges
answer_from_tree : (g : Graph) (claim : Claim) (edges : List ℕ) (t : Tree SplitOn) (begun edged s : SoFar) →
    begun.claim ≡ claim → TellsNetwork g begun edged edges →
    Runs g edged ((step.Tree, None) ∷ (tree_steps t ++ (step.End, None) ∷ [])) s → HasWeights t →
    TellsAnswer g claim edges t s
answer_from_tree g claim edges t begun edged s said network (m, is, runs) weights =
    let parts = Runs-append g m s (tree_steps t) ((step.End, None) ∷ []) runs in
    let here = subst (λ x. Runs g x (tree_steps t) parts.0) is parts.1 in
    let last : s ≡ parts.0 = parts.2.2 ∙ parts.2.1 in
    let tree = tree_valid g edged s t (subst (λ x. Runs g edged (tree_steps t) x) (sym last) here) weights
    network.fresh.cuts in
    let says : edged.claim ≡ claim = network.claim ∙ said in
    let network_is : s.network ≡ edged.network = ap (λ x. x.network) tree.read ∙ tree_read-network g edged t in
    let before : edged.splits ≤ 255 = omega (arith, network.fresh.splits) in
    let measured : IsMeasured g claim.length s.network =
    subst (λ c. IsMeasured g c.length s.network) says (rw network_is network.measured) in
    record {
      says = ap (λ x. x.claim) tree.read ∙ tree_read-claim g edged t ∙ says;
      edges_are = ap members_of network_is ∙ network.network.told;
      sound = record {
        size = ap length network_is ∙ network.network.size;
        joins = measured.joins;
        plain_length = measured.told;
        few = omega (
          arith,
          tree.few before,
          ap (λ (x : SoFar). x.splits) tree.read,
          tree_read-splits g edged t,
        );
        valid = subst (λ d. IsValidTree g d t) (top_due g edged network.fresh) tree.valid;
      };
      found = ap bound_found tree.read
          ∙ bound_found-tree g edged t claim.length network.fresh (ap (λ (c : Claim). c.length) says);
    }

-- where the steps of an answer all pass, whose cuts have weights
pub answer_sound : (g : Graph) (claim : Claim) (edges : List ℕ) (t : Tree SplitOn) (s : SoFar) →
    Runs g (nothing_told g) (answer_steps claim edges t) s → HasWeights t → TellsAnswer g claim edges t s
answer_sound g claim edges t s (claimed, claimed_is, (begun, (begun_is, right), runs)) weights =
    let parts = Runs-append g begun s (edge_steps edges)
    ((step.Tree, None) ∷ (tree_steps t ++ (step.End, None) ∷ [])) runs in
    let counted : SoFar → SoFar = λ x. record x { edges_due = length edges } in
    let whole : begun ≡ record (nothing_told g) { claim = claim; edges_due = length edges } =
    begun_is ∙ ap counted claimed_is in
    let empty : begun.network ≡ (nothing_told g).network = ap (λ x. x.network) whole in
    let fresh = subst (IsFresh g) (sym whole)
    (record { decisions = refl; splits = refl; cuts = refl; values = refl }) in
    let network = TellsNetwork-from_runs g begun parts.0 [] edges parts.1 (ap (λ x. x.edges_due) whole) right
    (rw empty (grind (arith, length-replicate (length g.edges) false, members_of-empty (length g.edges)))) fresh in
    answer_from_tree g claim edges t begun parts.0 s (ap (λ x. x.claim) whole) network parts.2 weights

-- ---- sound answers pass

-- behind the steps of an answer the same is claimed, and its bound was found
pub record PassesAnswer (g : Graph) (claim : Claim) (network : List Bool) (t : Tree SplitOn) : Type 0 where
  pub last : SoFar
  pub runs : Runs g (nothing_told g) (answer_steps claim (members_of network) t) last
  pub says : last.claim ≡ claim
  pub found : bound_found last ≡ bound_of g t claim.length

pub answer_passes : (g : Graph) (claim : Claim) (network : List Bool) (t : Tree SplitOn) →
    IsSound g claim network t → PassesAnswer g claim network t
answer_passes g claim network t sound =
    let claimed : SoFar = record (nothing_told g) { claim = claim } in
    let begun : SoFar = record claimed { edges_due = length (members_of network) } in
    let edges = network_passes g claim network begun sound.size
    (record { joins = sound.joins; told = sound.plain_length }) refl refl
    (ap (λ n. replicate n false) (sym sound.size))
    (record { decisions = refl; splits = refl; cuts = refl; values = refl }) in
    let edged = edges.last in
    let tree = tree_passes g edged t (subst (λ d. IsValidTree g d t) (sym (top_due g edged edges.fresh)) sound.valid)
    (omega (arith, sound.few, edges.fresh.splits)) edges.fresh.cuts in
    let last = tree_read g edged t in
    let ending : Runs g edged (tree_steps t ++ (step.End, None) ∷ []) last =
    Runs-join g edged last last (tree_steps t) ((step.End, None) ∷ []) tree (last, refl, refl) in
    record {
      last = last;
      runs = (
        claimed,
        refl,
        (
          begun,
          (refl, edges.right),
          Runs-join g begun edged last (edge_steps (members_of network))
              ((step.Tree, None) ∷ (tree_steps t ++ (step.End, None) ∷ [])) edges.runs (edged, refl, ending),
        ),
      );
      says = tree_read-claim g edged t ∙ edges.says;
      found = bound_found-tree g edged t claim.length edges.fresh (ap (λ (c : Claim). c.length) edges.says);
    }
