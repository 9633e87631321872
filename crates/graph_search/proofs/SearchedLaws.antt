-- What a search found, as the record of its end tells it.
use Rattle.std.proofs.Common.{ℕ, ◌≡◌, ◌≤◌, Bool, false, Result, Ok, Err, IfOk, min, eqb, IsTrue, ◌↔◌}
use Rattle.std.proofs.Common.{ap, ◌∙◌, subst, arith}
use Rattle.std.proofs.Math.Nat.{min-le_left}
use Rattle.std.proofs.lemmas.Bool.{cases_Bool}
use Rattle.std.proofs.lemmas.Bool.Decides.{eqb_tells}
use Rattle.net_graph.specs.Graph.{Graph}
use Rattle.cert_tree.specs.Preorder.{split_count}
use Rattle.branch.specs.declared.solved.Solved.{Solved}
use Rattle.branch.specs.declared.split_kind.SplitKind.{SplitKind}
use Rattle.branch.specs.Kinds.{SplitsVertices}
use Rattle.branch.specs.PlainOpenings.{LeadsByOpenings}
use Rattle.branch.specs.Runs.{EndsRunOfOpenings}
use Rattle.branch.specs.Searching.{SearchState}
use Rattle.branch.specs.Solving.{IsSolved}
use Rattle.graph_search.specs.Searched.{EndsByKind, IsTold, bound_of, value_on}

-- a test that holds exactly where two numbers are equal is their comparison
compared : (flag : Bool) (m n : ℕ) → IsTrue flag ↔ (m ≡ n) → flag ≡ eqb m n
compared flag m n exact = grind (arith, eqb_tells m n, cases_Bool flag)

module _ (g : Graph) (asked : SplitKind) (openings first_length : ℕ) (s : Solved) (holds : IsSolved g first_length s) where
  bound_is : s.bound ≡ bound_of g s.network s.tree
  bound_is = holds.bound ∙ ap (λ (n : ℕ). min (value_on g s.tree) n) holds.length_is

  -- What a search found is told as it is.
  pub told : split_count s.tree ≤ openings → (s.optimal ≡ false → split_count s.tree ≡ openings) →
      EndsByKind g asked first_length s.network s.tree → IsTold g asked openings first_length s
  told few stopped by_kind = grind (arith, bound_is, min-le_left, cases_Bool, compared s.optimal s.bound s.length holds.optimal)

-- The same where memory may be wanting, of a search that made its plain openings from a state on.
pub told_or_not : {E : Type 0} (g : Graph) (asked : SplitKind) (openings first_length : ℕ) (from : SearchState)
    (found : Result Solved E) → from.graph ≡ g → from.kind ≡ asked → from.first_length ≡ first_length →
    SplitsVertices from.tree → EndsRunOfOpenings from.graph from.first_length from.network from.tree →
    IfOk found (IsSolved from.graph from.first_length) →
    IfOk found (λ s. split_count s.tree ≤ openings) →
    IfOk found (λ s. s.optimal ≡ false → split_count s.tree ≡ openings) →
    IfOk found (λ s. LeadsByOpenings from.kind from.graph from.network from.tree s.network s.tree) →
    IfOk found (IsTold g asked openings first_length)
told_or_not g asked openings first_length from (Ok s) graph kind first vertices run solved few stopped plain =
    let solved_in = subst (λ (h : Graph). IsSolved h from.first_length s) graph solved in
    let run_in = subst (λ (h : Graph). EndsRunOfOpenings h from.first_length from.network from.tree) graph run in
    let plain_in = subst (λ (h : Graph). LeadsByOpenings from.kind h from.network from.tree s.network s.tree) graph plain in
    told g asked openings first_length s (subst (λ (m : ℕ). IsSolved g m s) first solved_in) few stopped
    (record {
      before = from.network;
      before_tree = from.tree;
      run = subst (λ (m : ℕ). EndsRunOfOpenings g m from.network from.tree) first run_in;
      vertices = vertices;
      plain = subst (λ (k : SplitKind). LeadsByOpenings k g from.network from.tree s.network s.tree) kind plain_in;
    })
told_or_not g asked openings first_length from (Err memory) graph kind first vertices run solved few stopped plain = tt
