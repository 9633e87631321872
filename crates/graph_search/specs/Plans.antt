-- What is kept beside the leaves that exchanges split.
use Rattle.std.specs.Prelude.{ℕ, ◌≡◌, length, All}
use Rattle.net_graph.specs.Graph.{Graph}
use Rattle.branch.specs.Searching.{SearchState, CanSplitAt}
use Rattle.graph_search.specs.declared.children.Plan.{Plan}
use Rattle.graph_search.specs.declared.children.Child.{Child}
use Rattle.graph_search.specs.declared.trials.Trial.{Trial}

-- the plan's network is a set of the graph's edges
abbrev pub IsPlanIn : Graph → Plan → Type 0
IsPlanIn g plan = length plan.network ≡ length g.edges

-- so is the child's, and the cuts of its packing are sets of the graph's vertices
pub record IsChildIn (g : Graph) (child : Child) : Type 0 where
  pub plan : IsPlanIn g child.plan
  pub sizes : All (λ c. length c.members ≡ g.vertices) child.packing

-- a leaf can be split on the vertex of a split that was tried, whose children are of the graph
pub record IsTrialOf (s : SearchState) (leaf : ℕ) (trial : Trial) : Type 0 where
  pub can : CanSplitAt s leaf trial.vertex
  pub outside : IsChildIn s.graph trial.outside
  pub inside : IsChildIn s.graph trial.inside
