-- What the lines of an answer's text tell a judge, whose labels are those of the graph's edges and vertices.
use Rattle.std.specs.Prelude.{ℕ, ◌≡◌, ◌≢◌, ◌<◌, length}
use Rattle.cert_tree.specs.declared.split.SplitOn.{SplitOn}
use Rattle.answer_text.specs.declared.head.AnswerHead.{AnswerHead}
use Rattle.answer_text.specs.declared.label.EdgeLabel.{EdgeLabel}
use Rattle.answer_text.specs.declared.label.VertexLabel.{VertexLabel}
use Rattle.answer_text.specs.declared.split.SplitName.{SplitName}
use Rattle.answer_text.specs.declared.split.SplitName.TheVariants as name
use Rattle.answer_text.specs.declared.event.Event.{Event}
use Rattle.answer_text.specs.declared.event.Event.TheVariants as event
use Rattle.answer_text.specs.Answers.{IsSplitOn, split_label}
use Rattle.tree_judge.specs.declared.claim.Claim.{Claim}
use Rattle.tree_judge.specs.declared.step.Step.{Step}
use Rattle.tree_judge.specs.declared.step.Step.TheVariants as step
use Rattle.tree_judge.specs.declared.cause.Cause.{Cause}
use Rattle.tree_judge.specs.declared.cause.Cause.TheVariants.{OffGrid, OffGridVertex}
use Rattle.cert_check.specs.Named.{Named}

-- what a head claims
abbrev pub claim_of : AnswerHead → Claim
claim_of h = record { length = h.length; bound = h.bound; optimal = h.optimal }

-- the label is that of this edge or vertex of the graph
pub record IsLabelOfEdge (N : Named) (label : EdgeLabel) (e : ℕ) : Type 0 where
  pub inside : e < length N.graph.edges
  pub named : N.labels.edge e ≡ label

pub record IsLabelOfVertex (N : Named) (label : VertexLabel) (v : ℕ) : Type 0 where
  pub inside : v < N.graph.vertices
  pub named : N.labels.vertex v ≡ label

-- no edge, or no vertex, of the graph has this label
abbrev pub LabelsNoEdge : Named → EdgeLabel → Type 0
LabelsNoEdge N label = (e : ℕ) → e < length N.graph.edges → N.labels.edge e ≢ label

abbrev pub LabelsNoVertex : Named → VertexLabel → Type 0
LabelsNoVertex N label = (v : ℕ) → v < N.graph.vertices → N.labels.vertex v ≢ label

-- the split is on this edge or vertex of the graph, and the name is its label
pub record IsNameOfSplit (N : Named) (name : SplitName) (on : SplitOn) : Type 0 where
  pub inside : IsSplitOn N.graph on
  pub named : split_label N.labels on ≡ name

-- the labels of the event are those of an edge or a vertex of the graph, and this holds of the step that it tells
abbrev pub ResolvesTo : Named → Event → (Step → Type 0) → Type 0
ResolvesTo N (event.Head h) P = P (step.Claims (claim_of h))
ResolvesTo N (event.EdgeCount count) P = P (step.EdgeCount count)
ResolvesTo N (event.Edge label) P = (e : ℕ) × IsLabelOfEdge N label e × P (step.Edge e)
ResolvesTo N event.Tree P = P step.Tree
ResolvesTo N (event.Split name) P = (on : SplitOn) × IsNameOfSplit N name on × P (step.Split on)
ResolvesTo N (event.Leaf count) P = P (step.Leaf count)
ResolvesTo N (event.Cut weight) P = P (step.Cut weight)
ResolvesTo N event.End P = P step.End

-- why the line n of an event is wrong whose label is that of no edge or no vertex of the graph
abbrev pub NameFault : Named → ℕ → Event → Cause → Type 0
NameFault N n (event.Edge label) (OffGrid line) = (line ≡ n) × LabelsNoEdge N label
NameFault N n (event.Split (name.Edge label)) (OffGrid line) = (line ≡ n) × LabelsNoEdge N label
NameFault N n (event.Split (name.Vertex label)) (OffGridVertex line) = (line ≡ n) × LabelsNoVertex N label
NameFault N n e cause = ⊥
