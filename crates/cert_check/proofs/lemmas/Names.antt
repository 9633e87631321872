-- The labels of an answer's lines: each is that of one edge or vertex of the graph, or of nothing.
use Rattle.std.proofs.Common.{ℕ, ◌≡◌, refl, sym, ap, ◌∙◌, subst, arith}
use Rattle.cert_tree.specs.declared.split.SplitOn.{SplitOn}
use Rattle.cert_tree.specs.declared.split.SplitOn.TheVariants as split
use Rattle.answer_text.specs.declared.event.Event.{Event}
use Rattle.answer_text.specs.declared.event.Event.TheVariants as event
use Rattle.answer_text.specs.declared.label.EdgeLabel.{EdgeLabel}
use Rattle.answer_text.specs.declared.label.VertexLabel.{VertexLabel}
use Rattle.answer_text.specs.declared.split.SplitName.{SplitName}
use Rattle.answer_text.specs.declared.split.SplitName.TheVariants as name
use Rattle.answer_text.specs.Answers.{IsSplitOn, split_label}
use Rattle.tree_judge.specs.declared.cause.Cause.{Cause}
use Rattle.tree_judge.specs.declared.cause.Cause.TheVariants as cause
use Rattle.tree_judge.specs.declared.step.Step.{Step}
use Rattle.tree_judge.specs.declared.step.Step.TheVariants as step
use Rattle.cert_check.specs.Named.{IsNamed, Named}
use Rattle.cert_check.specs.Resolved.{IsLabelOfEdge, IsNameOfSplit, LabelsNoEdge, LabelsNoVertex, NameFault, ResolvesTo}

-- ---- one edge or vertex

same_edge_labelled : (N : Named) → IsNamed N → (label : EdgeLabel) (e e' : ℕ) → IsLabelOfEdge N label e →
    IsLabelOfEdge N label e' → e ≡ e'
same_edge_labelled N names label e e' is is' = names.edge e e' is.inside is'.inside (is.named ∙ sym is'.named)

-- the label of an edge's and of a vertex's name
same_edge_label : (l l' : EdgeLabel) → name.Edge l ≡ name.Edge l' → l ≡ l'
same_edge_label l l' same = cc

same_vertex_label : (l l' : VertexLabel) → name.Vertex l ≡ name.Vertex l' → l ≡ l'
same_vertex_label l l' same = cc

-- a name names one edge or vertex
same_named : (N : Named) → IsNamed N → (on on' : SplitOn) → IsSplitOn N.graph on → IsSplitOn N.graph on' →
    split_label N.labels on ≡ split_label N.labels on' → on ≡ on'
same_named N names (split.Edge e) (split.Edge e') inside inside' same =
    ap split.Edge (names.edge e e' inside inside' (same_edge_label (N.labels.edge e) (N.labels.edge e') same))
same_named N names (split.Edge e) (split.Vertex v') inside inside' same = absurd cc
same_named N names (split.Vertex v) (split.Edge e') inside inside' same = absurd cc
same_named N names (split.Vertex v) (split.Vertex v') inside inside' same =
    grind (arith, names.vertex v v' inside inside' (same_vertex_label (N.labels.vertex v) (N.labels.vertex v') same))

same_split : (N : Named) → IsNamed N → (name : SplitName) (on on' : SplitOn) → IsNameOfSplit N name on →
    IsNameOfSplit N name on' → on ≡ on'
same_split N names name on on' is is' = same_named N names on on' is.inside is'.inside (is.named ∙ sym is'.named)

-- nothing of the graph has the name
abbrev NamesNothing : Named → SplitName → Type 0
NamesNothing N (name.Edge label) = LabelsNoEdge N label
NamesNothing N (name.Vertex label) = LabelsNoVertex N label

-- the cause where it is so
abbrev off_grid_cause : ℕ → SplitName → Cause
off_grid_cause n (name.Edge label) = cause.OffGrid n
off_grid_cause n (name.Vertex label) = cause.OffGridVertex n

-- a name of nothing names nothing
named_something : (N : Named) (on : SplitOn) → IsSplitOn N.graph on → NamesNothing N (split_label N.labels on) → ⊥
named_something N (split.Edge e) inside none = none e inside refl
named_something N (split.Vertex v) inside none = none v inside refl

off_grid : {P : Type 0} (N : Named) (name : SplitName) (on : SplitOn) → NamesNothing N name →
    IsNameOfSplit N name on → P
off_grid N name on none is = absurd (named_something N on is.inside (subst (NamesNothing N) (sym is.named) none))

-- ---- why a name's line is wrong

edge_off : (N : Named) (n : ℕ) (label : EdgeLabel) (c : Cause) → NameFault N n (event.Edge label) c →
    (c ≡ cause.OffGrid n) × LabelsNoEdge N label
edge_off N n label (cause.OffGrid line) (is, none) = (ap cause.OffGrid is, none)
edge_off N n label c fault = absurd fault

split_off : (N : Named) (n : ℕ) (name : SplitName) (c : Cause) → NameFault N n (event.Split name) c →
    (c ≡ off_grid_cause n name) × NamesNothing N name
split_off N n (name.Edge label) (cause.OffGrid line) (is, none) = (ap cause.OffGrid is, none)
split_off N n (name.Vertex label) (cause.OffGridVertex line) (is, none) = (ap cause.OffGridVertex is, none)
split_off N n on c fault = absurd fault

-- a name of something of the graph has no fault
pub resolved_without_fault : {Q : Type 0} (N : Named) (n : ℕ) (e : Event) (c : Cause) (P : Step → Type 0) →
    ResolvesTo N e P → NameFault N n e c → Q
resolved_without_fault N n (event.Edge label) c P (e, named, holds) fault =
    absurd ((edge_off N n label c fault).1 e named.inside named.named)
resolved_without_fault N n (event.Split name) c P (on, named, holds) fault =
    off_grid N name on (split_off N n name c fault).1 named
resolved_without_fault N n e c P resolved fault = absurd fault

-- and one of nothing has one
pub same_name_fault : (N : Named) (n : ℕ) (e : Event) (c c' : Cause) → NameFault N n e c →
    NameFault N n e c' → c ≡ c'
same_name_fault N n (event.Edge label) c c' fault fault' =
    (edge_off N n label c fault).0 ∙ sym (edge_off N n label c' fault').0
same_name_fault N n (event.Split name) c c' fault fault' =
    (split_off N n name c fault).0 ∙ sym (split_off N n name c' fault').0
same_name_fault N n e c c' fault fault' = absurd fault

-- ---- the step of an event

-- what holds of a step holds of the event that resolves to it
pub ResolvesTo-step : (N : Named) (e : Event) (told : Step) (P : Step → Type 0) →
    ResolvesTo N e (λ x. x ≡ told) → P told → ResolvesTo N e P
ResolvesTo-step N (event.Head h) told P is holds = subst P (sym is) holds
ResolvesTo-step N (event.EdgeCount count) told P is holds = subst P (sym is) holds
ResolvesTo-step N (event.Edge name) told P (e, named, is) holds = (e, named, subst P (sym is) holds)
ResolvesTo-step N event.Tree told P is holds = subst P (sym is) holds
ResolvesTo-step N (event.Split name) told P (on, named, is) holds = (on, named, subst P (sym is) holds)
ResolvesTo-step N (event.Leaf count) told P is holds = subst P (sym is) holds
ResolvesTo-step N (event.Cut weight) told P is holds = subst P (sym is) holds
ResolvesTo-step N event.End told P is holds = subst P (sym is) holds

-- an event resolves to one step
pub ResolvesTo-both : (N : Named) → IsNamed N → (e : Event) (P Q : Step → Type 0) (R : Type 0) →
    ((x : Step) → P x → Q x → R) → ResolvesTo N e P → ResolvesTo N e Q → R
ResolvesTo-both N names (event.Head h) P Q R gives p q = gives _ p q
ResolvesTo-both N names (event.EdgeCount count) P Q R gives p q = gives _ p q
ResolvesTo-both N names (event.Edge name) P Q R gives (e, named, p) (e', named', q) =
    gives (step.Edge e) p (subst (λ k. Q (step.Edge k)) (same_edge_labelled N names name e' e named' named) q)
ResolvesTo-both N names event.Tree P Q R gives p q = gives _ p q
ResolvesTo-both N names (event.Split name) P Q R gives (on, named, p) (on', named', q) =
    gives (step.Split on) p (subst (λ k. Q (step.Split k)) (same_split N names name on' on named' named) q)
ResolvesTo-both N names (event.Leaf count) P Q R gives p q = gives _ p q
ResolvesTo-both N names (event.Cut weight) P Q R gives p q = gives _ p q
ResolvesTo-both N names event.End P Q R gives p q = gives _ p q
