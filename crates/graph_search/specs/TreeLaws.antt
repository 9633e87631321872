-- Valid trees can be written.
use Rattle.std.proofs.Common.{◌+◌, ◌*◌, ◌≤◌, [], length, Some, None, All}
use Rattle.std.proofs.lemmas.Option.{slice_get_within}
use Rattle.std.proofs.lemmas.List.Elements.{All-append, All-cons, All-nil}
use Rattle.net_graph.specs.Graph.{Graph}
use Rattle.net_graph.specs.Decision.{Decided}
use Rattle.net_graph.specs.DecisionLaws.{states_of-parts}
use Rattle.net_graph.specs.declared.state.EdgeState.TheVariants.{Undecided}
use Rattle.cert_tree.specs.declared.split.SplitOn.{SplitOn}
use Rattle.cert_tree.specs.declared.split.SplitOn.TheVariants as split
use Rattle.cert_tree.specs.Tree.{Tree}
use Rattle.cert_tree.specs.Tree.Tree.{Leaf, Split}
use Rattle.cert_tree.specs.Preorder.{nodes_of, packings_of}
use Rattle.cert_tree.specs.Decisions.{outside_of, inside_of}
use Rattle.cert_tree.specs.TreeValue.{IsValidTree}
use Rattle.answer_text.specs.Answers.{IsCutOn, IsNodeOn, IsPackingOn}

-- the splits of a valid tree are on edges and vertices of the graph
pub nodes_on : (g : Graph) (d : Decided) (tree : Tree SplitOn) → IsValidTree g d tree → All (IsNodeOn g) (nodes_of tree)
nodes_on g d (Leaf cuts) valid = All-cons (IsNodeOn g) None [] tt (All-nil (IsNodeOn g))
nodes_on g d (Split (split.Vertex v) outside inside) (undecided, of_outside, of_inside) =
    All-cons (IsNodeOn g) (Some (split.Vertex v)) _ undecided.vertex
    (All-append (IsNodeOn g) (nodes_of outside) (nodes_of inside)
    (nodes_on g (outside_of d (split.Vertex v)) outside of_outside)
    (nodes_on g (inside_of d (split.Vertex v)) inside of_inside))
nodes_on g d (Split (split.Edge n) outside inside) (undecided, of_outside, of_inside) =
    let (e, _, at, _, _) = states_of-parts g d n Undecided undecided in
    All-cons (IsNodeOn g) (Some (split.Edge n)) _ (slice_get_within g.edges n e at)
    (All-append (IsNodeOn g) (nodes_of outside) (nodes_of inside)
    (nodes_on g (outside_of d (split.Edge n)) outside of_outside)
    (nodes_on g (inside_of d (split.Edge n)) inside of_inside))

-- its cuts weigh at least 1, and are sets of the graph's vertices
cuts_on : (g : Graph) (d : Decided) (tree : Tree SplitOn) → IsValidTree g d tree →
    All (All (IsCutOn g)) (packings_of tree)
cuts_on g d (Leaf cuts) feasible =
    All-cons (All (IsCutOn g)) cuts []
    (λ k c inside. let of_cut = feasible.cuts k c inside in record { some = of_cut.0; size = of_cut.1.size })
    (All-nil (All (IsCutOn g)))
cuts_on g d (Split on outside inside) (undecided, of_outside, of_inside) =
    All-append (All (IsCutOn g)) (packings_of outside) (packings_of inside)
    (cuts_on g (outside_of d on) outside of_outside)
    (cuts_on g (inside_of d on) inside of_inside)

-- so its packings can be written, where they are of few cuts
pub packings_on : (g : Graph) (d : Decided) (tree : Tree SplitOn) → IsValidTree g d tree →
    All (λ packing. length packing ≤ 4 * length g.edges + 1) (packings_of tree) → All (IsPackingOn g) (packings_of tree)
packings_on g d tree valid few =
    let each = cuts_on g d tree valid in
    λ k packing inside. record { few = few k packing inside; each = each k packing inside }
