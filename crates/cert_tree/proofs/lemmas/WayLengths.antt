-- What the turns of a way decide to be inside.
use Rattle.std.proofs.Common.{ℕ, zero, suc, ◌≡◌, ◌+◌, ◌-◌, List, [], ◌∷◌, ◌++◌, length, reverse, slice_get, Some, refl, ap, arith}
use Rattle.std.specs.Prelude.{slice_set, All}
use Rattle.std.specs.List.{AllByRecursion}
use Rattle.std.proofs.lemmas.Bool.{cases_lt}
use Rattle.std.proofs.lemmas.List.{reverse-append}
use Rattle.std.proofs.lemmas.List.Elements.{All-from_recursion, All-head, All-tail, All-push}
use Rattle.net_graph.specs.declared.edge.Edge.{Edge}
use Rattle.net_graph.specs.declared.state.EdgeState.{EdgeState}
use Rattle.net_graph.specs.declared.state.EdgeState.TheVariants.{Undecided, Inside, Outside}
use Rattle.net_graph.specs.Graph.{Graph}
use Rattle.net_graph.specs.Decision.{Decided, IsDecisionFor}
use Rattle.net_graph.specs.DecisionLaws.{IsUndecided-parts}
use Rattle.net_graph.specs.Packing.{inside_length}
use Rattle.cert_tree.specs.declared.split.SplitOn.{SplitOn}
use Rattle.cert_tree.specs.declared.split.SplitOn.TheVariants as split
use Rattle.cert_tree.specs.declared.way.Turn.{Turn}
use Rattle.cert_tree.specs.Tree.{Tree}
use Rattle.cert_tree.specs.Tree.Tree.{Leaf, Split}
use Rattle.cert_tree.specs.Preorder.{packings_of}
use Rattle.cert_tree.specs.Decisions.{IsUndecidedSplit, HasUndecidedSplits, outside_of, inside_of}
use Rattle.cert_tree.specs.LeafLaws.{IsDecisionFor-outside_of, IsDecisionFor-inside_of}
use Rattle.cert_tree.specs.Way.{IsSplitIn, IsTurnIn, after_turns, inside_parts, length_at, length_on, way_to}
use Rattle.cert_tree.proofs.lemmas.Ways.{way_to-outside, way_to-inside}

-- an undecided edge that comes to be outside is not inside
inside_length-set_outside : (es : List Edge) (states : List EdgeState) (n : ℕ) → slice_get states n ≡ Some Undecided →
    inside_length es (slice_set states n Outside) ≡ inside_length es states
inside_length-set_outside [] states n is = refl
inside_length-set_outside (e ∷ es) [] n is = absurd cc
inside_length-set_outside (e ∷ es) (Undecided ∷ states) zero is = refl
inside_length-set_outside (e ∷ es) (Inside ∷ states) zero is = absurd cc
inside_length-set_outside (e ∷ es) (Outside ∷ states) zero is = absurd cc
inside_length-set_outside (e ∷ es) (Undecided ∷ states) (suc n) is = inside_length-set_outside es states n is
inside_length-set_outside (e ∷ es) (Inside ∷ states) (suc n) is =
    ap (λ x. e.length + x) (inside_length-set_outside es states n is)
inside_length-set_outside (e ∷ es) (Outside ∷ states) (suc n) is = inside_length-set_outside es states n is

-- .. and one that comes to be inside adds its length
inside_length-set_inside : (es : List Edge) (states : List EdgeState) (n : ℕ) → slice_get states n ≡ Some Undecided →
    inside_length es (slice_set states n Inside) ≡ inside_length es states + length_at (slice_get es n)
inside_length-set_inside [] states n is = refl
inside_length-set_inside (e ∷ es) [] n is = absurd cc
inside_length-set_inside (e ∷ es) (Undecided ∷ states) zero is = omega arith
inside_length-set_inside (e ∷ es) (Inside ∷ states) zero is = absurd cc
inside_length-set_inside (e ∷ es) (Outside ∷ states) zero is = absurd cc
inside_length-set_inside (e ∷ es) (Undecided ∷ states) (suc n) is = inside_length-set_inside es states n is
inside_length-set_inside (e ∷ es) (Inside ∷ states) (suc n) is = omega (arith, inside_length-set_inside es states n is)
inside_length-set_inside (e ∷ es) (Outside ∷ states) (suc n) is = inside_length-set_inside es states n is

-- so the outside child of a split has the same inside edges
inside_length-outside_of : (g : Graph) (d : Decided) (on : SplitOn) → IsDecisionFor g d → IsUndecidedSplit g d on →
    inside_length g.edges (outside_of d on).edges ≡ inside_length g.edges d.edges
inside_length-outside_of g d (split.Edge n) decision undecided =
    grind (arith, IsUndecided-parts g d n decision undecided, inside_length-set_outside)
inside_length-outside_of g d (split.Vertex v) decision undecided = refl

-- .. and the inside child has one more where the split is on an edge
inside_length-inside_of : (g : Graph) (d : Decided) (on : SplitOn) → IsDecisionFor g d → IsUndecidedSplit g d on →
    inside_length g.edges (inside_of d on).edges ≡ inside_length g.edges d.edges + length_on g.edges on
inside_length-inside_of g d (split.Edge n) decision undecided =
    grind (arith, IsUndecided-parts g d n decision undecided, inside_length-set_inside)
inside_length-inside_of g d (split.Vertex v) decision undecided = omega arith

-- the edges that are inside at the end of a way are those at its start and those of its turns
pub inside_length-way : (g : Graph) (d : Decided) (t : Tree SplitOn) (leaf : ℕ) → IsDecisionFor g d →
    HasUndecidedSplits g d t →
    inside_length g.edges (after_turns d (way_to t leaf)).edges
    ≡ inside_length g.edges d.edges + inside_parts g.edges (way_to t leaf)
inside_length-way g d (Leaf cuts) leaf decision splits = omega arith
inside_length-way g d (Split on o i) leaf decision (undecided, first, second) =
    grind (
      arith,
      way_to-outside,
      inside_length-way g (outside_of d on) o leaf (IsDecisionFor-outside_of g d on decision undecided) first,
      inside_length-outside_of g d on decision undecided,
      way_to-inside,
      inside_length-way g (inside_of d on) i (leaf - length (packings_of o)) (IsDecisionFor-inside_of g d on decision undecided) second,
      inside_length-inside_of g d on decision undecided,
      cases_lt leaf (length (packings_of o)),
    )

-- an undecided split is on one of the edges, or on a vertex
IsSplitIn-undecided : (g : Graph) (d : Decided) (on : SplitOn) → IsDecisionFor g d → IsUndecidedSplit g d on →
    IsSplitIn g.edges on
IsSplitIn-undecided g d (split.Edge n) decision undecided = (IsUndecided-parts g d n decision undecided).0
IsSplitIn-undecided g d (split.Vertex v) decision undecided = tt

-- .. and so are the turns of a way
turns_in-way : (g : Graph) (d : Decided) (t : Tree SplitOn) (leaf : ℕ) → IsDecisionFor g d → HasUndecidedSplits g d t →
    AllByRecursion (IsTurnIn g.edges) (way_to t leaf)
turns_in-way g d (Leaf cuts) leaf decision splits = tt
turns_in-way g d (Split on o i) leaf decision (undecided, first, second) =
    grind (
      arith,
      IsSplitIn-undecided g d on decision undecided,
      way_to-outside,
      turns_in-way g (outside_of d on) o leaf (IsDecisionFor-outside_of g d on decision undecided) first,
      way_to-inside,
      turns_in-way g (inside_of d on) i (leaf - length (packings_of o)) (IsDecisionFor-inside_of g d on decision undecided) second,
      cases_lt leaf (length (packings_of o)),
    )

pub All-turns_in : (g : Graph) (d : Decided) (t : Tree SplitOn) (leaf : ℕ) → IsDecisionFor g d →
    HasUndecidedSplits g d t →
    All (IsTurnIn g.edges) (way_to t leaf)
All-turns_in g d t leaf decision splits = All-from_recursion (IsTurnIn g.edges) (way_to t leaf)
    (turns_in-way g d t leaf decision splits)

-- the parts of two lists of turns
pub inside_parts-append : (edges : List Edge) (xs ys : List Turn) →
    inside_parts edges (xs ++ ys) ≡ inside_parts edges xs + inside_parts edges ys
inside_parts-append edges [] ys = omega arith
inside_parts-append edges (x ∷ xs) ys = omega (arith, inside_parts-append edges xs ys)

-- .. and of the turns from the last to the first
pub inside_parts-reverse : (edges : List Edge) (turns : List Turn) →
    inside_parts edges (reverse turns) ≡ inside_parts edges turns
inside_parts-reverse edges [] = refl
inside_parts-reverse edges (turn ∷ turns) =
    grind (arith, reverse-append (turn ∷ []) turns, inside_parts-append edges (reverse turns) (turn ∷ []), inside_parts-reverse edges turns)

-- what holds of each of some turns holds of each of them from the last to the first
pub All-reverse : (P : Turn → Type 0) (turns : List Turn) → All P turns → All P (reverse turns)
All-reverse P [] all = all
All-reverse P (turn ∷ turns) all =
    grind (arith, reverse-append (turn ∷ []) turns, All-push P (reverse turns) turn (All-reverse P turns (All-tail P turn turns all)) (All-head P turn turns all))
