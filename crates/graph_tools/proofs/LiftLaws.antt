-- A network that was found in a reduction can be lifted.
use Rattle.std.proofs.Common.{ℕ, ◌≡◌, ◌<◌, ◌^◌, Bool, true, List, length, Some, Result, Ok, Err, IfOk, arith}
use Rattle.std.specs.Prelude.{slice_get}
use Rattle.std.proofs.lemmas.List.{get_or-replicate, length-replicate}
use Rattle.std.proofs.lemmas.List.Elements.{All-weaker}
use Rattle.std.proofs.lemmas.Option.{slice_get-get_or, slice_get_within}
use Rattle.net_graph.specs.Graph.{Graph, IsGraph, root_of}
use Rattle.net_graph.specs.LengthLaws.{length_of-small}
use Rattle.net_graph.specs.Network.{IsNetwork, Links, Reaches}
use Rattle.net_graph.specs.SearchLaws.{Leads-weaker}
use Rattle.answer_text.specs.declared.answer.Answer.{Answer}
use Rattle.graph_reduce.specs.Fitness.{IsFitFor}
use Rattle.graph_reduce.specs.Lifting.{KeepsNetworks}
use Rattle.graph_reduce.specs.Reduction.{Reduction}
use Rattle.graph_solve.specs.Task.{all_edges}
use Rattle.search_rules.specs.Options.{usual_in_graph}
use Rattle.graph_tools.specs.declared.lifted.Lifted.{Lifted}
use Rattle.graph_tools.specs.Lifted.{IsLiftedFor, lifted_by}
use Rattle.graph_tools.specs.Reduce.{IsReduced}
use Rattle.graph_tools.specs.Solution.{IsAnswerFor}
use Rattle.graph_tools.specs.SolutionLaws.{permitted_answer}

-- each edge is one of all
has_edge : (g : Graph) (e : ℕ) → e < length g.edges → slice_get (all_edges g) e ≡ Some true
has_edge g e within =
    grind (arith, slice_get-get_or, length-replicate (length g.edges) true, get_or-replicate (length g.edges) e true true within)

-- what any set links all edges link
links_all : (g : Graph) (set : List Bool) (v w : ℕ) → Links g set v w → Links g (all_edges g) v w
links_all g set v w (n, e, inside, at, ends) = (n, e, has_edge g n (slice_get_within g.edges n e at), at, ends)

-- where there is a network, all edges together are one
all_join : (g : Graph) (set : List Bool) → IsNetwork g set → IsNetwork g (all_edges g)
all_join g set joins =
    All-weaker (Reaches g set) (Reaches g (all_edges g))
    (λ v led. Leads-weaker (Links g set) (Links g (all_edges g)) (links_all g set) (root_of g) v led) g.terminals joins

-- all edges of the reduced graph are a network, where all of the graph are
pub reduced_joined : (g : Graph) (r : Reduction) → KeepsNetworks g r → IsNetwork g (all_edges g) →
    IsNetwork r.graph (all_edges r.graph)
reduced_joined g r keeps joined =
    let kept = keeps.nothing_lost (all_edges g) joined in all_join r.graph kept.set kept.is

-- the offset is small
pub offset_small : (g : Graph) (r : Reduction) → IsGraph g → IsFitFor g r → r.offset < 2 ^ 63
offset_small g r graph fits = omega (arith, graph.total, fits.offset)

-- length and bound of an answer, with the offset, are numbers of 64 bits
pub length_small : (r : Reduction) (a : Answer) → IsGraph r.graph → IsAnswerFor usual_in_graph r.graph a →
    a.head.length < 2 ^ 63
length_small r a graph is = grind (arith, length_of-small r.graph a.network graph)

pub bound_small : (r : Reduction) (a : Answer) → IsGraph r.graph → IsAnswerFor usual_in_graph r.graph a → a.head.bound < 2 ^ 63
bound_small r a graph is = grind (arith, length_of-small r.graph a.network graph)

-- the network of an answer in the reduced graph, lifted, is one that is lifted in the graph
pub lifted_for : {E : Type 0} (g : Graph) (r : Reduction) (a : Answer) (result : Result Lifted E) → IsReduced g r →
    IsAnswerFor usual_in_graph r.graph a → IfOk result (λ l. l ≡ lifted_by r a.network a.tree) → IfOk result (IsLiftedFor g)
lifted_for g r a (Ok l) reduced is same =
    grind (arith, permitted_answer usual_in_graph r.graph (record { instance = r.graph; answer = a }) is)
lifted_for g r a (Err memory) reduced is same = tt
