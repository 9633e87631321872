-- Of a state that steps lead to: its edges and terminals are nodes, and its lengths are within those of the graph.
use Rattle.std.specs.Prelude.{ℕ, ◌≡◌, ◌≢◌, ◌+◌, ◌<◌, ◌^◌, true, length, slice_set, slice_index_or, Some, None}
use Rattle.std.proofs.Common.{refl, sym, ◌∙◌, arith}
use Rattle.std.proofs.lemmas.List.Elements.{Contains-get_or}
use Rattle.std.proofs.lemmas.Option.{slice_get_within}
use Rattle.net_graph.specs.EntryLaws.{slice_get-set_other}
use Rattle.net_graph.specs.Graph.{Graph, IsGraph}
use Rattle.graph_reduce.specs.State.{Bundle, State, HasEdge, start_of}
use Rattle.graph_reduce.specs.Survey.{IsNumbered}
use Rattle.graph_reduce.specs.Clear.{LeadsTo, IsReached, HasSetsOfOneSize, GoesOn}
use Rattle.graph_reduce.proofs.lemmas.Clearing.{one_step, then_steps}
use Rattle.graph_reduce.proofs.lemmas.Fits.{Fits, Fits-start, all}
use Rattle.graph_reduce.proofs.lemmas.Lengths.{length_in-set}
use Rattle.graph_reduce.proofs.lemmas.Soundness.{IsSound, IsSound-start}
use Rattle.graph_reduce.proofs.lemmas.Steps.{steps_keep, steps_fit}
use Rattle.graph_reduce.proofs.lemmas.Terminals.{In-from_Contains}

module _ (s : State) (reached : IsReached s) where
  sound : IsSound s
  sound = grind (arith, steps_keep, IsSound-start)

  fits : Fits reached.graph s
  fits = steps_fit reached.graph reached.from_start.count (start_of reached.graph) s
      (Fits-start reached.graph reached.sound) reached.from_start.steps

  pub reached_numbered : IsNumbered s
  reached_numbered = record {
    ends = λ n x at. let both = sound.ends n x at in
        (slice_get_within s.nodes x.edge.a true both.0, slice_get_within s.nodes x.edge.b true both.1);
    terminals = λ k d below. slice_get_within s.nodes (slice_index_or s.terminals k d) true
        (sound.terminals (slice_index_or s.terminals k d)
        (In-from_Contains s.terminals (slice_index_or s.terminals k d) (Contains-get_or s.terminals k d below)));
  }

  pub reached_sizes : HasSetsOfOneSize s
  reached_sizes n x at = fits.sizes n x at ∙ sym fits.forced

  pub reached_length : (n : ℕ) (x : Bundle) → HasEdge s n x → s.offset + x.edge.length < 2 ^ 63
  reached_length n x at =
      let here = length_in-set s.edges n (Some x) None all all at (λ k apart. refl) in
      omega (arith, here, fits.total, reached.sound.total)

  pub reached_lengths : (n m : ℕ) (x y : Bundle) → n ≢ m → HasEdge s n x → HasEdge s m y →
      x.edge.length + y.edge.length < 2 ^ 63
  reached_lengths n m x y apart x_at y_at =
      let here = length_in-set s.edges n (Some x) None all all x_at (λ k other. refl) in
      let there = length_in-set (slice_set s.edges n None) m (Some y) None all all
      (slice_get-set_other s.edges n m None (λ same. apart (sym same)) ∙ y_at) (λ k other. refl) in
      omega (arith, here, there, fits.total, reached.sound.total)

pub reached_then : (old new : State) → IsReached old → LeadsTo old new → IsReached new
reached_then old new reached leads = search then_steps

-- ---- from the first state of a graph

module _ (g : Graph) (graph : IsGraph g) (s : State) (leads : LeadsTo (start_of g) s) where
  pub reached_from : IsReached s
  reached_from = record { graph = g; sound = graph; from_start = leads }

  pub nodes_from : length s.nodes ≡ g.vertices
  unfolding reached_from
  nodes_from = (fits s reached_from).nodes

-- ---- more steps

pub leads_on : (old new : State) → GoesOn old new → LeadsTo old new
leads_on old new more = then_steps old more.next new (one_step old more.next more.step) more.rest
