-- What is kept beside a leaf is true of it.
use Rattle.std.proofs.Common.{◌≡◌, ◌<◌, Bool, List, length, Some, subst, ap, sym, arith}
use Rattle.net_graph.specs.Graph.{Graph}
use Rattle.net_graph.specs.Decision.{IsDecisionFor, states_of}
use Rattle.net_graph.specs.Packing.{IsFeasible}
use Rattle.dual_ascent.specs.Costs.{costs_of}
use Rattle.branch.specs.Searching.{SearchState}
use Rattle.branch.proofs.lemmas.ReaderLemmas.{note_within, seen_decision, seen_feasible, seen_costs, seen_own}
use Rattle.branch.proofs.branch_and_bound.Search.view.Goals as goal

pub index-note-requires : goal.index-note-requires
index-note-requires _ c = grind (arith, note_within)

pub returns : goal.returns
returns _ c =
    let within = note_within _ _ _ c.args.leaf c.self.invariant c.self.view_is c.requires in
    let same = ap (λ (s : SearchState). s.graph) c.self.view_is in
    let own : c.index-note.result.now.network ≡ Some c.in_ok-own.own.now = grind (arith, c.in_ok-own.was, c.as_ref.ensures) in record {
      decision = subst (λ (g : Graph). IsDecisionFor g c.index-note.result.now.decision) same
          (seen_decision _ _ c.args.leaf c.index-note.result.now c.self.invariant within c.index-note.ensures);
      feasible = subst (λ (g : Graph). IsFeasible g c.index-note.result.now.decision c.packing.result.now) same
          (seen_feasible _ _ c.args.leaf c.index-note.result.now c.self.invariant within c.index-note.ensures
          c.packing.result.now c.packing.ensures);
      costs = subst (λ (g : Graph). c.index-note.result.now.costs
          ≡ costs_of g.edges (states_of g c.index-note.result.now.decision) c.packing.result.now) same
          (seen_costs _ _ c.args.leaf c.index-note.result.now c.self.invariant within c.index-note.ensures
          c.in_ok-own.own.now own c.packing.result.now c.packing.ensures);
      own = subst (λ (g : Graph). length c.in_ok-own.own.now ≡ length g.edges) same
          (seen_own _ _ c.args.leaf c.index-note.result.now c.self.invariant within c.index-note.ensures
          c.in_ok-own.own.now own);
    }
