use Rattle.std.proofs.Common.{ℕ, ◌≡◌, ◌≤◌, ◌<◌, [], ◌∷◌, List, length, take, get_or, refl, arith}
use Rattle.std.proofs.lemmas.List.{length-take-le, get_or-take}
use Rattle.net_graph.specs.Search.{OpenStep}
use Rattle.net_graph.proofs.lemmas.LentRoomLemmas.{AreFoundInRoom-none, at_place}
use Rattle.net_graph.proofs.lemmas.SearchLemmas.{Extends-keeps, LeadsFromOne-more, LeadsFromOne-iff, IsGoneOver-start, found_first, SearchSoFar-from_gone_over, SearchSoFar-more, SearchSoFar-all}
use Rattle.net_graph.proofs.lent_room.mark_reached.Goals as goal

pub add_vertex-count-requires-clause-found : goal.add_vertex-count-requires-clause-found
add_vertex-count-requires-clause-found g c = grind (arith, AreFoundInRoom-none)

pub loop-place-init : goal.loop-place-init
loop-place-init g c =
    let Step : ℕ → ℕ → Type 0 = OpenStep c.args.graph.now.edges (g.P.Passage.opens c.args.passage.now) in
    let order : List ℕ = take c.add_vertex-count.result c.add_vertex-count.new.queue in
    let first : take c.add_vertex-count.result c.add_vertex-count.new.queue ≡ c.args.start ∷ [] = found_first [] order c.args.start refl c.add_vertex-count.ensures.order in
    record {
      so_far = rw first (SearchSoFar-from_gone_over Step c.args.graph.now.vertices 0 (c.args.start ∷ []) (IsGoneOver-start Step c.args.start c.args.graph.now.vertices c.requires.start));
      found = c.add_vertex-count.ensures.found;
      start = λ v listed. rw first listed;
    }

pub overflow_cast-vertex : goal.overflow_cast-vertex
overflow_cast-vertex g c =
    grind (arith, length-take-le c.loop-place.count c.loop-place.queue (c.loop-place.invariant.found.within), get_or-take c.loop-place.count c.loop-place.queue c.loop-place.place 0 c.loop-place-test.true)

pub loop-place-preserved : goal.loop-place-preserved
loop-place-preserved g c =
    let Step : ℕ → ℕ → Type 0 = OpenStep c.args.graph.now.edges (g.P.Passage.opens c.args.passage.now) in
    let Heads : ℕ → Type 0 = λ w. (w < c.args.graph.now.vertices) × Step (get_or c.loop-place.queue c.loop-place.place 0) w in
    let old : List ℕ = take c.loop-place.count c.loop-place.queue in
    let next : List ℕ = take c.add_next-count.result c.add_next-count.new.queue in
    record {
      so_far = SearchSoFar-more Step _ c.args.graph.now.vertices c.loop-place.place (get_or c.loop-place.queue c.loop-place.place 0) old next
          (LeadsFromOne-more Step (c.args.start ∷ [])) c.loop-place.invariant.so_far
          (at_place c.loop-place.marks c.loop-place.queue c.loop-place.count c.loop-place.place c.loop-place.invariant.found c.loop-place-test.true)
          c.add_next-count.ensures.more c.add_next-count.ensures.every;
      found = c.add_next-count.ensures.found;
      start = λ v listed. Extends-keeps Heads old next v c.add_next-count.ensures.more (c.loop-place.invariant.start v listed);
    }

pub returns : goal.returns
returns g c v =
    let Step : ℕ → ℕ → Type 0 = OpenStep c.args.graph.now.edges (g.P.Passage.opens c.args.passage.now) in
    let order : List ℕ = take c.loop-place.count c.loop-place.queue in
    let within : c.loop-place.count ≤ length c.loop-place.queue = c.loop-place.invariant.found.within in
    let some : length (take c.loop-place.count c.loop-place.queue) ≡ c.loop-place.count = length-take-le c.loop-place.count c.loop-place.queue within in
    let led = SearchSoFar-all Step (c.args.start ∷ []) c.args.graph.now.vertices c.loop-place.place order
    c.loop-place.invariant.so_far c.loop-place.invariant.start (omega arith) v in
    let one = LeadsFromOne-iff Step c.args.start v in (
      λ flag. one.0 (led.0 (c.loop-place.invariant.found.marked.listed v flag)),
      λ leads. c.loop-place.invariant.found.marked.marked v (led.1 (one.1 leads)),
    )
