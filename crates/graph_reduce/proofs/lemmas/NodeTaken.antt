-- The rules at nodes are taken by what is done to the state.
use Rattle.std.specs.Prelude.{ℕ, ◌≡◌, ◌≢◌, ◌+◌, ◌<◌, ◌^◌, false, length, slice_set, Some, None}
use Rattle.std.proofs.Common.{refl, sym, inl, subst, arith}
use Rattle.std.proofs.lemmas.List.Elements.{All-contains}
use Rattle.net_graph.specs.declared.edge.Edge.{Edge}
use Rattle.net_graph.specs.Network.{HasEnds}
use Rattle.graph_reduce.specs.declared.node_edges.NodeEdges.{NodeEdges}
use Rattle.graph_reduce.specs.declared.node_edges.NodeEdges.TheVariants.{NoEdge, OneEdge, TwoEdges, More}
use Rattle.graph_reduce.specs.State.{Bundle, State, HasEdge, HasNode, IsTerminal, union}
use Rattle.graph_reduce.specs.Rules.{JoinsEdges, ForcesEdge, moved, without_edge, without_node}
use Rattle.graph_reduce.specs.Step.{Applies, Takes}
use Rattle.graph_reduce.specs.Step.Rule.{Leaf}
use Rattle.graph_reduce.specs.Survey.{IsSeenTo, HasOneBelow, HasTwoBelow}
use Rattle.graph_reduce.specs.Clear.{IsReached}
use Rattle.graph_reduce.proofs.lemmas.Bounds.{reached_numbered, reached_length, reached_lengths}
use Rattle.graph_reduce.proofs.lemmas.Longer.{HoldsEdge}
use Rattle.graph_reduce.proofs.lemmas.NodeKinds.{below_end, leaf_node, leaf_not_two, leaf_not_more, one_edge, two_only}

module _ (s new : State) (v : ℕ) where
  pub leaf_without : (edges : NodeEdges) → Applies s Leaf v → IsSeenTo s v (length s.edges) edges →
      ((place : ℕ) → edges ≡ OneEdge place → ⊥) → new ≡ without_node s v → Takes Leaf v s new
  leaf_without NoEdge applies seen other is = let node = leaf_node s v applies in inl (record {
    node = node.0;
    free = node.1;
    none = λ n ends. seen n (below_end s v n ends) ends;
    becomes = is;
  })
  leaf_without (OneEdge place) applies seen other is = absurd (other place refl)
  leaf_without (TwoEdges one two) applies seen other is = absurd (leaf_not_two s v one two seen applies)
  leaf_without More applies seen other is = absurd (leaf_not_more s v seen applies)

  pub leaf_with : (edges : NodeEdges) (place : ℕ) → Applies s Leaf v → IsSeenTo s v (length s.edges) edges →
      edges ≡ OneEdge place → new ≡ without_edge (without_node s v) place → Takes Leaf v s new
  leaf_with edges place applies seen kind is =
      grind (arith, leaf_node s v applies, one_edge s v place (subst (IsSeenTo s v (length s.edges)) kind seen))

  pub edges_joined_at : (mid : State) (earlier later u w : ℕ) (e f : Edge) → HasNode s v → ¬ IsTerminal s v →
      HasTwoBelow s v (length s.edges) earlier later → HoldsEdge s earlier e → HoldsEdge s later f →
      HasEnds e v u → HasEnds f v w →
      ((x y : Bundle) → HasEdge s earlier x → HasEdge s later y →
      mid ≡ record s {
        edges = slice_set (slice_set s.edges earlier (Some (record {
          edge = record { a = u; b = w; length = e.length + f.length };
          originals = union x.originals y.originals;
        }))) later None;
      }) →
      new ≡ without_node mid v → (joins : JoinsEdges v s new) × (joins.earlier ≡ earlier) × (joins.later ≡ later)
  edges_joined_at mid earlier later u w e f node free two e_held f_held e_ends f_ends changed is =
      let (x, x_at, x_is) = e_held in
      let (y, y_at, y_is) = f_held in (
        record {
          node = node;
          free = free;
          earlier = earlier;
          later = later;
          order = two.order;
          x = x;
          y = y;
          u = u;
          w = w;
          earlier_at = x_at;
          later_at = y_at;
          earlier_ends = subst (λ (d : Edge). HasEnds d v u) (sym x_is) e_ends;
          later_ends = subst (λ (d : Edge). HasEnds d v w) (sym y_is) f_ends;
          only = two_only s v earlier later two;
          becomes = grind arith;
        },
        refl,
        refl,
      )
    where
      -- the state with an edge of this length
      after : Bundle → Bundle → ℕ → State
      after x y length = record s {
        nodes = slice_set s.nodes v false;
        edges = slice_set (slice_set s.edges earlier (Some (record {
          edge = record { a = u; b = w; length = length };
          originals = union x.originals y.originals;
        }))) later None;
      }

  pub edge_forced_at : (one two : State) (place other : ℕ) (e : Edge) → IsTerminal s v →
      HasOneBelow s v (length s.edges) place → HoldsEdge s place e → HasEnds e v other →
      ((x : Bundle) → HasEdge s place x → one ≡ record s {
        edges = slice_set s.edges place None;
        forced = union s.forced x.originals;
        offset = s.offset + e.length;
      }) → two ≡ record one { terminals = moved one.terminals v other } → new ≡ without_node two v →
      ForcesEdge v s new
  edge_forced_at one two place other e terminal has held ends changed then_moved is =
      let (x, x_at, x_is) = held in record {
        terminal = terminal;
        place = place;
        x = x;
        other = other;
        edge = record {
          at = x_at;
          ends = subst (λ (d : Edge). HasEnds d v other) (sym x_is) ends;
          only = λ n is. has.only n (below_end s v n is) is;
        };
        becomes = grind arith;
      }
    where
      -- the state with this more in its offset
      after : Bundle → ℕ → State
      after x more = record {
        nodes = slice_set s.nodes v false;
        edges = slice_set s.edges place None;
        terminals = moved s.terminals v other;
        forced = union s.forced x.originals;
        offset = s.offset + more;
      }

-- ---- numbers that fit

pub lengths_fit : (s : State) (earlier later : ℕ) (e f : Edge) → IsReached s → earlier ≢ later →
    HoldsEdge s earlier e → HoldsEdge s later f → e.length + f.length < 2 ^ 63
lengths_fit s earlier later e f reached apart (x, x_at, x_is) (y, y_at, y_is) = grind (arith, reached_lengths)

pub length_fits : (s : State) (place : ℕ) (e : Edge) → IsReached s → HoldsEdge s place e →
    s.offset + e.length < 2 ^ 63
length_fits s place e reached (x, x_at, x_is) = grind (arith, reached_length)

pub terminal_below : (s : State) (v : ℕ) → IsReached s → IsTerminal s v → v < length s.nodes
terminal_below s v reached terminal =
    All-contains (λ t. t < length s.nodes) s.terminals v (reached_numbered s reached).terminals terminal
