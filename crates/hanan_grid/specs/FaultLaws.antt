-- The faults that a graph of sound parts may have.
use Rattle.std.proofs.Common.{ℕ, ◌≡◌, ◌<◌, ◌≤◌, List, length, ap, arith}
use Rattle.std.specs.Prelude.{All}
use Rattle.std.proofs.lemmas.Option.{slice_get_within, get_or_from_slice_get}
use Rattle.net_graph.specs.Graph.{Graph, HasEndsBelow}
use Rattle.net_graph.specs.Fault.{IsFirst, IsFirstFault, HasSoundParts}
use Rattle.net_graph.specs.declared.graph.GraphFault.{GraphFault}
use Rattle.net_graph.specs.declared.graph.GraphFault.TheVariants.{EndOutOfRange, ZeroLength, NoTerminal, TerminalOutOfRange, TooLong, Memory}
use Rattle.hanan_grid.specs.Fault.{IsTotalOrMemory}

-- what all items are none fails to be
none_first : {X : Type 0} {R : Type 0} (P Q : X → Type 0) (xs : List X) (n : ℕ) → All P xs →
    ((x : X) → P x → Q x → ⊥) → IsFirst Q xs n → R
none_first P Q xs n all apart first =
    grind (
      arith,
      get_or_from_slice_get xs n (first.here.0) (first.here.0) first.here.1,
      all n (first.here.0) (slice_get_within xs n (first.here.0) first.here.1),
    )

-- a graph whose parts are sound has no fault but its total and want of memory
pub known_fault : (g : Graph) (fault : GraphFault) → HasSoundParts g → IsFirstFault g fault → IsTotalOrMemory fault
known_fault g (EndOutOfRange n) sound first =
    none_first (HasEndsBelow g.vertices) (λ e. ¬ HasEndsBelow g.vertices e) g.edges n sound.edges.ends
    (λ e is not. not is) first
known_fault g (ZeroLength n) sound first =
    none_first (λ e. 0 < e.length) (λ e. e.length ≡ 0) g.edges n sound.edges.lengths (λ e is not. omega arith) first.1
known_fault g NoTerminal sound first = absurd (omega (arith, sound.terminal, ap length first.1))
known_fault g (TerminalOutOfRange place) sound first =
    none_first (λ t. t < g.vertices) (λ t. g.vertices ≤ t) g.terminals place sound.terminals
    (λ t is not. omega arith) first.1
known_fault g (TooLong total) sound first = tt
known_fault g (Memory e) sound first = tt
