-- One step of a reduction, and all of them.
use Rattle.std.specs.Prelude.{ℕ, zero, suc, ◌≡◌, ◌⊎◌, ◌<◌}
use Rattle.net_graph.specs.Graph.{Graph}
use Rattle.graph_reduce.specs.State.{State, start_of}
use Rattle.graph_reduce.specs.Rules.{DropsAllEdges, DropsLoop, DropsParallel, DropsLoneNode, DropsLeaf, JoinsEdges, ForcesEdge}

-- the rules: there is one terminal; an edge is a loop; two edges are parallel; a node that is no terminal has at most
-- one edge; it has two; a terminal has one edge
pub data Rule : Type 0 where
  OneTerminal : Rule
  Loop : Rule
  Parallel : Rule
  Leaf : Rule
  Passed : Rule
  TerminalLeaf : Rule

-- their order
abbrev pub order_of : Rule → ℕ
order_of OneTerminal = 1
order_of Loop = 2
order_of Parallel = 3
order_of Leaf = 4
order_of Passed = 5
order_of TerminalLeaf = 6

-- the rule takes a state to the next, at the place of an edge or at a node; the first rule is at every place
abbrev pub Takes : Rule → ℕ → State → State → Type 0
Takes OneTerminal at old new = DropsAllEdges old new
Takes Loop at old new = DropsLoop at old new
Takes Parallel at old new = DropsParallel at old new
Takes Leaf at old new = DropsLoneNode at old new ⊎ DropsLeaf at old new
Takes Passed at old new = JoinsEdges at old new
Takes TerminalLeaf at old new = ForcesEdge at old new

-- the rule applies there
abbrev pub Applies : State → Rule → ℕ → Type 0
Applies s rule at = (new : State) × Takes rule at s new

-- an earlier rule, or the same one at a lower place or node
abbrev pub IsBefore : Rule → ℕ → Rule → ℕ → Type 0
IsBefore rule at other there = (order_of rule < order_of other) ⊎ ((order_of rule ≡ order_of other) × (at < there))

-- The first rule that applies is taken, at its lowest place or node.
pub record IsStep (old new : State) : Type 0 where
  pub rule : Rule
  pub at : ℕ
  pub takes : Takes rule at old new
  pub first : (earlier : Rule) (there : ℕ) → IsBefore earlier there rule at → ¬ Applies old earlier there

-- so many steps lead from a state to another
abbrev pub AreSteps : ℕ → State → State → Type 0
AreSteps zero old new = old ≡ new
AreSteps (suc n) old new = (mid : State) × AreSteps n old mid × IsStep mid new

-- steps lead from the graph to a state where no rule applies
pub record IsReducedTo (g : Graph) (s : State) : Type 0 where
  pub count : ℕ
  pub steps : AreSteps count (start_of g) s
  pub done : (rule : Rule) (at : ℕ) → ¬ Applies s rule at
