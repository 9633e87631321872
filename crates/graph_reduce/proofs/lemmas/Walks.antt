-- Walks over chosen edges of a state, and walks that follow other walks.
use Rattle.std.proofs.Common.{arith}
use Rattle.std.specs.Prelude.{ℕ, ◌≡◌, Bool, true, List, slice_get, Option, Some}
use Rattle.net_graph.specs.Network.{HasEnds}
use Rattle.net_graph.specs.Search.{Leads}
use Rattle.net_graph.specs.SearchLaws.{Leads-start, Leads-more, Leads-keeps, Leads-trans, Leads-back}
use Rattle.graph_reduce.specs.State.{Bundle, State}
use Rattle.graph_reduce.proofs.lemmas.Terminals.{In}

-- a chosen place holds an edge with these ends
pub record Joins (edges : List (Option Bundle)) (F : ℕ → Bool) (v w : ℕ) : Type 0 where
  pub place : ℕ
  pub x : Bundle
  pub chosen : F place ≡ true
  pub at : slice_get edges place ≡ Some (Some x)
  pub ends : HasEnds x.edge v w

-- every two terminals are joined by walks over chosen edges
abbrev pub IsNet : State → (ℕ → Bool) → Type 0
IsNet s F = (v w : ℕ) → In s.terminals v → In s.terminals w → Leads (Joins s.edges F) v w

-- an edge joins its ends both ways
pub HasEnds-back : (x : Bundle) (v w : ℕ) → HasEnds x.edge v w → HasEnds x.edge w v
HasEnds-back x v w ends = grind arith

pub Joins-back : (edges : List (Option Bundle)) (F : ℕ → Bool) (v w : ℕ) → Joins edges F v w → Joins edges F w v
Joins-back edges F v w j = grind arith

-- .. and so does a walk
pub walk_back : (edges : List (Option Bundle)) (F : ℕ → Bool) (v w : ℕ) → Leads (Joins edges F) v w →
    Leads (Joins edges F) w v
walk_back edges F v w led = Leads-back (Joins edges F) (Joins edges F) (Joins-back edges F) v w led

-- one step is a walk
pub Leads-one : (Step : ℕ → ℕ → Type 0) (v w : ℕ) → Step v w → Leads Step v w
Leads-one Step v w step = Leads-more Step v v w (Leads-start Step v) step

-- where each step has a walk between the images of its ends, so has each walk
pub Leads-mapped : (Step Other : ℕ → ℕ → Type 0) (f : ℕ → ℕ) → ((u w : ℕ) → Step u w → Leads Other (f u) (f w)) →
    (v w : ℕ) → Leads Step v w → Leads Other (f v) (f w)
Leads-mapped Step Other f follows v w led = Leads-keeps Step (λ u. Leads Other (f v) (f u)) v w
    (Leads-start Other (f v)) (λ u x so_far step. Leads-trans Other (f v) (f u) (f x) so_far (follows u x step)) led
