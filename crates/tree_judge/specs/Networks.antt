-- When an answer's edges are the network that it says, and why they are not.
use Rattle.std.specs.Prelude.{ℕ, ◌≡◌, ◌≢◌, Bool, List}
use Rattle.net_graph.specs.Graph.{Graph}
use Rattle.net_graph.specs.Network.{IsNetwork, IsFirstApart, length_of}
use Rattle.tree_judge.specs.declared.cause.Cause.{Cause}
use Rattle.tree_judge.specs.declared.cause.Cause.TheVariants.{NotJoined, WrongLength}

-- the edges are a network of this length
pub record IsMeasured (g : Graph) (printed : ℕ) (network : List Bool) : Type 0 where
  pub joins : IsNetwork g network
  pub told : printed ≡ length_of g network

-- the edges are a network of another length than the printed one
pub record IsMismeasured (g : Graph) (length : ℕ) (network : List Bool) (printed found : ℕ) : Type 0 where
  pub joins : IsNetwork g network
  pub printed_is : printed ≡ length
  pub found_is : found ≡ length_of g network
  pub differ : printed ≢ found

-- why the edges are not the network that an answer of this length says
abbrev pub NetworkFault : Graph → ℕ → List Bool → Cause → Type 0
NetworkFault g length network (NotJoined place) = IsFirstApart g network place
NetworkFault g length network (WrongLength printed found) = IsMismeasured g length network printed found
NetworkFault g length network cause = ⊥
