-- What the steps of edges tell that all pass: the network of their numbers. Those of a network that is as claimed pass.
use Rattle.std.proofs.Common.{ℕ, ◌≡◌, ◌+◌, ◌-◌, ◌≤◌, Bool, true, false, List, [], ◌∷◌, ◌++◌, length}
use Rattle.std.proofs.Common.{set}
use Rattle.std.proofs.Common.{refl, sym, ap, ◌∙◌, subst, arith, append_assoc, length-append, inl, inr}
use Rattle.std.specs.Prelude.{replicate}
use Rattle.std.proofs.lemmas.Bool.{cases_lt, false≢true}
use Rattle.std.proofs.lemmas.List.{append-nil, get_or-append_right, length-set, set_at}
use Rattle.net_graph.specs.EntryLaws.{has-none}
use Rattle.net_graph.specs.Flags.{has}
use Rattle.net_graph.specs.Graph.{Graph}
use Rattle.net_graph.specs.Members.{members_from, members_of}
use Rattle.tree_judge.specs.declared.claim.Claim.{Claim}
use Rattle.tree_judge.specs.Edges.{FollowsEdges}
use Rattle.tree_judge.specs.Fresh.{IsFresh, IsFresh-edge}
use Rattle.tree_judge.specs.Judged.{IsNetworkRight, SoFar, with_edge}
use Rattle.tree_judge.specs.MemberLaws.{members_of-above}
use Rattle.tree_judge.specs.Networks.{IsMeasured}
use Rattle.tree_judge.specs.Runs.{Runs, edge_steps}

-- ---- edges that pass

-- the edges of the set have these numbers
pub record HasNumbers (g : Graph) (network : List Bool) (numbers : List ℕ) : Type 0 where
  pub size : length network ≡ length g.edges
  pub told : members_of network ≡ numbers

-- what stands behind the last edge: the same claim, nothing of the tree, and a network with all these numbers that is
-- as claimed
pub record TellsNetwork (g : Graph) (s s' : SoFar) (numbers : List ℕ) : Type 0 where
  pub claim : s'.claim ≡ s.claim
  pub fresh : IsFresh g s'
  pub network : HasNumbers g s'.network numbers
  pub measured : IsMeasured g s'.claim.length s'.network

-- where as many edges as are due follow, and each passes, the network is as claimed behind the last
pub TellsNetwork-from_runs : (g : Graph) (s s' : SoFar) (before numbers : List ℕ) →
    Runs g s (edge_steps numbers) s' → s.edges_due ≡ length numbers → IsNetworkRight g s →
    HasNumbers g s.network before → IsFresh g s → TellsNetwork g s s' (before ++ numbers)
TellsNetwork-from_runs g s s' before [] runs due right has_numbers fresh = record {
  claim = ap (λ x. x.claim) runs;
  fresh = subst (IsFresh g) (sym runs) fresh;
  network = subst (λ x. HasNumbers g x.network (before ++ [])) (sym runs) (rw append-nil has_numbers);
  measured = subst (λ x. IsMeasured g x.claim.length x.network) (sym runs) (right due);
}
TellsNetwork-from_runs g s s' before (e ∷ numbers) (m, (follows, is, right), runs) due _ has_numbers fresh =
    let network_is : m.network ≡ set s.network e true = ap (λ x. x.network) is in
    let due_is : m.edges_due ≡ s.edges_due - 1 = ap (λ x. x.edges_due) is in
    let more : HasNumbers g m.network (before ++ e ∷ []) =
    rw network_is (grind (arith, length-set s.network e true, members_of-above)) in
    let rest = TellsNetwork-from_runs g m s' (before ++ e ∷ []) numbers runs (omega arith) right more
    (IsFresh-edge g e s m fresh is) in
    record {
      claim = rest.claim ∙ ap (λ x. x.claim) is;
      fresh = rest.fresh;
      network = rw append_assoc at rest.network;
      measured = rest.measured;
    }

-- ---- edges of a network pass

-- a set with no members is empty
no_members : (k : ℕ) (set : List Bool) → length (members_from k set) ≡ 0 → replicate (length set) false ≡ set
no_members k [] none = refl
no_members k (true ∷ set) none = absurd (omega arith)
no_members k (false ∷ set) none = ap (λ flags. false ∷ flags) (no_members (k + 1) set none)

-- the edges that were told are those of the first flags, whose count is k, and those of the rest are due
pub record HasFront (claim : Claim) (front rest : List Bool) (k : ℕ) (s : SoFar) : Type 0 where
  pub place : k ≡ length front
  pub says : s.claim ≡ claim
  pub due : s.edges_due ≡ length (members_from k rest)
  pub edges : s.network ≡ front ++ replicate (length rest) false

-- the flags are those of a network of the graph, with the claimed length
pub record IsNetworkOf (g : Graph) (printed : ℕ) (front rest : List Bool) : Type 0 where
  pub size : length (front ++ rest) ≡ length g.edges
  pub measured : IsMeasured g printed (front ++ rest)

-- the same flags, cut one later
later : (front : List Bool) (flag : Bool) (rest : List Bool) → front ++ flag ∷ rest ≡ (front ++ flag ∷ []) ++ rest
later front flag rest = sym (append_assoc front (flag ∷ []) rest)

network_later : (g : Graph) (printed : ℕ) (front : List Bool) (flag : Bool) (rest : List Bool)
    → IsNetworkOf g printed front (flag ∷ rest) → IsNetworkOf g printed (front ++ flag ∷ []) rest
network_later g printed front flag rest is = grind (arith, later front flag rest)

-- one that is
front_takes : (claim : Claim) (front rest : List Bool) (k : ℕ) (s : SoFar) →
    HasFront claim front (true ∷ rest) k s → HasFront claim (front ++ true ∷ []) rest (k + 1) (with_edge s k)
front_takes claim front rest k s is =
    grind (
      arith,
      length-append front (true ∷ []),
      set_at front false (replicate (length rest) false) true k (sym is.place),
      later front true (replicate (length rest) false),
    )

-- where no edge is due the network is whole
front_whole : (claim : Claim) (front rest : List Bool) (k : ℕ) (s : SoFar) → HasFront claim front rest k s →
    s.edges_due ≡ 0 → s.network ≡ front ++ rest
front_whole claim front rest k s is none =
    is.edges ∙ ap (λ flags. front ++ flags) (no_members k rest (sym is.due ∙ none))

-- no number from the first ones on was told
none_behind : (claim : Claim) (front rest : List Bool) (k : ℕ) (s : SoFar) (m : ℕ) →
    HasFront claim front rest k s → k ≤ m → has s.network m ≡ false
none_behind claim front rest k s m is behind =
    grind (
      arith,
      get_or-append_right front (replicate (length rest) false) k m false (sym is.place) behind,
      has-none (length rest) (m - k),
    )

-- it follows those before it
next_follows : (g : Graph) (claim : Claim) (front rest : List Bool) (k : ℕ) (s : SoFar) →
    IsNetworkOf g claim.length front (true ∷ rest) → HasFront claim front (true ∷ rest) k s →
    FollowsEdges g s.network k
next_follows g claim front rest k s network is = record {
  inside = omega (arith, network.size, is.place, length-append front (true ∷ rest));
  above = λ m held. elim (cases_lt m k) [
    | inl before ↦ before
    | inr behind ↦
        absurd (false≢true (sym (none_behind claim front (true ∷ rest) k s m is behind) ∙ held))
  ];
}

-- where no edge is due the network is as claimed
front_right : (g : Graph) (claim : Claim) (front rest : List Bool) (k : ℕ) (s : SoFar) →
    IsNetworkOf g claim.length front rest → HasFront claim front rest k s → IsNetworkRight g s
front_right g claim front rest k s network is none = grind (arith, front_whole claim front rest k s is none)

-- behind the steps of the edges the same is claimed, and nothing is told of the tree
pub record PassesEdges (g : Graph) (claim : Claim) (front rest : List Bool) (k : ℕ) (s : SoFar) : Type 0 where
  pub last : SoFar
  pub runs : Runs g s (edge_steps (members_from k rest)) last
  pub says : last.claim ≡ claim
  pub network : last.network ≡ front ++ rest
  pub fresh : IsFresh g last
  pub right : IsNetworkRight g s

pub edges_pass : (g : Graph) (claim : Claim) (front rest : List Bool) (k : ℕ) (s : SoFar) →
    IsNetworkOf g claim.length front rest → HasFront claim front rest k s → IsFresh g s →
    PassesEdges g claim front rest k s
edges_pass g claim front [] k s network is fresh =
    record {
      last = s;
      runs = refl;
      says = is.says;
      network = is.edges;
      fresh = fresh;
      right = front_right g claim front [] k s network is;
    }
edges_pass g claim front (false ∷ rest) k s network is fresh =
    let behind = edges_pass g claim (front ++ false ∷ []) rest (k + 1) s
    (network_later g claim.length front false rest network)
    (grind (arith, length-append front (false ∷ []), later front false (replicate (length rest) false))) fresh in
    record {
      last = behind.last;
      runs = behind.runs;
      says = behind.says;
      network = behind.network ∙ sym (later front false rest);
      fresh = behind.fresh;
      right = behind.right;
    }
edges_pass g claim front (true ∷ rest) k s network is fresh =
    let told = network_later g claim.length front true rest network in
    let taken = front_takes claim front rest k s is in
    let behind = edges_pass g claim (front ++ true ∷ []) rest (k + 1) (with_edge s k) told taken
    (IsFresh-edge g k s (with_edge s k) fresh refl) in
    record {
      last = behind.last;
      runs = (
        with_edge s k,
        (
          next_follows g claim front rest k s network is,
          refl,
          behind.right,
        ),
        behind.runs,
      );
      says = behind.says;
      network = behind.network ∙ sym (later front true rest);
      fresh = behind.fresh;
      right = front_right g claim front (true ∷ rest) k s network is;
    }

-- those of all members of a network, where it is the one claimed
pub network_passes : (g : Graph) (claim : Claim) (network : List Bool) (s : SoFar) →
    length network ≡ length g.edges → IsMeasured g claim.length network → s.claim ≡ claim →
    s.edges_due ≡ length (members_of network) → s.network ≡ replicate (length network) false → IsFresh g s →
    PassesEdges g claim [] network 0 s
network_passes g claim network s size measured says due none fresh =
    edges_pass g claim [] network 0 s (record { size = size; measured = measured })
    (record { place = refl; says = says; due = due; edges = none }) fresh
