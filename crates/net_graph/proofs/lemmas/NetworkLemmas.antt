-- Marks of the vertices that an edge set reaches.
use Rattle.std.proofs.Common.{◌≡◌, ℕ, Bool, true, List, All, IsTrue, ◌↔◌, get_or, subst}
use Rattle.net_graph.specs.Flags.{has}
use Rattle.net_graph.specs.Graph.{Graph, root_of}
use Rattle.net_graph.specs.Network.{Reaches, IsNetwork}
use Rattle.net_graph.specs.Joins.{opens_edges, Reaches-iff_leads}
use Rattle.net_graph.specs.Search.{OpenStep, Leads}

-- marks of what open arcs lead to from the root are marks of what the set reaches
pub marks_reached : (g : Graph) (set marks : List Bool) (root : ℕ) → root ≡ root_of g → ((v : ℕ) → (has marks v ≡ true) ↔ Leads (OpenStep g.edges (opens_edges set)) root v) → (v : ℕ) → (has marks v ≡ true) ↔ Reaches g set v
marks_reached g set marks root is flags v =
    let led : (has marks v ≡ true) ↔ Leads (OpenStep g.edges (opens_edges set)) (root_of g) v = subst (λ r. (has marks v ≡ true) ↔ Leads (OpenStep g.edges (opens_edges set)) r v) is (flags v) in
    let same : Reaches g set v ↔ Leads (OpenStep g.edges (opens_edges set)) (root_of g) v = Reaches-iff_leads g set v in
    (λ marked. same.1 (led.0 marked), λ reached. led.1 (same.0 reached))

-- a set whose marks hold at all terminals is a network, and no other is
pub IsNetwork-iff_marks : (g : Graph) (set marks : List Bool) (terminals : List ℕ) (answer : Bool) → terminals ≡ g.terminals → ((v : ℕ) → (has marks v ≡ true) ↔ Reaches g set v) → (IsTrue answer ↔ All (λ v. has marks v ≡ true) terminals) → IsTrue answer ↔ IsNetwork g set
IsNetwork-iff_marks g set marks terminals answer is reached all =
    let here : IsTrue answer ↔ All (λ v. has marks v ≡ true) g.terminals = subst (λ xs. IsTrue answer ↔ All (λ v. has marks v ≡ true) xs) is all in (
      λ holds k d lt. (reached (get_or g.terminals k d)).0 (here.0 holds k d lt),
      λ network. here.1 (λ k d lt. (reached (get_or g.terminals k d)).1 (network k d lt)),
    )
