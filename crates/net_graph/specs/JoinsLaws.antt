-- What is joined by an edge set, in any graph and from any root.
use Rattle.std.specs.Prelude.{ℕ, ◌≡◌, Bool, List, [], ◌∷◌, ◌++◌, Contains, ◌<◌}
use Rattle.std.proofs.Common.{inl, inr, ⊎_elim}
use Rattle.net_graph.specs.Flags.{IsSubset}
use Rattle.net_graph.specs.Graph.{Graph}
use Rattle.net_graph.specs.Joins.{slice_get-has, has-slice_get}
use Rattle.net_graph.specs.Network.{HasEnds, Links, Joins, IsFirstApart}
use Rattle.net_graph.specs.Search.{Leads}
use Rattle.net_graph.specs.SearchLaws.{Leads-trans, Leads-weaker, Leads-back}

-- an edge links its ends both ways
pub Links-back : (g : Graph) (set : List Bool) (v w : ℕ) → Links g set v w → Links g set w v
Links-back g set v w (n, e, inside, at, ends) =
    let turned : HasEnds e w v = ⊎_elim (λ (along : (e.a ≡ v) × (e.b ≡ w)). inr along)
    (λ (against : (e.a ≡ w) × (e.b ≡ v)). inl against) ends in
    (n, e, inside, at, turned)

-- .. and so does a walk
pub Leads-links_back : (g : Graph) (set : List Bool) (v w : ℕ) → Leads (Links g set) v w → Leads (Links g set) w v
Leads-links_back g set v w led = Leads-back (Links g set) (Links g set) (Links-back g set) v w led

-- what a set links every larger set links
pub Links-subset : (g : Graph) (small large : List Bool) → IsSubset small large → (v w : ℕ) →
    Links g small v w → Links g large v w
Links-subset g small large within v w (n, e, inside, at, ends) =
    (n, e, slice_get-has large n (within n (has-slice_get small n inside)), at, ends)

-- .. by an edge or by a walk
pub Leads-subset : (g : Graph) (small large : List Bool) → IsSubset small large → (v w : ℕ) →
    Leads (Links g small) v w → Leads (Links g large) v w
Leads-subset g small large within v w led =
    Leads-weaker (Links g small) (Links g large) (Links-subset g small large within) v w led

-- what a set joins every larger set joins
pub Joins-subset : (g : Graph) (small large : List Bool) (vertices : List ℕ) → IsSubset small large →
    Joins g small vertices → Joins g large vertices
Joins-subset g small large vertices within joins v w first second =
    Leads-subset g small large within v w (joins v w first second)

-- vertices that one vertex leads to are joined
pub Joins-from : (g : Graph) (set : List Bool) (start : ℕ) (vertices : List ℕ) →
    ((v : ℕ) → Contains vertices v → Leads (Links g set) start v) → Joins g set vertices
Joins-from g set start vertices led v w first second =
    Leads-trans (Links g set) v start w (Leads-links_back g set start v (led v first)) (led w second)

-- each list shares a vertex with the lists before it, the first of them with these vertices
abbrev pub Meets : List ℕ → List (List ℕ) → Type 0
Meets before [] = Unit {0}
Meets before (vs ∷ rest) = ((v : ℕ) × Contains before v × Contains vs v) × Meets (before ++ vs) rest

-- no terminal before the first one that is apart is the first one
pub not_apart_before : (g : Graph) (set : List Bool) (n m : ℕ) → IsFirstApart g set n → IsFirstApart g set m → n < m → ⊥
not_apart_before g set n m first other below = first.apart (other.before n first.terminal below first.at)
