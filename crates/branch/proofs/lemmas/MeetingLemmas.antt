-- Counting the edges of a set that end at a vertex.
use Rattle.std.proofs.Common.{ℕ, zero, suc, ◌≡◌, ◌+◌, ◌<◌, ◌≤◌, ◌⊎◌, ⊎_elim, Bool, true, false, List, [], ◌∷◌, length, take, get_or, slice_get, Some, refl, arith, add-one}
use Rattle.std.proofs.lemmas.Option.{slice_get-get_or}
use Rattle.net_graph.specs.declared.edge.Edge.{Edge}
use Rattle.branch.specs.Meeting.{end_count, edges_at}

-- the edge ends at the vertex
abbrev pub EndsAt : ℕ → Edge → Type 0
EndsAt v e = (e.a ≡ v) ⊎ (e.b ≡ v)

end_count-le : (v : ℕ) (e : Edge) → end_count v e ≤ 1
end_count-le v e = grind arith

pub edges_at-le : (es : List Edge) (set : List Bool) (v : ℕ) → edges_at es set v ≤ length es
edges_at-le [] set v = omega arith
edges_at-le (e ∷ es) [] v = omega arith
edges_at-le (e ∷ es) (true ∷ set) v = omega (arith, end_count-le v e, edges_at-le es set v)
edges_at-le (e ∷ es) (false ∷ set) v = omega (arith, edges_at-le es set v)

-- one more edge of the set
pub edges_at-more : (es : List Edge) (set : List Bool) (n v : ℕ) (e : Edge) → slice_get es n ≡ Some e → slice_get set n ≡ Some true →
    edges_at (take (suc n) es) set v ≡ edges_at (take n es) set v + end_count v e
edges_at-more [] set n v e at within = absurd cc
edges_at-more (x ∷ es) [] n v e at within = absurd cc
edges_at-more (x ∷ es) (true ∷ set) zero v e at within = grind arith
edges_at-more (x ∷ es) (false ∷ set) zero v e at within = absurd cc
edges_at-more (x ∷ es) (true ∷ set) (suc n) v e at within = omega (arith, edges_at-more es set n v e at within)
edges_at-more (x ∷ es) (false ∷ set) (suc n) v e at within = edges_at-more es set n v e at within

-- one more edge that isn't of the set
pub edges_at-kept : (es : List Edge) (set : List Bool) (n v : ℕ) → slice_get set n ≡ Some false →
    edges_at (take (suc n) es) set v ≡ edges_at (take n es) set v
edges_at-kept [] set zero v out = refl
edges_at-kept [] set (suc n) v out = refl
edges_at-kept (x ∷ es) [] n v out = absurd cc
edges_at-kept (x ∷ es) (true ∷ set) zero v out = absurd cc
edges_at-kept (x ∷ es) (false ∷ set) zero v out = refl
edges_at-kept (x ∷ es) (true ∷ set) (suc n) v out = omega (arith, edges_at-kept es set n v out)
edges_at-kept (x ∷ es) (false ∷ set) (suc n) v out = edges_at-kept es set n v out

-- an edge of the set that ends at the vertex
pub record IsMeeting (es : List Edge) (set : List Bool) (v : ℕ) : Type 0 where
  pub number : ℕ
  pub edge : Edge
  pub at : slice_get es number ≡ Some edge
  pub within : slice_get set number ≡ Some true
  pub ends : EndsAt v edge

meeting_later : (x : Edge) (flag : Bool) (es : List Edge) (set : List Bool) (v : ℕ) → IsMeeting es set v → IsMeeting (x ∷ es) (flag ∷ set) v
meeting_later x flag es set v m = record { number = suc m.number; edge = m.edge; at = m.at; within = m.within; ends = m.ends }

-- where one is counted, there is one
pub meeting : (es : List Edge) (set : List Bool) (v : ℕ) → 0 < edges_at es set v → IsMeeting es set v
meeting [] set v some = absurd (omega arith)
meeting (e ∷ es) [] v some = absurd (omega arith)
meeting (e ∷ es) (false ∷ set) v some = meeting_later e false es set v (meeting es set v some)
meeting (e ∷ es) (true ∷ set) v some =
    ⊎_elim
    (λ (at : EndsAt v e × (end_count v e ≡ 1)). record { number = 0; edge = e; at = refl; within = refl; ends = at.0 })
    (λ (none : end_count v e ≡ 0). meeting_later e true es set v (meeting es set v (omega arith)))
    (grind arith)

-- the edges at a vertex with a further one, as a loop writes its number
pub counted_more : (es : List Edge) (set : List Bool) (n v count : ℕ) (e : Edge) → slice_get es n ≡ Some e → slice_get set n ≡ Some true →
    count ≡ edges_at (take n es) set v → count + end_count v e ≡ edges_at (take (n + 1) es) set v
counted_more es set n v count e at within is = rw add-one (omega (arith, edges_at-more es set n v e at within))

pub counted_kept : (es : List Edge) (set : List Bool) (n v count : ℕ) → slice_get set n ≡ Some false →
    count ≡ edges_at (take n es) set v → count ≡ edges_at (take (n + 1) es) set v
counted_kept es set n v count out is = rw add-one (omega (arith, edges_at-kept es set n v out))

-- what was read of the counts is the count
pub count_read : (counts : List ℕ) (v read : ℕ) → v < length counts → read ≡ get_or counts v read → read ≡ get_or counts v 0
count_read counts v read within is = grind (arith, slice_get-get_or)
