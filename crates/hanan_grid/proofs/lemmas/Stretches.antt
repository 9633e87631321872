-- What the places of a stretch's ends say of it, and what a set of its edges says of its vertices.
use Rattle.std.proofs.Common.{ℕ, ◌≡◌, Bool, true, false, List, [], ◌∷◌, replicate, slice_get, Some, subst, inl, inr, arith}
use Rattle.std.specs.Prelude.{IsTrue, ◌↔◌}
use Rattle.std.proofs.lemmas.List.Elements.{All-nil, All-cons}
use Rattle.points_in.specs.declared.point.Point.{Point}
use Rattle.net_graph.specs.Adds.{Adds}
use Rattle.net_graph.specs.AddsLaws.{Adds-holds}
use Rattle.net_graph.specs.Network.{Joins}
use Rattle.hanan_grid.specs.Grid.{xs_of, ys_of, vertex_of, hanan_grid_of}
use Rattle.hanan_grid.specs.Lines.{place_of}
use Rattle.hanan_grid.specs.Stretch.{IsOnStretch, IsVertexOnStretch, IsGridStretch}
use Rattle.hanan_grid.specs.StretchLaws.{IsRowStretch, IsColumnStretch, IsRowStretch-from_same, IsColumnStretch-from_same, IsVertexOnStretch-from, IsVertexOnStretch-to, Joins-stretch}

-- a stretch of one y is in a row
pub row_found : (ps : List Point) (p q : Point) (row a b : ℕ) → IsGridStretch ps p q → p.y ≡ q.y →
    row ≡ place_of p.y (ys_of ps) → a ≡ place_of p.x (xs_of ps) → b ≡ place_of q.x (xs_of ps) →
    IsRowStretch ps p q row a b
row_found ps p q row a b is same at from to = rw (at, from, to) (IsRowStretch-from_same ps p q is.from is.to same)

-- a straight stretch of two y is of one x
same_x : (ps : List Point) (p q : Point) → IsGridStretch ps p q → (p.y ≡ q.y → ⊥) → p.x ≡ q.x
same_x ps p q is other = elim is.straight [ inl same ↦ same | inr same ↦ absurd (other same) ]

-- .. and so in a column
pub column_found : (ps : List Point) (p q : Point) (column a b : ℕ) → IsGridStretch ps p q → (p.y ≡ q.y → ⊥) →
    column ≡ place_of p.x (xs_of ps) → a ≡ place_of p.y (ys_of ps) → b ≡ place_of q.y (ys_of ps) →
    IsColumnStretch ps p q column a b
column_found ps p q column a b is other at from to =
    rw (at, from, to) (IsColumnStretch-from_same ps p q is.from is.to (same_x ps p q is other))

-- a set with a stretch's edges joins its ends
pub joins_ends : (ps : List Point) (p q : Point) (set : List Bool) → IsGridStretch ps p q →
    ((e : ℕ) → IsOnStretch ps p q e → slice_get set e ≡ Some true) →
    Joins (hanan_grid_of ps) set (vertex_of (xs_of ps) (ys_of ps) p ∷ vertex_of (xs_of ps) (ys_of ps) q ∷ [])
joins_ends ps p q set is holds =
    Joins-stretch ps p q set (vertex_of (xs_of ps) (ys_of ps) p ∷ vertex_of (xs_of ps) (ys_of ps) q ∷ []) is holds (grind (arith, IsVertexOnStretch-from ps p q is, All-cons (IsVertexOnStretch ps p q) (vertex_of (xs_of ps) (ys_of ps) q), IsVertexOnStretch-to ps p q is, All-nil (IsVertexOnStretch ps p q)))

-- a test that fails denies what it tests
pub not_level : (p q : Point) (level : Bool) → (IsTrue level ↔ (p.y ≡ q.y)) → level ≡ false → p.y ≡ q.y → ⊥
not_level p q level tests fails same = let yes : level ≡ true = tests.1 same in absurd cc

-- what was put into the empty set is what the set holds
pub edges_put : (P : ℕ → Type 0) (size : ℕ) (empty set : List Bool) → empty ≡ replicate size false →
    Adds P empty set →
    (e : ℕ) → (slice_get set e ≡ Some true) ↔ P e
edges_put P size empty set is adds e = (Adds-holds P size set (subst (λ old. Adds P old set) is adds) e, adds.put e)
