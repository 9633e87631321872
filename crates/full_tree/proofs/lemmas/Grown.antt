-- How pieces grow from points that are reached, and where they end.
use Rattle.std.proofs.Common.{ℕ, ◌≡◌, List, [], ◌∷◌, ◌++◌, get_or, map, subst, inl, inr, arith}
use Rattle.std.specs.Prelude.{All, Contains}
use Rattle.std.proofs.lemmas.List.Elements.{All-nil, All-cons, All-head, All-tail, All-weaker, Contains-get_or}
use Rattle.points_in.specs.declared.point.Point.{Point}
use Rattle.hanan_grid.specs.ContainsLaws.{Contains-first, Contains-rest, Contains-cases}
use Rattle.full_tree.specs.declared.straight.Piece.{Piece}
use Rattle.full_tree.specs.Pieces.{piece_between, line_over}
use Rattle.full_tree.specs.Joined.{GrowsFrom, ends_of}

-- ---- lists

-- ---- growing

-- a line from a reached point grows
pub line_grows : (reached : List Point) (p : Point) (qs : List Point) → Contains reached p → GrowsFrom reached (line_over p qs)
line_grows reached p [] from = tt
line_grows reached p (q ∷ qs) from = (from, line_grows (q ∷ reached) q qs (Contains-first q reached))

-- pieces that each begin at a reached point grow
pub hung_grow : (f g : ℕ → Point) (reached : List Point) (ks : List ℕ) → All (λ k. Contains reached (f k)) ks → GrowsFrom reached (map (λ k. piece_between (f k) (g k)) ks)
hung_grow f g reached [] all = tt
hung_grow f g reached (k ∷ ks) all = (
  All-head (λ l. Contains reached (f l)) k ks all,
  hung_grow f g (g k ∷ reached) ks (All-weaker (λ l. Contains reached (f l)) (λ l. Contains (g k ∷ reached) (f l)) (λ l held. Contains-rest (g k) (f l) reached held) ks (All-tail (λ l. Contains reached (f l)) k ks all)),
)

-- pieces grow behind others where they grow from all points that these reach
pub GrowsFrom-append : (reached : List Point) (xs ys : List Piece) → GrowsFrom reached xs
    → ((more : List Point) → ((p : Point) → Contains reached p → Contains more p) → All (λ x. Contains more x.to) xs → GrowsFrom more ys)
    → GrowsFrom reached (xs ++ ys)
GrowsFrom-append reached [] ys grows behind = behind reached (λ p held. held) (All-nil (λ x. Contains reached x.to))
GrowsFrom-append reached (x ∷ xs) ys grows behind = (
  grows.0,
  GrowsFrom-append (x.to ∷ reached) xs ys grows.1 (λ more into tos. behind more
      (λ p held. into p (Contains-rest x.to p reached held))
      (All-cons (λ x. Contains more x.to) x xs (into x.to (Contains-first x.to reached)) tos)),
)

-- what holds of the ends of a line's pieces holds of its points
pub tos_of_line : (P : Point → Type 0) (p : Point) (qs : List Point) → All (λ x. P x.to) (line_over p qs) → All P qs
tos_of_line P p [] all = All-nil P
tos_of_line P p (q ∷ qs) all =
    All-cons P q qs (All-head (λ x. P x.to) (piece_between p q) (line_over q qs) all)
    (tos_of_line P q qs (All-tail (λ x. P x.to) (piece_between p q) (line_over q qs) all))

-- what holds of the points of a list of places holds place by place
pub All-places : (P : Point → Type 0) (f : ℕ → Point) (ks : List ℕ) → All P (map f ks) → All (λ k. P (f k)) ks
All-places P f [] all = All-nil (λ k. P (f k))
All-places P f (k ∷ ks) all = All-cons (λ k. P (f k)) k ks (All-head P (f k) (map f ks) all) (All-places P f ks (All-tail P (f k) (map f ks) all))

-- ---- ends

pub Contains-ends_to : (pieces : List Piece) (p : Piece) → Contains pieces p → Contains (ends_of pieces) p.to
Contains-ends_to [] p (k, inside, is) = absurd (omega arith)
Contains-ends_to (x ∷ xs) p held = elim (Contains-cases x p xs held) [
  | inl is ↦ subst (λ q. Contains (ends_of (x ∷ xs)) q.to) is (Contains-rest x.from x.to (x.to ∷ ends_of xs) (Contains-first x.to (ends_of xs)))
  | inr later ↦ Contains-rest x.from p.to (x.to ∷ ends_of xs) (Contains-rest x.to p.to (ends_of xs) (Contains-ends_to xs p later))
]

-- a list of pieces holds those that end at each point of a line
pub Contains-line_to : (p : Point) (qs : List Point) (q : Point) → Contains qs q → (x : Piece) × Contains (line_over p qs) x × (x.to ≡ q)
Contains-line_to p [] q (k, inside, is) = absurd (omega arith)
Contains-line_to p (r ∷ qs) q held = elim (Contains-cases r q qs held) [
  | inl is ↦ (piece_between p r, Contains-first (piece_between p r) (line_over r qs), is)
  | inr later ↦ let found = Contains-line_to r qs q later in
      (found.0, Contains-rest (piece_between p r) found.0 (line_over r qs) found.1, found.2)
]

-- a mapped list holds what each member is mapped to
Contains-mapped : {X : Type 0} (f : ℕ → X) (ks : List ℕ) (k : ℕ) → Contains ks k → Contains (map f ks) (f k)
Contains-mapped f [] k (n, inside, is) = absurd (omega arith)
Contains-mapped f (l ∷ ks) k held = elim (Contains-cases l k ks held) [
  | inl is ↦ subst (λ m. Contains (map f (l ∷ ks)) (f m)) is (Contains-first (f l) (map f ks))
  | inr later ↦ Contains-rest (f l) (f k) (map f ks) (Contains-mapped f ks k later)
]

-- pieces that lead to places, wherever they stand in a list, end at these places' points
pub hung_ends : (f g : ℕ → Point) (ks : List ℕ) (pieces : List Piece) → ((x : Piece) → Contains (map (λ k. piece_between (f k) (g k)) ks) x → Contains pieces x) → All (λ k. Contains (ends_of pieces) (g k)) ks
hung_ends f g ks pieces into n d inside =
    let k = get_or ks n d in
    Contains-ends_to pieces (piece_between (f k) (g k)) (into (piece_between (f k) (g k)) (Contains-mapped (λ k. piece_between (f k) (g k)) ks k (Contains-get_or ks n d inside)))
