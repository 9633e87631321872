-- What one more point does to the terminals.
use Rattle.std.specs.Prelude.{◌≡◌, ◌≤◌, Bool, true, false, cond, not, List, [], ◌∷◌, ◌++◌, length, filter, Any}
use Rattle.std.specs.Prelude.{Contains, ◌≢◌, ◌↔◌}
use Rattle.std.specs.List.{list_any}
use Rattle.std.specs.Bool.{Decides}
use Rattle.std.proofs.Common.{arith, refl, sym, ◌∙◌}
use Rattle.std.proofs.lemmas.Bool.{cases_Bool, false_from_ne_true, true≢false, not-true}
use Rattle.std.proofs.lemmas.List.{append-nil, get_or_default, length-append}
use Rattle.std.proofs.lemmas.List.Elements.{All-weaker, filter-append, filter_passes}
use Rattle.std.proofs.lemmas.List.Kept.{AllPairs-cons, AllPairs-filter}
use Rattle.std.proofs.lemmas.List.Folds.{list_any_at, Any-from_list_any}
use Rattle.std.proofs.lemmas.List.Sums.{length-filter, count_by-le-length}
use Rattle.points_in.specs.declared.point.Point.{Point}
use Rattle.points_in.specs.Terminals.{same_point, terminals_of, AreDistinct}
use Rattle.points_in.specs.PointLaws.{same_point_decides}

-- the list holds the point, as a test
abbrev holds : Point → List Point → Bool
holds p ps = list_any (λ q. same_point q p) ps

-- a list in which a point passes the test contains it
contains_from_any : (p : Point) (ps : List Point) → Any (λ q. same_point q p ≡ true) ps → Contains ps p
contains_from_any p ps (k, q, within, is, same) =
    (k, within, get_or_default ps k p q within ∙ is ∙ (same_point_decides q p).0 same)

-- the test tells whether the list contains the point
holds_decides : (p : Point) (ps : List Point) → Decides (holds p ps) (Contains ps p)
holds_decides p ps = grind (arith, contains_from_any, Any-from_list_any, list_any_at, same_point_decides)

-- leaving one point out doesn't change whether another is held
holds-filter : (a p : Point) → same_point a p ≡ false → (ps : List Point)
    → holds p (filter (λ q. not (same_point a q)) ps) ≡ holds p ps
holds-filter a p apart [] = refl
holds-filter a p apart (q ∷ ps) =
    grind (arith, cases_Bool (same_point a q), same_point_decides a q, holds-filter a p apart ps)

-- the length of the terminals is at most the list's
pub length-terminals_of-le : (ps : List Point) → length (terminals_of ps) ≤ length ps
length-terminals_of-le [] = omega arith
length-terminals_of-le (p ∷ ps) = grind (arith, length-terminals_of-le ps, length-filter, count_by-le-length)

-- one more point is appended where it is new
terminals_of_push : (ps : List Point) (p : Point)
    → terminals_of (ps ++ p ∷ []) ≡ cond (holds p (terminals_of ps)) (terminals_of ps) (terminals_of ps ++ p ∷ [])
terminals_of_push [] p = refl
terminals_of_push (a ∷ ps) p =
    grind (
      arith,
      terminals_of_push ps p,
      cases_Bool (same_point a p),
      cases_Bool (holds p (terminals_of ps)),
      filter-append,
      append-nil,
      holds-filter,
    )

-- one more point takes no terminal away
pub length-terminals_of-push : (ps : List Point) (p : Point)
    → length (terminals_of ps) ≤ length (terminals_of (ps ++ p ∷ []))
length-terminals_of-push ps p =
    grind (
      arith,
      cases_Bool (holds p (terminals_of ps)),
      terminals_of_push ps p,
      length-append (terminals_of ps) (p ∷ []),
    )

-- a repeat changes nothing
pub terminals_of_repeat : (ps : List Point) (p : Point) → Contains (terminals_of ps) p
    → terminals_of (ps ++ p ∷ []) ≡ terminals_of ps
terminals_of_repeat ps p held = rw (terminals_of_push ps p, (holds_decides p (terminals_of ps)).1 held)

-- a new point comes last
pub terminals_of_new : (ps : List Point) (p : Point) → ¬ Contains (terminals_of ps) p
    → terminals_of (ps ++ p ∷ []) ≡ terminals_of ps ++ p ∷ []
terminals_of_new ps p new = grind (arith, false_from_ne_true, holds_decides p (terminals_of ps), terminals_of_push ps p)

-- a point is among the terminals where it is among the points
holds-terminals_of : (p : Point) (ps : List Point) → holds p (terminals_of ps) ≡ holds p ps
holds-terminals_of p [] = refl
holds-terminals_of p (a ∷ ps) = grind (arith, cases_Bool (same_point a p), holds-filter, holds-terminals_of p ps)

-- the same, of what the tests tell
pub terminals_of_contains : (ps : List Point) (p : Point) → Contains (terminals_of ps) p ↔ Contains ps p
terminals_of_contains ps p =
    grind (arith, holds_decides p ps, holds-terminals_of p ps, holds_decides p (terminals_of ps))

-- no point stands twice among the terminals
pub terminals_of_distinct : (ps : List Point) → AreDistinct (terminals_of ps)
terminals_of_distinct [] = λ i j d before within. absurd (omega arith)
terminals_of_distinct (p ∷ ps) =
    AllPairs-cons (λ q r. q ≢ r) p (filter (λ q. not (same_point p q)) (terminals_of ps))
    (All-weaker (λ q. not (same_point p q) ≡ true) (λ q. p ≢ q)
    (λ q other same. true≢false (sym ((same_point_decides p q).1 same) ∙ not-true (same_point p q) other))
    (filter (λ q. not (same_point p q)) (terminals_of ps))
    (filter_passes (λ q. not (same_point p q)) (terminals_of ps)))
    (AllPairs-filter (λ q r. q ≢ r) (λ q. not (same_point p q)) (terminals_of ps) (terminals_of_distinct ps))
