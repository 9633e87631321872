-- Which codes are in form: those that name a full tree of the points (the shapes: Hwang 1976).
use Rattle.std.specs.Prelude.{ℕ, ◌≡◌, ◌≢◌, ◌<◌, ℤ, pos, ◌<ℤ◌, List, ◌∷◌, [], ◌++◌, length, map, All, Option, None}
use Rattle.std.specs.Prelude.{IfSome}
use Rattle.std.specs.List.{last_or}
use Rattle.points_in.specs.declared.point.Point.{Point}
use Rattle.full_tree.specs.declared.way.Way.{Way}
use Rattle.full_tree.specs.declared.code.TreeCode.{TreeCode}
use Rattle.full_tree.specs.declared.code.TreeCode.TheVariants.{Long, Cross}
use Rattle.full_tree.specs.Geometry.{point_at, along, across, RisesFrom, AreOpposite, Alternates, IsBetweenZeroAnd}
use Rattle.full_tree.specs.Code.{named_places, HasFewMembers}

-- how far the terminal k lies ahead of the root, and how far to the left
abbrev pub along_of : List Point → ℕ → Way → ℕ → ℤ
along_of ps root toward k = along (point_at ps root) toward (point_at ps k)

abbrev pub across_of : List Point → ℕ → Way → ℕ → ℤ
across_of ps root toward k = across (point_at ps root) toward (point_at ps k)

module _ (ps : List Point) (root : ℕ) (toward : Way) where
  -- The side k hangs on the short leg: its foot lies between the corner and the tip, and k isn't that foot.
  pub record IsOnShortLeg (tip k : ℕ) : Type 0 where
    pub between : IsBetweenZeroAnd (across_of ps root toward tip) (across_of ps root toward k)
    pub off : along_of ps root toward k ≢ along_of ps root toward tip

  -- the terminals k and l lie on both sides of the long leg
  abbrev pub LieAcross : ℕ → ℕ → Type 0
  LieAcross k l = AreOpposite (across_of ps root toward k) (across_of ps root toward l)

  -- The drops lie beside the long leg, on its two sides in turn, and the last one across from the tip
  -- where there is a short leg.
  pub record LieInTurn (drops : List ℕ) (tip : ℕ) : Type 0 where
    pub off : All (λ d. across_of ps root toward d ≢ pos 0) drops
    pub in_turn : Alternates (map (across_of ps root toward) drops)
    pub last : across_of ps root toward tip ≢ pos 0 → IfSome (last_or None drops) (LieAcross tip)

  -- How the terminals of a long code lie: the corner is ahead of the root, with the feet of the drops in
  -- order between them; the drops lie on both sides in turn; the side hangs on the short leg.
  pub record IsLongShape (drops : List ℕ) (side : Option ℕ) (tip : ℕ) : Type 0 where
    pub forward : RisesFrom (pos 0) (map (along_of ps root toward) (drops ++ tip ∷ []))
    pub sides : LieInTurn drops tip
    pub hangs : IfSome side (IsOnShortLeg tip)

-- How the terminals of a cross lie: west and east on a horizontal line, south and north on a vertical
-- one that crosses it between them, and the other way round.
pub record IsCrossShape (w s e n : Point) : Type 0 where
  pub level : w.y ≡ e.y
  pub upright : s.x ≡ n.x
  pub right_of_west : w.x <ℤ s.x
  pub left_of_east : s.x <ℤ e.x
  pub above_south : s.y <ℤ w.y
  pub below_north : w.y <ℤ n.y

-- the terminals of a code lie as its shape wants
abbrev pub IsShape : List Point → TreeCode → Type 0
IsShape ps (Long root toward drops side tip) = IsLongShape ps root toward drops side tip
IsShape ps (Cross west south east north) =
    IsCrossShape (point_at ps west) (point_at ps south) (point_at ps east) (point_at ps north)

-- The code is in form: it names at most 8 terminals, each once, and they lie as its shape wants.
pub record IsInForm (ps : List Point) (code : TreeCode) : Type 0 where
  pub members : HasFewMembers code
  pub terminals : All (λ k. k < length ps) (named_places code)
  pub shape : IsShape ps code
