-- The beginnings of long codes: a root, a direction and the first drops.
use Rattle.std.specs.Prelude.{ℕ, ◌≡◌, ◌≢◌, ◌+◌, ◌<◌, ◌≤◌, pos, List, [], ◌∷◌, ◌++◌, length, map, All, AllPairs, Option}
use Rattle.std.specs.Prelude.{Some}
use Rattle.points_in.specs.declared.point.Point.{Point}
use Rattle.hanan_grid.specs.Distance.{distance_between}
use Rattle.full_tree.specs.declared.straight.Piece.{Piece}
use Rattle.full_tree.specs.declared.way.Way.{Way}
use Rattle.full_tree.specs.declared.code.TreeCode.{TreeCode}
use Rattle.full_tree.specs.declared.code.TreeCode.TheVariants.{Long}
use Rattle.full_tree.specs.Geometry.{point_at, RisesFrom, Alternates}
use Rattle.full_tree.specs.Form.{along_of, across_of, LieInTurn}
use Rattle.full_tree.specs.Pieces.{foot, line_over, drop_pieces}
use Rattle.full_tree.specs.Stations.{first_stations, last_foot}
use Rattle.full_tree.specs.Passing.{Passes, IsClear, KeepsUpTo, KeepsBottlenecks, IsWithinBottleneck}
use Rattle.fst_gen.specs.declared.prefix.Prefix.{Prefix}

-- the last drop, or the root where there is none
abbrev pub last_member : ℕ → List ℕ → ℕ
last_member root [] = root
last_member root (d ∷ ds) = last_member d ds

-- what is kept beside a root, a direction and drops is so
pub record IsPrefix (ps : List Point) (prefix : Prefix) : Type 0 where
  pub root_in : prefix.root < length ps
  pub drops_in : All (λ k. k < length ps) prefix.drops
  pub few : length prefix.drops ≤ 6
  pub last_in : prefix.last < length ps
  pub last_is : prefix.last ≡ last_member prefix.root prefix.drops
  pub foot_is : prefix.foot ≡ last_foot ps prefix.root prefix.toward (point_at ps prefix.root) prefix.drops
  pub stations_are : prefix.stations ≡ first_stations ps prefix.root prefix.toward prefix.drops

module _ (root : ℕ) (toward : Way) (drops : List ℕ) where
  -- the code begins with this root, this direction and these drops
  abbrev pub HasPrefix : TreeCode → Type 0
  HasPrefix code = (more : List ℕ) × (side : Option ℕ) × (tip : ℕ) × (code ≡ Long root toward (drops ++ more) side tip)

  -- .. and has no further drop, with this tip
  abbrev pub EndsAt : ℕ → TreeCode → Type 0
  EndsAt tip code = (side : Option ℕ) × (code ≡ Long root toward drops side tip)

  abbrev pub EndsBelow : ℕ → TreeCode → Type 0
  EndsBelow n code = (tip : ℕ) × (tip < n) × EndsAt tip code

  -- .. and with a side
  abbrev pub IsHung : ℕ → ℕ → TreeCode → Type 0
  IsHung side tip code = code ≡ Long root toward drops (Some side) tip

  abbrev pub HangsBelow : ℕ → ℕ → TreeCode → Type 0
  HangsBelow tip n code = (side : ℕ) × (side < n) × IsHung side tip code

-- the code begins so, and has a further drop, which is below n
abbrev pub ContinuesBelow : ℕ → Way → List ℕ → ℕ → TreeCode → Type 0
ContinuesBelow root toward drops n code = (d : ℕ) × (d < n) × HasPrefix root toward (drops ++ d ∷ []) code

-- the pieces of a beginning: from the root over the feet of the drops to the last one, and each drop from its foot
abbrev pub first_pieces : List Point → ℕ → Way → List ℕ → List Piece
first_pieces ps root toward drops =
    line_over (point_at ps root) (map (foot ps root toward) drops) ++ drop_pieces ps root toward drops

-- What is asked of a code, as far as it speaks of the root, the direction and the first drops alone: with a tip there
-- are at most 8 members, each is a terminal and stands once; the feet lie ahead of the root, in order, and the drops
-- beside the long leg, on its two sides in turn; each terminal that lies on a piece of the beginning is the root or one
-- of the drops, and one of that piece's two ends; and each two of these keep their bottleneck.
pub record MayBegin (ps : List Point) (root : ℕ) (toward : Way) (drops : List ℕ) : Type 0 where
  pub few : length drops + 2 ≤ 8
  pub distinct : AllPairs (λ p q. p ≢ q) (root ∷ drops)
  pub terminals : All (λ k. k < length ps) (root ∷ drops)
  pub forward : RisesFrom (pos 0) (map (along_of ps root toward) drops)
  pub off : All (λ d. across_of ps root toward d ≢ pos 0) drops
  pub in_turn : Alternates (map (across_of ps root toward) drops)
  pub clear : All (IsClear ps (root ∷ drops)) (first_pieces ps root toward drops)
  pub bottlenecks : KeepsBottlenecks ps (first_stations ps root toward drops)

-- What a further drop must meet, by the root and the drops so far alone: it lies ahead of them, and
-- across from the last drop or on the long leg itself; and it and each earlier member keep their bottleneck.
pub record MayFollow (ps : List Point) (root : ℕ) (toward : Way) (drops : List ℕ) (d : ℕ) : Type 0 where
  pub ahead : RisesFrom (pos 0) (map (along_of ps root toward) (drops ++ d ∷ []))
  pub sides : LieInTurn ps root toward drops d
  pub keeps : KeepsUpTo ps (first_stations ps root toward (drops ++ d ∷ [])) (length drops + 1)

-- What a tip must meet, by the root and the drops alone: it lies ahead of them, and across from the last
-- drop or on the long leg itself.
pub record MayEndAt (ps : List Point) (root : ℕ) (toward : Way) (drops : List ℕ) (tip : ℕ) : Type 0 where
  pub ahead : RisesFrom (pos 0) (map (along_of ps root toward) (drops ++ tip ∷ []))
  pub sides : LieInTurn ps root toward drops tip

-- no code of this kind passes
abbrev pub NonePasses : List Point → (TreeCode → Type 0) → Type 0
NonePasses ps Kind = (code : TreeCode) → Kind code → Passes ps code → ⊥

-- no code passes whose beginning fails in any of that
abbrev pub FailingBeginningNeverPasses : Type 0
FailingBeginningNeverPasses = (ps : List Point) (root : ℕ) (toward : Way) (drops : List ℕ)
    → ¬ MayBegin ps root toward drops → NonePasses ps (HasPrefix root toward drops)

-- no code passes that begins with drops behind which the last one may not follow
abbrev pub FailingDropNeverPasses : Type 0
FailingDropNeverPasses = (ps : List Point) (root : ℕ) (toward : Way) (drops : List ℕ) (d : ℕ)
    → ¬ MayFollow ps root toward drops d → NonePasses ps (HasPrefix root toward (drops ++ d ∷ []))

-- no code passes whose long leg goes on from its last foot, or from the root, to the corner for longer than
-- the bottleneck of its last drop, or of the root, and the tip
abbrev pub FarTipNeverPasses : Type 0
FarTipNeverPasses = (ps : List Point) (root : ℕ) (toward : Way) (drops : List ℕ) (tip : ℕ)
    → ¬ IsWithinBottleneck ps (last_member root drops) tip
    (distance_between (last_foot ps root toward (point_at ps root) drops) (foot ps root toward tip))
    → NonePasses ps (EndsAt root toward drops tip)

-- a beginning with one drop more than another
pub record IsLongerBy (ps : List Point) (prefix : Prefix) (d : ℕ) (longer : Prefix) : Type 0 where
  pub is_prefix : IsPrefix ps longer
  pub root : longer.root ≡ prefix.root
  pub toward : longer.toward ≡ prefix.toward
  pub drops : longer.drops ≡ prefix.drops ++ d ∷ []
