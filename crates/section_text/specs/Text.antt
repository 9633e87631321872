-- The text of points and items.
use Rattle.std.specs.Prelude.{ℕ, ◌≡◌, ◌≤◌, List, [], ◌∷◌, ◌++◌, length, map}
use Rattle.points_in.specs.declared.point.Point.{Point}
use Rattle.points_in.specs.Points.{ArePoints}
use Rattle.text_in.specs.Lines.{text_of}
use Rattle.section_text.specs.Format.{Format}
use Rattle.section_text.specs.Words.{points_words, count_words, point_words, end_words}

-- The lines: the title, how many points there are, the points, how many items there are, the items, and the end.
abbrev pub section_lines : {X F V : Type 0} → Format X F V → List Point → List X → List (List (List ℕ))
section_lines fm ps xs =
    fm.title ∷ points_words (length ps) ∷ map point_words ps
    ++ (count_words fm.kind (length xs) ∷ map fm.item_words xs ++ end_words ∷ [])

-- points and items that a text can list
pub record AreSections {X F V : Type 0} (fm : Format X F V) (ps : List Point) (xs : List X) : Type 0 where
  pub points : ArePoints ps
  pub fit : fm.PointsFit ps
  pub few : length xs ≤ fm.most
  pub items : fm.AreItems ps xs
  pub whole : fm.IsWhole ps xs

-- the bytes spell the value of such points and items
pub record Spells {X F V : Type 0} (fm : Format X F V) (bytes : List ℕ) (v : V) : Type 0 where
  pub ps : List Point
  pub xs : List X
  pub are : AreSections fm ps xs
  pub value : v ≡ fm.value_of ps xs
  pub text : bytes ≡ text_of (section_lines fm ps xs)
