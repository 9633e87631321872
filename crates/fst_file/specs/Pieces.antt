-- The text of a file as the writer makes it.
use Rattle.std.specs.Prelude.{ℕ, List, [], ◌∷◌, ◌++◌, length, flat_map, codes}
use Rattle.std.specs.Fmt.{decimal}
use Rattle.points_in.specs.declared.point.Point.{Point}
use Rattle.full_tree.specs.declared.code.Tree.{Tree}
use Rattle.full_tree.specs.declared.code.TreeCode.{TreeCode}
use Rattle.full_tree.specs.declared.code.TreeCode.TheVariants.{Long, Cross}
use Rattle.text_in.specs.Lines.{line_text}
use Rattle.section_text.specs.Words.{points_words, point_words}
use Rattle.fst_file.specs.Words.{title_words, trees_words, way_word, side_word}

-- places, each behind a blank
abbrev pub places_line : List ℕ → List ℕ
places_line places = flat_map (λ k. 32 ∷ decimal k) places

-- a code, each word behind a blank
abbrev pub code_line : TreeCode → List ℕ
code_line (Long root toward drops side tip) =
    codes " long" ++ 32 ∷ decimal root ++ 32 ∷ way_word toward ++ 32 ∷ decimal tip ++ 32 ∷ side_word side
    ++ places_line drops
code_line (Cross west south east north) = codes " cross" ++ places_line (west ∷ south ∷ east ∷ north ∷ [])

-- a tree
abbrev pub tree_line : Tree → List ℕ
tree_line t = decimal t.length ++ code_line t.code ++ 10 ∷ []

-- the lines up to the last point, and those behind it
abbrev pub points_part : List Point → List ℕ
points_part ps =
    line_text title_words ++ line_text (points_words (length ps))
    ++ flat_map (λ p. line_text (point_words p)) ps

abbrev pub trees_part : List Tree → List ℕ
trees_part ts = line_text (trees_words (length ts)) ++ flat_map tree_line ts ++ codes "end\n"
