-- The lines that a file between the phases has of its own, each as its words.
use Rattle.std.specs.Prelude.{ℕ, ◌<◌, ◌^◌, List, [], ◌∷◌, map, codes, Option, None, Some, IfSome}
use Rattle.std.specs.Fmt.{decimal}
use Rattle.std.specs.List.{AllByRecursion}
use Rattle.section_text.specs.Words.{count_words}
use Rattle.full_tree.specs.declared.way.Way.{Way}
use Rattle.full_tree.specs.declared.way.Way.TheVariants.{East, North, West, South}
use Rattle.full_tree.specs.declared.code.Tree.{Tree}
use Rattle.full_tree.specs.declared.code.TreeCode.{TreeCode}
use Rattle.full_tree.specs.declared.code.TreeCode.TheVariants.{Long, Cross}

-- the first line
abbrev pub title_words : List (List ℕ)
title_words = codes "rst" ∷ codes "fst" ∷ codes "1" ∷ []

-- the line that counts the trees
abbrev pub trees_words : ℕ → List (List ℕ)
trees_words count = count_words (codes "trees") count

-- a direction, by the first letter of its name
abbrev pub way_word : Way → List ℕ
way_word East = codes "E"
way_word North = codes "N"
way_word West = codes "W"
way_word South = codes "S"

-- the side, or a dash where there is none
abbrev pub side_word : Option ℕ → List ℕ
side_word None = codes "-"
side_word (Some place) = decimal place

-- A code: its kind and the places that it names. Of a long one the root, the direction, the tip, the side and
-- the drops.
abbrev pub code_words : TreeCode → List (List ℕ)
code_words (Long root toward drops side tip) =
    codes "long" ∷ decimal root ∷ way_word toward ∷ decimal tip ∷ side_word side ∷ map decimal drops
code_words (Cross west south east north) =
    codes "cross" ∷ decimal west ∷ decimal south ∷ decimal east ∷ decimal north ∷ []

-- the line of a tree: its length and its code
abbrev pub tree_words : Tree → List (List ℕ)
tree_words t = decimal t.length ∷ code_words t.code

-- what a tree's line can spell: a length of 64 bits, and places of 32 bits, whether they are in form or not
abbrev pub FitsCode : TreeCode → Type 0
FitsCode (Long root toward drops side tip) =
    (root < 2 ^ 32) × (tip < 2 ^ 32) × IfSome side (λ q. q < 2 ^ 32) × AllByRecursion (λ d. d < 2 ^ 32) drops
FitsCode (Cross west south east north) =
    (west < 2 ^ 32) × (south < 2 ^ 32) × (east < 2 ^ 32) × (north < 2 ^ 32)

pub record IsSpelled (t : Tree) : Type 0 where
  pub length_fits : t.length < 2 ^ 64
  pub places_fit : FitsCode t.code
