-- The lines that a text of points and boxes has of its own, each as its words.
use Rattle.std.specs.Prelude.{ℕ, List, [], ◌∷◌, codes}
use Rattle.std.specs.Fmt.{signed_decimal}
use Rattle.obstacles_in.specs.declared.rectangle.Rectangle.{Rectangle}

-- the first line
abbrev pub title_words : List (List ℕ)
title_words = codes "rst" ∷ codes "obstacles" ∷ codes "1" ∷ []

-- the line of a box: its lower left corner and its upper right one
abbrev pub box_words : Rectangle → List (List ℕ)
box_words b = signed_decimal b.x1 ∷ signed_decimal b.y1 ∷ signed_decimal b.x2 ∷ signed_decimal b.y2 ∷ []
