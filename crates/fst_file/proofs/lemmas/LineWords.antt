-- The lines that a file has of its own are made of words.
use Rattle.std.specs.Prelude.{ℕ, ◌<◌, ◌^◌, List, [], ◌∷◌, map, codes, Option, None, Some, IfSome}
use Rattle.std.specs.Fmt.{decimal}
use Rattle.std.specs.List.{AllByRecursion}
use Rattle.std.proofs.Common.{arith}
use Rattle.text_in.specs.Words.{IsWord}
use Rattle.text_in.specs.Numbers.{decimal_is_word}
use Rattle.full_tree.specs.declared.way.Way.{Way}
use Rattle.full_tree.specs.declared.way.Way.TheVariants.{East, North, West, South}
use Rattle.full_tree.specs.declared.code.Tree.{Tree}
use Rattle.full_tree.specs.declared.code.TreeCode.{TreeCode}
use Rattle.full_tree.specs.declared.code.TreeCode.TheVariants.{Long, Cross}
use Rattle.text_in.specs.Lines.{IsLineOfWords}
use Rattle.section_text.specs.WordLaws.{plain}
use Rattle.fst_file.specs.Words.{title_words, way_word, side_word, code_words, tree_words, FitsCode, IsSpelled}

-- a place
place : (k : ℕ) → k < 2 ^ 32 → IsWord (decimal k)
place k fits = decimal_is_word k (omega arith)

way : (w : Way) → IsWord (way_word w)
way East = plain (way_word East) (omega arith) (omega arith, tt)
way North = plain (way_word North) (omega arith) (omega arith, tt)
way West = plain (way_word West) (omega arith) (omega arith, tt)
way South = plain (way_word South) (omega arith) (omega arith, tt)

side : (q : Option ℕ) → IfSome q (λ k. k < 2 ^ 32) → IsWord (side_word q)
side None fits = plain (side_word None) (omega arith) (omega arith, tt)
side (Some k) fits = place k fits

drops : (ds : List ℕ) → AllByRecursion (λ d. d < 2 ^ 32) ds → AllByRecursion IsWord (map decimal ds)
drops [] fits = tt
drops (d ∷ ds) fits = (place d fits.0, drops ds fits.1)

long_word : IsWord (codes "long")
long_word = plain (codes "long") (omega arith) (omega arith, (omega arith, (omega arith, (omega arith, tt))))

cross_word : IsWord (codes "cross")
cross_word = plain (codes "cross") (omega arith) (omega arith, (omega arith, (omega arith, (omega arith, (omega arith, tt)))))

code : (c : TreeCode) → FitsCode c → AllByRecursion IsWord (code_words c)
code (Long r w ds q t) fits = (long_word, (place r fits.0, (way w, (place t fits.1, (side q fits.2, drops ds fits.3)))))
code (Cross w s e n) fits = (cross_word, (place w fits.0, (place s fits.1, (place e fits.2, (place n fits.3, tt)))))

pub tree : (t : Tree) → IsSpelled t → IsLineOfWords (tree_words t)
tree t is = (omega arith, (decimal_is_word t.length is.length_fits, code t.code is.places_fit))

pub trees_word : IsWord (codes "trees")
trees_word = plain (codes "trees") (omega arith) (omega arith, (omega arith, (omega arith, (omega arith, (omega arith, tt)))))

pub title : IsLineOfWords title_words
title = grind (arith, plain)
