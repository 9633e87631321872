-- The lines that points and boxes have of their own are made of words.
use Rattle.std.specs.Prelude.{codes}
use Rattle.std.proofs.Common.{arith}
use Rattle.text_in.specs.Words.{IsWord}
use Rattle.text_in.specs.Numbers.{signed_decimal_is_word}
use Rattle.text_in.specs.Lines.{IsLineOfWords}
use Rattle.section_text.specs.WordLaws.{plain}
use Rattle.obstacles_in.specs.declared.rectangle.Rectangle.{Rectangle}
use Rattle.obstacles_in.specs.Words.{title_words, box_words}
use Rattle.obstacles_in.specs.Faults.{HasCoordinates}

pub box_line : (b : Rectangle) → HasCoordinates b → IsLineOfWords (box_words b)
box_line b is = (
  omega arith,
  (
    signed_decimal_is_word b.x1 is.x1,
    (signed_decimal_is_word b.y1 is.y1, (signed_decimal_is_word b.x2 is.x2, (signed_decimal_is_word b.y2 is.y2, tt))),
  ),
)

pub boxes_word : IsWord (codes "boxes")
boxes_word = plain (codes "boxes") (omega arith) (omega arith, (omega arith, (omega arith, (omega arith, (omega arith, tt)))))

pub title : IsLineOfWords title_words
title = grind (arith, plain, plain)
