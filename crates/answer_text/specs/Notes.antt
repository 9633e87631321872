-- A head of which nothing was told.
use Rattle.std.specs.Prelude.{false}
use Rattle.answer_text.specs.declared.head.AnswerHead.{AnswerHead}
use Rattle.answer_text.specs.declared.head.ConcatNote.{ConcatNote}

-- nothing was told of a concatenation
abbrev pub no_note : ConcatNote
no_note = record { least = false; total = 0 }

-- nothing was told at all
abbrev pub no_head : AnswerHead
no_head = record { length = 0; bound = 0; optimal = false; openings = 0; concat = no_note }
