-- What an answer says of what a search found.
use Rattle.std.specs.Prelude.{ℕ, ◌==◌, min}
use Rattle.branch.specs.declared.solved.Solved.{Solved}
use Rattle.answer_text.specs.declared.answer.Answer.{Answer}
use Rattle.answer_text.specs.declared.head.AnswerHead.{AnswerHead}
use Rattle.answer_text.specs.declared.head.ConcatNote.{ConcatNote}

-- what is told of a network of a length, of a tree of a value and of a concatenation, with so many openings allowed
abbrev pub head_with : ℕ → ℕ → ℕ → ConcatNote → AnswerHead
head_with openings length value note = record {
  length = length;
  bound = min value length;
  optimal = min value length == length;
  openings = openings;
  concat = note;
}

-- the answer that tells what a search found, with so many openings allowed
abbrev pub answer_with : ℕ → ConcatNote → Solved → Answer
answer_with openings note solved = record {
  head = record {
    length = solved.length;
    bound = solved.bound;
    optimal = solved.optimal;
    openings = openings;
    concat = note;
  };
  network = solved.network;
  tree = solved.tree;
}
