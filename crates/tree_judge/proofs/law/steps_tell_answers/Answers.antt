use Rattle.tree_judge.specs.AnswerLaws.{answer_passes, answer_sound}
use Rattle.tree_judge.proofs.law.steps_tell_answers.Goals as goal

pub returns : goal.returns
returns c = record {
  sound = answer_sound;
  passes = λ g claim network t sound.
      let told = answer_passes g claim network t sound in
      (told.last, told.runs, told.says, told.found);
}
