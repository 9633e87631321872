use Rattle.cert_check.specs.Named.{named_of}
use Rattle.judge_tools.proofs.judge.judge.Given as goal

-- The answer is judged for the points of the file.
abbrev pub ghosts-judge_input : goal.ghosts-judge_input
ghosts-judge_input g a = record { named = named_of a.subject }
