use Rattle.cert_check.specs.Named.{named_of}
use Rattle.graph_tools.proofs.checking.verdict_on.Given as goal

-- The answer is judged in the graph of the file.
abbrev pub ghosts-judge_input : goal.ghosts-judge_input
ghosts-judge_input g a = record { named = named_of a.subject }
