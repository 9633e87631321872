use Rattle.std.proofs.Common.{◌*◌, take}
use Rattle.text_out.specs.Gathers.{Gathers}
use Rattle.answer_text.specs.Words.{set_text}
use Rattle.answer_text.proofs.write.write_set.Given as goal

-- sixteen digits for each word passed
abbrev pub invariant-loop-place : goal.invariant-loop-place
invariant-loop-place g l = Gathers (g.S.Sink.state l.initial.sink) l.initial.block (take (16 * l.place) (set_text l.set)) (g.S.Sink.state l.sink) l.block
