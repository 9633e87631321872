use Rattle.std.proofs.Common.{take}
use Rattle.text_out.specs.Gathers.{Gathers}
use Rattle.full_tree.specs.Code.{members_of}
use Rattle.printed_texts.specs.Trees.{places_text}
use Rattle.printed_texts.proofs.trees.write_members.Given as goal

-- the members passed
abbrev pub invariant-loop-n : goal.invariant-loop-n
invariant-loop-n g l = Gathers (g.S.Sink.state l.initial.sink) l.initial.block (places_text (take l.n (members_of l.code))) (g.S.Sink.state l.sink) l.block
