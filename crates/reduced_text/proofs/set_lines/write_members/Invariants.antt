use Rattle.std.proofs.Common.{take, flat_map}
use Rattle.text_out.specs.Gathers.{Gathers}
use Rattle.net_graph.specs.Members.{members_of}
use Rattle.reduced_text.specs.Text.{number_line}
use Rattle.reduced_text.proofs.set_lines.write_members.Given as goal

abbrev pub invariant-loop-e : goal.invariant-loop-e
invariant-loop-e g l = Gathers (g.S.Sink.state l.initial.sink) l.initial.block
    (flat_map number_line (members_of (take l.e l.set))) (g.S.Sink.state l.sink) l.block
