use Rattle.std.specs.Prelude.{◌+◌, ◌<◌, length, take, flat_map}
use Rattle.std.proofs.Common.{sym, subst, ◌∙◌, arith}
use Rattle.text_out.specs.GatherLaws.{gathers_two}
use Rattle.text_out.specs.Gathers.{Gathers}
use Rattle.net_graph.specs.Members.{members_of}
use Rattle.reduced_text.specs.Text.{number_line}
use Rattle.reduced_text.proofs.lemmas.Texts.{members_with, members_without}
use Rattle.reduced_text.proofs.set_lines.write_members.Goals as goal
use Rattle.reduced_text.proofs.set_lines.write_members.Goals.{then-has, else-has}

pub loop-e-preserved : goal.loop-e-preserved
loop-e-preserved g c =
    let set = c.args.set.now in
    let e = c.loop-e.e in
    let below : e < length set = omega (arith, c.loop-e-test.true, c.len-e-end.ensures) in
    elim c.if-has.branch [
      | then-has w ↦ subst (λ b. Gathers (g.S.Sink.state c.args.sink.now) c.args.block.now
          (flat_map number_line (members_of (take (e + 1) set))) (g.S.Sink.state c.if-has.sink) b) (sym w.block-is)
          (subst (λ s. Gathers (g.S.Sink.state c.args.sink.now) c.args.block.now
          (flat_map number_line (members_of (take (e + 1) set))) (g.S.Sink.state s) w.write_number.new.block)
          (sym w.sink-is)
          (gathers_two _ _ _ _ _ _ _ _ _ c.loop-e.invariant w.write_number.ensures
          (members_with number_line set e below (sym c.has.ensures.within ∙ w.if-has.true))))
      | else-has w ↦ subst (λ b. Gathers (g.S.Sink.state c.args.sink.now) c.args.block.now
          (flat_map number_line (members_of (take (e + 1) set))) (g.S.Sink.state c.if-has.sink) b) (sym w.block-is)
          (subst (λ s. Gathers (g.S.Sink.state c.args.sink.now) c.args.block.now
          (flat_map number_line (members_of (take (e + 1) set))) (g.S.Sink.state s) c.loop-e.block) (sym w.sink-is)
          (subst (λ ns. Gathers (g.S.Sink.state c.args.sink.now) c.args.block.now (flat_map number_line ns)
          (g.S.Sink.state c.loop-e.sink) c.loop-e.block)
          (members_without set e below (sym c.has.ensures.within ∙ w.if-has.false)) c.loop-e.invariant))
    ]
