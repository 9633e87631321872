use Rattle.std.specs.Prelude.{◌+◌, ◌<◌, length, take, flat_map}
use Rattle.std.proofs.Common.{sym, subst, ◌∙◌, arith}
use Rattle.std.proofs.lemmas.List.{take_all}
use Rattle.text_out.specs.GatherLaws.{gathers_two}
use Rattle.text_out.specs.Gathers.{Gathers}
use Rattle.net_graph.specs.Members.{members_of}
use Rattle.reduced_text.specs.Text.{next_number}
use Rattle.reduced_text.proofs.lemmas.Texts.{members_with, members_without}
use Rattle.reduced_text.proofs.write.write_originals.Goals as goal
use Rattle.reduced_text.proofs.write.write_originals.Goals.{then-has, else-has}

pub loop-e-preserved : goal.loop-e-preserved
loop-e-preserved g c =
    let set = c.args.originals.now in
    let e = c.loop-e.e in
    let below : e < length set = omega (
      arith,
      c.loop-e-test.true,
      c.len-e-end.ensures,
    ) in
    elim c.if-has.branch [
      | then-has w ↦ subst (λ b. Gathers (g.S.Sink.state c.args.sink.now) c.args.block.now
          (flat_map next_number (members_of (take (e + 1) set))) (g.S.Sink.state c.if-has.sink) b)
          (sym w.block-is)
          (subst (λ s. Gathers (g.S.Sink.state c.args.sink.now) c.args.block.now
          (flat_map next_number (members_of (take (e + 1) set))) (g.S.Sink.state s) w.write_next.new.block)
          (sym w.sink-is)
          (gathers_two _ _ _ _ _ _ _ _ _ c.loop-e.invariant w.write_next.ensures
          (members_with next_number set e below (sym c.has.ensures ∙ w.if-has.true))))
      | else-has w ↦ subst (λ b. Gathers (g.S.Sink.state c.args.sink.now) c.args.block.now
          (flat_map next_number (members_of (take (e + 1) set))) (g.S.Sink.state c.if-has.sink) b)
          (sym w.block-is)
          (subst (λ s. Gathers (g.S.Sink.state c.args.sink.now) c.args.block.now
          (flat_map next_number (members_of (take (e + 1) set))) (g.S.Sink.state s) c.loop-e.block) (sym w.sink-is)
          (subst (λ ns. Gathers (g.S.Sink.state c.args.sink.now) c.args.block.now (flat_map next_number ns)
          (g.S.Sink.state c.loop-e.sink) c.loop-e.block)
          (members_without set e below (sym c.has.ensures ∙ w.if-has.false)) c.loop-e.invariant))
    ]

pub returns : goal.returns
returns g c =
    grind (arith, take_all, next_number, members_of, c.loop-e.e, c.loop-e-test.false, c.len-e-end.ensures, c.loop-e.sink, c.loop-e.block, c.loop-e.invariant)
