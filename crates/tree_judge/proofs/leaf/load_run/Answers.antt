use Rattle.std.proofs.Common.{ℕ, ◌+◌, refl, arith}
use Rattle.std.specs.Int.{trailing_zeros}
use Rattle.std.proofs.Common.{w64}
use Rattle.tree_judge.specs.Cuts.{cut_of}
use Rattle.tree_judge.proofs.lemmas.Leaves.{IsFirstOverload-kept, LoadsBelow-more, LoadsBelow-whole}
use Rattle.tree_judge.proofs.lemmas.Marks.{mark_within, whole_before, marks_behind, whole_behind}
use Rattle.tree_judge.proofs.leaf.load_run.Goals as goal

pub edge-requires : goal.edge-requires
edge-requires g c =
    let inside = mark_within c.args.g.now c.args.members.now c.loop-marks.marks c.loop-marks.n
    (g.B.Border.before c.args.g.now c.args.border.now (c.args.place + 1))
    c.loop-marks.invariant.marks (omega arith) (omega arith) in
    omega (arith, inside, c.run-run.ensures.within)

pub load_edge-requires-clause-there : goal.load_edge-requires-clause-there
load_edge-requires-clause-there g c =
    let inside = mark_within c.args.g.now c.args.members.now c.loop-marks.marks c.loop-marks.n
    (g.B.Border.before c.args.g.now c.args.border.now (c.args.place + 1))
    c.loop-marks.invariant.marks (omega arith) (omega arith) in
    omega (arith, inside, c.run-run.ensures.within, c.loop-marks.invariant.size.there)

pub load_edge-requires-clause-back : goal.load_edge-requires-clause-back
load_edge-requires-clause-back g c =
    let inside = mark_within c.args.g.now c.args.members.now c.loop-marks.marks c.loop-marks.n
    (g.B.Border.before c.args.g.now c.args.border.now (c.args.place + 1))
    c.loop-marks.invariant.marks (omega arith) (omega arith) in
    omega (arith, inside, c.run-run.ensures.within, c.loop-marks.invariant.size.back)

pub state_at-state-requires-clause-edge : goal.state_at-state-requires-clause-edge
state_at-state-requires-clause-edge g c =
    let inside = mark_within c.args.g.now c.args.members.now c.loop-marks.marks c.loop-marks.n
    (g.B.Border.before c.args.g.now c.args.border.now (c.args.place + 1))
    c.loop-marks.invariant.marks (omega arith) (omega arith) in
    omega (arith, inside, c.run-run.ensures.within)

pub returns-in-Err-clause-fault : goal.returns-in-Err-clause-fault
returns-in-Err-clause-fault g c cuts cut below =
    let cut_read = cut_of c.args.weight c.args.members.now in
    let next : ℕ = c.loop-marks.n + trailing_zeros w64 c.loop-marks.marks in
    let d = c.args.decided.now in
    let reached = LoadsBelow-whole c.args.g.now cuts cut_read c.loop-marks.n next d c.loop-marks.loads (omega arith)
    (whole_before c.args.g.now c.args.members.now c.loop-marks.marks c.loop-marks.n
    (g.B.Border.before c.args.g.now c.args.border.now (c.args.place + 1))
    c.loop-marks.invariant.marks (omega arith) (omega arith)) (c.loop-marks.invariant.loads cuts below) in (
      refl,
      cut,
      IsFirstOverload-kept c.args.g.now cuts cut_read next c.edge.result c.state_at-state.result c.in-Err.over d
          c.loop-marks.loads c.edge.ensures.edge c.state_at-state.ensures reached (c.in-Err.ensures.over cuts),
    )

pub loop-marks-preserved : goal.loop-marks-preserved
loop-marks-preserved g c =
    let cut_read = cut_of c.args.weight c.args.members.now in
    let next : ℕ = c.loop-marks.n + trailing_zeros w64 c.loop-marks.marks in
    let d = c.args.decided.now in
    record {
      size = grind arith;
      loads = λ cuts below.
          let reached = LoadsBelow-whole c.args.g.now cuts cut_read c.loop-marks.n next d c.loop-marks.loads
          (omega arith)
          (whole_before c.args.g.now c.args.members.now c.loop-marks.marks c.loop-marks.n
          (g.B.Border.before c.args.g.now c.args.border.now (c.args.place + 1))
          c.loop-marks.invariant.marks (omega arith) (omega arith)) (c.loop-marks.invariant.loads cuts below) in
          LoadsBelow-more c.args.g.now cuts cut_read next c.edge.result c.state_at-state.result d c.loop-marks.loads
          c.load_edge.new.loads c.load_edge.ensures.only c.edge.ensures.edge c.state_at-state.ensures
          (c.in_default.ensures.passes cuts) reached;
      marks = marks_behind c.args.g.now c.args.members.now c.loop-marks.marks c.loop-marks.n
          (g.B.Border.before c.args.g.now c.args.border.now (c.args.place + 1))
          (trailing_zeros w64 c.loop-marks.marks) c.loop-marks.invariant.marks
          (mark_within c.args.g.now c.args.members.now c.loop-marks.marks c.loop-marks.n
          (g.B.Border.before c.args.g.now c.args.border.now (c.args.place + 1))
          c.loop-marks.invariant.marks (omega arith) (omega arith));
    }

pub returns-clause-loads : goal.returns-clause-loads
returns-clause-loads g c cuts below =
    LoadsBelow-whole c.args.g.now cuts (cut_of c.args.weight c.args.members.now) c.loop-marks.n
    (g.B.Border.before c.args.g.now c.args.border.now (c.args.place + 1))
    c.args.decided.now c.loop-marks.loads c.loop-marks.invariant.marks.within
    (whole_behind c.args.g.now c.args.members.now c.loop-marks.marks c.loop-marks.n
    (g.B.Border.before c.args.g.now c.args.border.now (c.args.place + 1))
    c.loop-marks.invariant.marks (omega arith)) (c.loop-marks.invariant.loads cuts below)
