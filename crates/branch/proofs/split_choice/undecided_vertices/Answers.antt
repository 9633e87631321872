-- One more vertex, which is a candidate or isn't.
use Rattle.std.proofs.Common.{◌≡◌, ◌<◌, length, ◌∙◌, arith}
use Rattle.branch.specs.Meeting.{edges_at}
use Rattle.branch.proofs.lemmas.CandidateLemmas.{gathered_more}
use Rattle.branch.proofs.lemmas.MeetingLemmas.{count_read}
use Rattle.branch.proofs.split_choice.undecided_vertices.Goals as goal
use Rattle.branch.proofs.split_choice.undecided_vertices.Goals.{then-size-gt0+then-vertex_undecided+in_ok-push, else-size-gt0}

pub loop-v-preserved : goal.loop-v-preserved
loop-v-preserved c =
    let below : c.loop-v.v < c.args.g.now.vertices = omega arith in
    let size = c.in_ok-counts.ensures.size in
    let within : c.loop-v.v < length c.in_ok-counts.counts.items = omega arith in
    let read = count_read c.in_ok-counts.counts.items c.loop-v.v c.index-size.result.now within c.index-size.ensures in
    let count = c.in_ok-counts.ensures.counts c.loop-v.v below in
    let sized : c.index-size.result.now ≡ edges_at c.args.g.now.edges c.args.network.now c.loop-v.v = read ∙ count in
    elim c.if-size-gt0.branch [
      | then-size-gt0+then-vertex_undecided+in_ok-push w ↦
          rw (w.list-is, w.in_ok-push.ensures.items)
          (gathered_more _ _ _ _ _ c.loop-v.invariant (record {
            vertex = record {
              some = let from = w.from.ensures in omega arith;
              undecided = w.vertex_undecided.ensures.0 w.if-vertex_undecided.true;
            };
            size = let from = w.from.ensures in omega arith;
          }))
      | else-size-gt0 w ↦ rw w.list-is (grind arith)
    ]

pub returns-clause-every : goal.returns-clause-every
returns-clause-every c = grind arith
