use Rattle.std.proofs.Common.{inl}
use Rattle.net_graph.proofs.lemmas.LentRoomLemmas.{room_in_queue, queue_more, AreFoundInRoom-more}
use Rattle.net_graph.proofs.lent_room.add_vertex.Goals as goal

pub bounds-queue-count : goal.bounds-queue-count
bounds-queue-count c = room_in_queue c.args.marks.now c.args.queue.now c.args.count c.args.vertex c.requires.found c.requires.vertex c.if-marks-vertex-eq1.false

pub returns-clause-found : goal.returns-clause-found
returns-clause-found c =
    rw c.from.ensures (AreFoundInRoom-more c.args.marks.now c.args.queue.now c.args.count c.args.vertex c.requires.found c.requires.vertex c.if-marks-vertex-eq1.false)

pub returns-clause-order : goal.returns-clause-order
returns-clause-order c =
    rw c.from.ensures (inl (queue_more c.args.queue.now c.args.count c.args.vertex
    (room_in_queue c.args.marks.now c.args.queue.now c.args.count c.args.vertex c.requires.found c.requires.vertex c.if-marks-vertex-eq1.false)))
