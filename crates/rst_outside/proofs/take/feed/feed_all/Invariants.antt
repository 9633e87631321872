use Rattle.std.proofs.Common.{◌≡◌, ℕ, ◌+◌, ◌≤◌, List, length}
use Rattle.rst_outside.specs.Source.{Came}
use Rattle.rst_outside.specs.Fed.{Fed}
use Rattle.rst_outside.proofs.take.feed.feed_all.Given as goal

-- The bytes that are not left of those allowed came and were fed.
abbrev pub invariant-pieces : goal.invariant-pieces
invariant-pieces g l = record {
  fed : (bytes : List ℕ) × (length bytes + l.left ≡ l.limit)
      × Came (g.S.Source.state l.fn.source).rest bytes (g.S.Source.state l.source).rest
      × Fed g.C.Consumer.stands l.fn.consumer bytes l.consumer;
  count : (g.S.Source.state l.fn.source).faults ≤ (g.S.Source.state l.source).faults;
}

-- Each turn but the last brings bytes.
abbrev pub decreases-pieces : goal.decreases-pieces
decreases-pieces g l = l.left
