use Rattle.std.proofs.Common.{take}
use Rattle.full_tree.specs.Pieces.{pieces_of}
use Rattle.full_tree.specs.Embedded.{Embeds}
use Rattle.full_tree.proofs.embedding.embed.Given as goal

-- the pieces before this one are embedded
abbrev pub invariant-loop-n : goal.invariant-loop-n
invariant-loop-n l = Embeds l.grid (take l.n (pieces_of l.grid l.code)) l.set
