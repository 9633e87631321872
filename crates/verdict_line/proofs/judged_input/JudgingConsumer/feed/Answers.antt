-- The checker was fed the piece.
use Rattle.verdict_line.proofs.judged_input.JudgingConsumer.feed.Goals as goal

pub returns : goal.returns
returns g c = λ front stands. c.feed.ensures g.K.About.named front stands
