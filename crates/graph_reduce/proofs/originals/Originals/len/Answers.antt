use Rattle.std.proofs.Common.{length, sym, ap, ◌∙◌}
use Rattle.graph_reduce.proofs.lemmas.Originals.{length-flags}
use Rattle.graph_reduce.proofs.originals.Originals.len.Goals as goal

pub returns : goal.returns
returns c = sym (length-flags c.self.inside.size c.self.inside.numbers.items) ∙ ap length c.self.view_is
