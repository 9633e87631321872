use Rattle.std.proofs.Common.{arith}
use Rattle.std.proofs.lemmas.Option.{same_Some}
use Rattle.net_graph.specs.EntryLaws.{slice_get-set_other}
use Rattle.graph_reduce.proofs.lemmas.Choices.{set_over}
use Rattle.graph_reduce.proofs.work.Work.join_edges.Goals as goal

pub returns : goal.returns
returns c = grind (arith, same_Some, slice_get-set_other, set_over)
