-- What the first leaf shows is a network.
use Rattle.std.proofs.Common.{◌<◌, length, rules, arith}
use Rattle.branch.proofs.lemmas.OfferedLemmas.{own_network, IfSome-copied}
use Rattle.branch.proofs.lemmas.RaisedLemmas.{some_note, first_kept, shown_is}
use Rattle.branch.proofs.branch_and_bound.Search.shown.Goals as goal

pub index-requires : goal.index-requires
index-requires _ c =
    let some : 0 < length c.self.inside.kept.notes.items = some_note _ _ c.self.invariant in search rules

pub returns-clause-shown : goal.returns-clause-shown
returns-clause-shown _ c =
    grind (arith, shown_is c.self.inside.graph.now c.self.inside.kept c.index.result.now c.self.invariant c.index.ensures)

pub returns-clause-first : goal.returns-clause-first
returns-clause-first _ c =
    grind (arith, shown_is (c.self.inside.graph.now) c.self.inside.kept c.index.result.now c.self.invariant c.index.ensures, first_kept (c.self.inside.graph.now) c.self.inside.kept c.index.result.now c.self.invariant c.index.ensures)

pub returns-clause-network_of : goal.returns-clause-network_of
returns-clause-network_of _ c =
    grind (arith, first_kept (c.self.inside.graph.now) c.self.inside.kept c.index.result.now c.self.invariant c.index.ensures, own_network, IfSome-copied)
