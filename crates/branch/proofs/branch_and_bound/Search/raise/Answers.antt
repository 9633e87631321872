-- Where the new leaf's value is greater it stands in place of the only one, and else that one is worth as much.
use Rattle.std.proofs.Common.{◌<◌, length, rules, arith}
use Rattle.net_graph.specs.Decision.{nothing_decided}
use Rattle.branch.specs.Leaves.{leaf_under}
use Rattle.branch.specs.Notes.{IsNoteOf}
use Rattle.branch.proofs.lemmas.RaisedLemmas.{some_note, raised, stays_raised}
use Rattle.branch.proofs.branch_and_bound.Search.raise.Goals as goal

pub index-first-requires : goal.index-first-requires
index-first-requires _ c =
    let some : 0 < length c.self.inside.kept.notes.items = some_note _ _ c.self.invariant in search rules

pub returns-in_ok-self-inside-clause-ok : goal.returns-in_ok-self-inside-clause-ok
returns-in_ok-self-inside-clause-ok _ c =
    let of_note : IsNoteOf c.self.inside.graph.now (leaf_under (nothing_decided c.self.inside.graph.now) c.in_ok-leaf.leaf.packing) c.in_ok-leaf.leaf.note =
    c.in_ok-leaf.ensures.note in
    raised c.self.inside.graph.now c.self.inside.kept c.in_ok-self-inside.field-0 c.args.self.now c.index-first.result.now
    c.in_ok-leaf.leaf.note c.in_ok-leaf.leaf.packing c.args.cuts c.self.invariant c.self.view_is c.requires.leaf c.index-first.ensures
    c.in_ok-self-inside.ensures.kind c.in_ok-self-inside.ensures.first c.in_ok-self-inside.ensures.leaf c.in_ok-self-inside.ensures.notes
    c.in_ok-self-inside.ensures.network of_note c.in_ok-leaf.ensures.begins (omega arith)

pub returns-else-first-leaf-clause-ok : goal.returns-else-first-leaf-clause-ok
returns-else-first-leaf-clause-ok _ c =
    let of_note : IsNoteOf c.self.inside.graph.now (leaf_under (nothing_decided c.self.inside.graph.now) c.in_ok-leaf.leaf.packing) c.in_ok-leaf.leaf.note =
    c.in_ok-leaf.ensures.note in
    stays_raised c.self.inside.graph.now c.self.inside.kept c.args.self.now c.index-first.result.now c.in_ok-leaf.leaf.note
    c.in_ok-leaf.leaf.packing c.args.cuts c.self.invariant c.self.view_is c.requires.leaf c.index-first.ensures of_note
    c.in_ok-leaf.ensures.begins (omega arith)
