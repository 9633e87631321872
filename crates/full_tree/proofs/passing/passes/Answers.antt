use Rattle.std.proofs.Common.{refl}
use Rattle.full_tree.proofs.lemmas.Clear.{stations_within, keeps_there, keeps_here}
use Rattle.full_tree.proofs.passing.passes.Goals as goal

pub keeps_bottlenecks-requires-clause-members : goal.keeps_bottlenecks-requires-clause-members
keeps_bottlenecks-requires-clause-members c = stations_within c.args.grid.now c.args.table.now c.args.code.now _ _
    c.requires c.as_slice.ensures.stations c.stations.ensures (c.if-not-in_form.ensures.0 refl).terminals

pub returns-then-not-keeps_bottlenecks : goal.returns-then-not-keeps_bottlenecks
returns-then-not-keeps_bottlenecks c = (
  λ said. absurd cc,
  λ passes. c.if-not-keeps_bottlenecks.ensures.1 (keeps_there c.args.grid.now c.args.table.now c.args.code.now _ _
      c.requires c.as_slice.ensures.stations c.stations.ensures passes.bottlenecks),
)

pub returns : goal.returns
returns c = (
  λ said. record {
    form = c.if-not-in_form.ensures.0 refl;
    clear = c.has_clear_pieces.ensures.0 said;
    bottlenecks = keeps_here c.args.grid.now c.args.table.now c.args.code.now _ _
        c.requires c.as_slice.ensures.stations c.stations.ensures (c.if-not-keeps_bottlenecks.ensures.0 refl);
  },
  λ passes. c.has_clear_pieces.ensures.1 passes.clear,
)
