use Rattle.full_tree.proofs.lemmas.Joins.{joins_members}
use Rattle.full_tree.proofs.pieces.piece_count.Goals as goal

pub returns-clause-joins : goal.returns-clause-joins
returns-clause-joins c = joins_members c.args.grid.now c.args.code.now c.requires
