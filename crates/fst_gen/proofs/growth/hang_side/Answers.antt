use Rattle.std.proofs.Common.{◌∙◌, ◌≡◌, sym, arith}
use Rattle.fst_gen.proofs.lemmas.Stores.{Generates-only}
use Rattle.fst_gen.proofs.growth.hang_side.Goals as goal

pub returns-then-not-is_on_short_leg : goal.returns-then-not-is_on_short_leg
returns-then-not-is_on_short_leg c = grind arith

pub returns : goal.returns
returns c = Generates-only c.args.grid.now c.args.most (λ other. other ≡ c.code_of.result) _ c.args.trees.now _ c.try_code.result c.try_code.ensures
    (λ code kind wanted. kind ∙ sym c.code_of.ensures)
