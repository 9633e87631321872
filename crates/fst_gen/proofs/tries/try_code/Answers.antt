use Rattle.std.proofs.Common.{arith, refl, length}
use Rattle.fst_gen.proofs.lemmas.Tries.{Generates-from_keep, members_small}
use Rattle.fst_gen.proofs.tries.try_code.Goals as goal

pub keep-requires-clause-places : goal.keep-requires-clause-places
keep-requires-clause-places c = grind (arith, members_small, c.if-not-passes.ensures.0 refl)

pub keep-requires-clause-all_few : goal.keep-requires-clause-all_few
keep-requires-clause-all_few c = λ word tree at. (c.requires.store.sound word tree at).wanted.passes.form.members

pub returns : goal.returns
returns c = Generates-from_keep c.args.grid.now c.args.most record { length = c.tree_length-length.result; code = c.args.code } c.args.trees.now _ c.keep.result
    c.requires.store c.tree_length-length.ensures.length
    (record { passes = c.if-not-passes.ensures.0 refl; few = omega (arith, c.member_count.ensures) }) c.keep.ensures
