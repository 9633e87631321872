use Rattle.std.proofs.Common.{subst, sym, refl, ap, ◌+◌, ◌∙◌, arith}
use Rattle.std.proofs.lemmas.Option.{slice_get_within, same_Some}
use Rattle.fst_prune.specs.Within.{ArePairsWithin}
use Rattle.fst_prune.proofs.lemmas.Pairs.{pairs_passed, pairs_added, pair_found, pair_absent}
use Rattle.fst_prune.proofs.within.add_pair.Goals as goal

pub get-requires : goal.get-requires
get-requires c =
    grind (arith, pair_found c.args.trees.now c.args.places.now c.args.firsts.now c.requires.firsts c.requires.ascending c.args.lower c.args.upper c.requires.lower c.requires.upper c.first_of.result c.first_of.ensures c.in-Some.place c.in-Some.is, slice_get_within)

pub returns-in-Some : goal.returns-in-Some
returns-in-Some c =
    let pair = pair_found c.args.trees.now c.args.places.now c.args.firsts.now c.requires.firsts c.requires.ascending
    c.args.lower c.args.upper c.requires.lower c.requires.upper c.first_of.result c.first_of.ensures c.in-Some.place c.in-Some.is in
    let same = same_Some c.get.result.now pair.0 (sym c.get.ensures ∙ pair.1.at) in
    subst (λ pairs. ArePairsWithin c.args.trees.now c.args.places.now c.args.upper (c.args.lower + 1) pairs) (sym c.push.ensures)
    (pairs_added c.args.trees.now c.args.places.now c.args.upper c.args.lower c.args.pairs.now _ c.in-Some.place pair.0
    c.requires.lower c.requires.upper refl refl (ap (λ tree. tree.length) same) pair.1 c.requires.pairs)

pub returns-in_default : goal.returns-in_default
returns-in_default c =
    grind (arith, pairs_passed c.args.trees.now c.args.places.now c.args.upper c.args.lower c.args.pairs.now (pair_absent c.args.trees.now c.args.places.now c.args.firsts.now c.requires.firsts c.requires.ascending c.args.lower c.args.upper c.requires.lower c.requires.upper c.first_of.result c.first_of.ensures c.in_default.is) c.requires.pairs)
