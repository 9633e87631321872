-- A least joining by pairs is one by trees of two members.
use Rattle.std.proofs.Common.{◌∙◌, map, arith}
use Rattle.fst_concat.specs.Pairs.{pair_of}
use Rattle.fst_concat.proofs.lemmas.Pairs.{pairs_below, joined_of, up_to_joined, up_to_none, if_ok, total-of_pairs, concatenation_of_pairs}
use Rattle.fst_concat.proofs.start.first_best.Goals as goal

pub least_joining-requires-clause-ends : goal.least_joining-requires-clause-ends
least_joining-requires-clause-ends c =
    grind (arith, pairs_below c.args.points c.args.trees.now c.requires.trees, c.deref.ensures.value, c.in_ok-pairs.ensures)

pub returns-in-Some-clause-chosen : goal.returns-in-Some-clause-chosen
returns-in-Some-clause-chosen c = grind (arith, concatenation_of_pairs c.args.points c.args.trees.now (joined_of c.args.points c.deref.result.now (map pair_of c.args.trees.now) c.in_ok-joined.field-0 c.in-Some.joined c.in_ok-joined.ensures.least c.in-Some.is (c.deref.ensures.value ∙ c.in_ok-pairs.ensures)).set c.requires.trees (joined_of c.args.points c.deref.result.now (map pair_of c.args.trees.now) c.in_ok-joined.field-0 c.in-Some.joined c.in_ok-joined.ensures.least c.in-Some.is (c.deref.ensures.value ∙ c.in_ok-pairs.ensures)).joins, total-of_pairs c.args.trees.now (joined_of c.args.points c.deref.result.now (map pair_of c.args.trees.now) c.in_ok-joined.field-0 c.in-Some.joined c.in_ok-joined.ensures.least c.in-Some.is (c.deref.ensures.value ∙ c.in_ok-pairs.ensures)).set)

pub returns-in-Some-clause-pairs : goal.returns-in-Some-clause-pairs
returns-in-Some-clause-pairs c = up_to_joined c.args.points c.args.trees.now c.in-Some.joined
    (joined_of c.args.points c.deref.result.now (map pair_of c.args.trees.now) c.in_ok-joined.field-0 c.in-Some.joined
    c.in_ok-joined.ensures.least c.in-Some.is (c.deref.ensures.value ∙ c.in_ok-pairs.ensures))

pub returns-clause-pairs : goal.returns-clause-pairs
returns-clause-pairs c = if_ok c.of_set.result _ (λ best. up_to_none c.args.points c.args.trees.now c.deref.result.now
    c.in_ok-joined.field-0 best.total c.in_ok-joined.ensures.none c.in-None.is (c.deref.ensures.value ∙ c.in_ok-pairs.ensures))
