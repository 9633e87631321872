use Rattle.full_tree.specs.Code.{named_places}
use Rattle.full_tree.specs.MembersLaws.{ascending_places_from_sort}
use Rattle.full_tree.proofs.membership.sorted.Goals as goal

pub returns : goal.returns
returns c =
    ascending_places_from_sort (named_places c.args.code.now) c.sort.new.self (rw c.named-places.ensures at c.sort.ensures.permutation) c.sort.ensures.sorted c.requires.distinct
