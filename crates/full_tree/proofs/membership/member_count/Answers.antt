use Rattle.std.proofs.Common.{◌∙◌, sym}
use Rattle.full_tree.specs.Code.{named_places}
use Rattle.full_tree.specs.MembersLaws.{length-ascending_places}
use Rattle.full_tree.proofs.membership.member_count.Goals as goal

pub returns : goal.returns
returns c = c.named_count.ensures ∙ sym (length-ascending_places (named_places c.args.code.now) c.requires.distinct)
