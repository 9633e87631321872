use Rattle.std.proofs.Common.{◌++◌, codes}
use Rattle.std.specs.Fmt.{decimal}
use Rattle.lists.specs.ListLaws.{flat_map-take_more}
use Rattle.text_out.specs.GatherLaws.{gathers_two}
use Rattle.full_tree.specs.Code.{members_of}
use Rattle.printed_texts.proofs.trees.write_members.Goals as goal

pub loop-n-preserved : goal.loop-n-preserved
loop-n-preserved g c =
    gathers_two _ _ _ _ _ _ _ _ _ c.loop-n.invariant c.write_place.ensures
    (flat_map-take_more (λ k. decimal k ++ codes " ") (members_of c.args.code.now) c.loop-n.n c.member.result c.member.ensures)
