use Rattle.std.proofs.Common.{refl}
use Rattle.answer_upgrade.proofs.LineChanges.{becomes_title, becomes_split, stays}
use Rattle.answer_upgrade.proofs.upgrade.write_line.Goals as goal

pub write_split-requires : goal.write_split-requires
write_split-requires g c = c.in-Split.ensures.long refl

pub returns-in-Title : goal.returns-in-Title
returns-in-Title g c = λ v V l fits told. rw (becomes_title l (c.in-Title.ensures.change v V l fits told)) c.literal.ensures

pub returns-in-Split : goal.returns-in-Split
returns-in-Split g c = λ v V l fits told.
    rw (becomes_split l (c.in-Split.ensures.change v V l fits told), ← told) c.write_split.ensures

pub returns-in-Stays : goal.returns-in-Stays
returns-in-Stays g c = λ v V l fits told.
    rw (stays l (c.in-Stays.ensures.change v V l fits told), ← told) c.write_same.ensures
