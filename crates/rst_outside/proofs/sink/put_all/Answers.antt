use Rattle.std.proofs.Common.{◌++◌, take, ◌∙◌}
use Rattle.rst_outside.specs.FedLaws.{moved_on}
use Rattle.rst_outside.specs.SinkLaws.{wrote_some, wrote_more}
use Rattle.rst_outside.proofs.sink.put_all.Goals as goal

pub loop-rest-preserved : goal.loop-rest-preserved
loop-rest-preserved g c =
    let (front, parts, wrote) = c.loop-rest.invariant in
    let rest = c.loop-rest.rest.now in
    let n = c.in-Ok.n in
    let told = c.in-Ok.ensures in
    let now = wrote_some _ rest n _ told.within told.appended told.count told.room in
    (front ++ take n rest, parts ∙ moved_on front rest n, wrote_more _ front _ (take n rest) _ wrote now)
