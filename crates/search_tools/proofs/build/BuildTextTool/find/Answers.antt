-- What was found of the file that the text spells is due to the text.
use Rattle.std.proofs.Common.{subst}
use Rattle.tool_frame.specs.Stops.{IfFound}
use Rattle.tree_inputs.specs.Files.{ReadsFst}
use Rattle.search_tools.proofs.SearchLaws.{built_due}
use Rattle.search_tools.proofs.build.BuildTextTool.find.Goals as goal

pub returns-clause-finds : goal.returns-clause-finds
returns-clause-finds c =
    built_due c.args.self.now.options c.args.bytes.now c.in_ok-file.file c.solution_of.result c.within-2.result _
    (λ place fault is. is)
    (subst (λ r. IfFound r (ReadsFst c.args.bytes.now)) c.in_ok-file.ensures c.fst_in.ensures) c.solution_of.ensures
    c.within-2.ensures
