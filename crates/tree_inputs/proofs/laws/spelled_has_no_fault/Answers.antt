use Rattle.section_text.specs.Laws.{no_fault, one_value}
use Rattle.fst_file.specs.Format.{fst_format}
use Rattle.fst_file.specs.TextLaws.{file_spelled}
use Rattle.tree_inputs.proofs.laws.spelled_has_no_fault.Goals as goal

pub returns-clause-no_fault : goal.returns-clause-no_fault
returns-clause-no_fault c = λ bytes file fault spells (is, told).
    no_fault fst_format c.one_outcome.ensures c.values_are_spelled.ensures bytes file fault
    (file_spelled bytes file spells) (is told)

pub returns-clause-one : goal.returns-clause-one
returns-clause-one c = λ bytes v w spells spelled.
    one_value fst_format c.one_outcome.ensures c.values_are_spelled.ensures bytes v w (file_spelled bytes v spells)
    (file_spelled bytes w spelled)
